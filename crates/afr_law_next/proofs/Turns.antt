-- A line that its actor's register allows comes next, and all registers stand for it.
use Rattle.std.proofs.Common.{◌≡◌, ℕ, ◌<◌, ◌≤◌, ◌==◌, Bool, true, false, inl, inr, refl, subst, arith, List, ◌∷◌, length}
use Rattle.std.specs.Prelude.{Some, if◌then◌else◌}
use Rattle.afr_base.specs.declared.ids.ActorId.{ActorId}
use Rattle.afr_base.specs.declared.ids.BrickId.{BrickId}
use Rattle.afr_base.specs.declared.ids.Gfid.{Gfid}
use Rattle.afr_base.specs.declared.ids.Kind.{Kind}
use Rattle.afr_base.proofs.TestLemmas.{same_number}
use Rattle.afr_object.specs.declared.change.Change.{Change}
use Rattle.afr_object.specs.declared.change.Change.TheVariants.{Write, Cut, SetAttr, Make, Remove}
use Rattle.afr_lines.specs.declared.lock.Domain.TheVariants.{Heal, Work}
use Rattle.afr_lines.specs.Places.{Between, Fresh, Indexed, Place, Within, next_place, opens, place_of}
use Rattle.afr_lines.specs.declared.answer.Told.{Told}
use Rattle.afr_lines.specs.declared.answer.Told.TheVariants.{NotConnected}
use Rattle.afr_lines.specs.declared.line.Line.{Line}
use Rattle.afr_lines.specs.declared.line.Line.TheVariants.{Ask, Begin, End, HealBegin, HealEnd}
use Rattle.afr_lines.specs.declared.line.Line.TheVariants as line_of
use Rattle.afr_lines.specs.declared.reply.HealReply.{HealReply}
use Rattle.afr_lines.specs.declared.reply.Reply.{Reply}
use Rattle.afr_lines.specs.declared.request.Request.{Request}
use Rattle.afr_lines.specs.declared.request.Request.TheVariants.{Lock}
use Rattle.afr_plan.specs.declared.plan.Plan.{Plan}
use Rattle.afr_law_tables.specs.Codes.{kept_by}
use Rattle.afr_model_moves.specs.Discipline.{BeginsKnown, in_force}
use Rattle.afr_model_moves.specs.Followed.{register_by}
use Rattle.afr_model_moves.specs.Lines.{is_ok}
use Rattle.afr_model_moves.specs.Positions.{by_position}
use Rattle.afr_model_moves.specs.Ranges.{InRange}
use Rattle.afr_model_moves.proofs.Followed.{exact_line, moves_next}
use Rattle.afr_discipline.specs.Stands.{HasFive, Stands, no_lines}
use Rattle.afr_discipline.specs.declared.register.Move.{Move}
use Rattle.afr_discipline.specs.declared.register.Move.TheVariants as move
use Rattle.afr_discipline.specs.declared.register.Register.{Register}
use Rattle.afr_discipline.specs.Free.{AllowsAsk}
use Rattle.afr_law_next.specs.Turn.{EachLineIsKept, InForce, IsMove, IsTurn, Stood}
use Rattle.afr_law.specs.Beginning.{start_of}
use Rattle.afr_law.specs.Exactly.{name_bound}
use Rattle.afr_law.specs.ModelNext.{IsNext, asking}
use Rattle.afr_law_next.specs.Asked.{AllowedMayBeAsked, AskedIsNoted}
use Rattle.afr_law_next.specs.Begun.{AllowedMayBegin, HasNewGfid}
use Rattle.afr_law_next.specs.Ended.{AllowedMayEnd}
use Rattle.afr_law_next.specs.Happened.{EventKeepsAll}
use Rattle.afr_law_next.specs.Healed.{AllowedMayHealBegin, AllowedMayHealEnd}
use Rattle.afr_law_next.specs.Standing.{AllStand, ComesNext}

-- ---- a request
-- a request opens sessions whatever it is told
pub opens_alike : (at : Place) (a : ActorId) (b : BrickId) (request : Request) (told : Told) (took : Bool) → opens at (asking a b request) ≡ opens at (Ask a b request told took)
opens_alike Fresh a b request told took = refl
opens_alike Indexed a b (Lock Heal area) told took = refl
opens_alike Indexed a b (Lock Work area) told took = refl
opens_alike Indexed a b request told took = refl
opens_alike Between a b (Lock Heal area) told took = refl
opens_alike Between a b (Lock Work area) told took = refl
opens_alike Between a b request told took = refl
opens_alike Within a b request told took = refl

-- the move that asks
abbrev move_asking : BrickId → Request → Move
move_asking b request = move.Ask b (record { ref_ptr = (0, 0); now = request })

-- the register that is in force before the answer is in force at the line with the answer
force_answered : (p : Plan) (log : List Line) (a : ActorId) (b : BrickId) (request : Request) (r : Register) (told : Told) (took : Bool) → InForce p.shape a.0 log (asking a b request) r → InForce p.shape a.0 log (Ask a b request told took) r
force_answered p log a b request r told took k = record {
  shape_is = k.shape_is;
  stands = subst (λ (first : Bool). Stands r (in_force first (register_by p.shape.n (kept_by p) a.0 log))) (opens_alike (place_of a.0 log) a b request told took) k.stands;
}

ask_turn : EachLineIsKept → (p : Plan) (log : List Line) (a : ActorId) (b : BrickId) (request : Request) (r : Register) (told : Told) (took : Bool) → p.shape.n ≤ 5 → HasFive r
    → InForce p.shape a.0 log (asking a b request) r → AllowsAsk r b request → b.0 < 5 → IsTurn p.shape a log r (move_asking b request) told (Ask a b request told took)
ask_turn kept p log a b request r told took few five k may low =
    kept p.shape a log r (move_asking b request) told (Ask a b request told took) few five (force_answered p log a b request r told took k) low (took, refl) (may (move_asking b request) (refl, refl))

pub may_be_asked : EachLineIsKept → AllowedMayBeAsked
may_be_asked kept p log a b request r few five k may low range = (range, moves_next p.shape.n (kept_by p) (asking a b request) log (ask_turn kept p log a b request r NotConnected false few five k may low).lawful)

pub asked_is_noted : EachLineIsKept → AskedIsNoted
asked_is_noted kept p log a b request r told took few five k may low = (let turn = ask_turn kept p log a b request r told took few five k may low in record { own = turn.own; others = turn.others })

-- ---- a Begin
-- what is made new is known
pub new_known : (p : Plan) (log : List Line) (a : ActorId) (change : Change) → HasNewGfid (length log) change → BeginsKnown (start_of p (name_bound p)) (by_position log) (length log) (Some (Begin a change))
new_known p log a (Write g at bytes) h = tt
new_known p log a (Cut g len) h = tt
new_known p log a (SetAttr g key value) h = tt
new_known p log a (Make dir name g what) h = inl h
new_known p log a (Remove dir name what) h = tt

-- a turn comes next, where its numbers fit and what it makes is known
comes : (p : Plan) (log : List Line) (a : ActorId) (line : Line) (r : Register) → IsMove p.shape line log → InRange line → BeginsKnown (start_of p (name_bound p)) (by_position log) (length log) (Some line) → AllStand p.shape a line log r → ComesNext p a line log r
comes p log a line r lawful range known stand =
    let next : IsNext p line log = exact_line p.shape.n (start_of p (name_bound p)) line log range lawful known in
    record { next = next; lawful = λ before. (next, before); stand = stand }

pub may_begin : EachLineIsKept → AllowedMayBegin
may_begin kept p log a change r few five k may range known =
    let step = move.Begin (record { ref_ptr = (0, 0); now = change }) in
    let turn = kept p.shape a log r step NotConnected (Begin a change) few five k tt refl (may step refl) in
    comes p log a (Begin a change) _ turn.lawful range known (record { own = turn.own; others = turn.others })

-- ---- an End
ends_fresh : (at : Place) (a : ActorId) (said : Reply) → next_place at (End a said) ≡ Fresh
ends_fresh Fresh a said = refl
ends_fresh Indexed a said = refl
ends_fresh Between a said = refl
ends_fresh Within a said = refl

pub may_end : EachLineIsKept → AllowedMayEnd
may_end kept p log a said r few five k outside may range =
    let step = move.End (is_ok said) in
    let turn = kept p.shape a log r step NotConnected (End a said) few five k tt (inl (record { outside = outside; reply = said; is = refl; says = refl })) (may step refl) in
    (comes p log a (End a said) r turn.lawful range tt (record { own = subst (Stood p.shape a.0 (End a said ∷ log)) (stays r.inside outside) turn.own; others = turn.others }), rw (same_number a.0) (ends_fresh (place_of a.0 log) a said))
  where
    stays : (inside : Bool) → inside ≡ false → (if inside then no_lines r.shape else r) ≡ r
    stays true e = cc e
    stays false e = refl

-- ---- a heal
pub may_heal_begin : EachLineIsKept → AllowedMayHealBegin
may_heal_begin kept p log a g kind r few five k may range =
    let turn = kept p.shape a log r (move.HealBegin g kind) NotConnected (HealBegin a g kind) few five k tt refl may in
    comes p log a (HealBegin a g kind) _ turn.lawful range tt (record { own = turn.own; others = turn.others })

heal_ends_between : (at : Place) (a : ActorId) (g : Gfid) (kind : Kind) (said : HealReply) → next_place at (HealEnd a g kind said) ≡ Between
heal_ends_between Fresh a g kind said = refl
heal_ends_between Indexed a g kind said = refl
heal_ends_between Between a g kind said = refl
heal_ends_between Within a g kind said = refl

pub may_heal_end : EachLineIsKept → AllowedMayHealEnd
may_heal_end kept p log a g kind said r few five k inside may range =
    let turn = kept p.shape a log r (move.End true) NotConnected (HealEnd a g kind said) few five k tt (inr (record { inside = inside; gfid = g; kind = kind; reply = said; is = refl })) may in (
      comes p log a (HealEnd a g kind said) (no_lines r.shape) turn.lawful range tt (record { own = subst (Stood p.shape a.0 (HealEnd a g kind said ∷ log)) (leaves r.inside inside) turn.own; others = turn.others }),
      rw (same_number a.0) (heal_ends_between (place_of a.0 log) a g kind said),
    )
  where
    leaves : (inside : Bool) → inside ≡ true → (if inside then no_lines r.shape else r) ≡ no_lines r.shape
    leaves true e = refl
    leaves false e = cc e

-- ---- an event
pub event_comes : EventKeepsAll
event_comes p log e range =
    let next : IsNext p (line_of.Event e) log = (range, tt, tt) in
    record {
      next = next;
      lawful = λ before. (next, before);
      stand = λ c q k. record { shape_is = k.shape_is; stands = k.stands };
    }
