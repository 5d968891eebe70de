-- The test of a move is true exactly where the discipline allows the move.
use Rattle.std.proofs.Common.{◌≡◌, ℕ, ◌≤◌, ◌||◌, not, ◌==◌, nat_lt, Bool, true, false, refl, sym, ◌∙◌, ap, Some, ◌⊎◌, inl, inr, if◌then◌else◌}
use Rattle.std.proofs.lemmas.Bool.{eqb-true, and_parts, and_from, not-true, not_from_false, or_cases, or_left, or_right, eq-eqb, ltb-true, lt-ltb}
use Rattle.afr_base.specs.Majority.{IsMajority, is_most}
use Rattle.afr_base.specs.declared.ids.Kind.{Kind}
use Rattle.afr_base.specs.declared.ids.Kind.TheVariants.{Bytes, Attrs, Names}
use Rattle.afr_object.specs.declared.change.Repair.TheVariants.{CutTo, Copy, PutAttrs, PutNames}
use Rattle.afr_lines.specs.declared.lock.Domain.TheVariants.{Work, Heal}
use Rattle.afr_lines.specs.declared.request.Request.{Request}
use Rattle.afr_lines.specs.declared.request.Request.TheVariants.{Lock, Unlock, Look, ReadBytes, List as ListNames, ReadAttrs, Pre, Mend, Settle}
use Rattle.afr_model_moves.specs.Sets.{any}
use Rattle.afr_model_moves.specs.Rules.{busy, is_area}
use Rattle.afr_model_moves.specs.Discipline.{MayAskExactly}
use Rattle.afr_model_moves.specs.Heal.{InHeal, Goes, Gives, IsUnlock, MayHealBegin, MayHealEnd}
use Rattle.afr_model_moves.specs.Register.{Exact, Step, HealUnlocks, WorkLocks, HealPart, Opening, Piece, Finish, over, same_step, whole_area}
use Rattle.afr_model_moves.specs.Steps.{locks_at, may_heal}
use Rattle.afr_model_moves.specs.Transaction.{MayEnd}
use Rattle.afr_model_moves.proofs.AreaLemmas.{is_area_is}
use Rattle.afr_lines.specs.Overlap.{same_area}
use Rattle.afr_discipline.specs.declared.register.Move.{Move}
use Rattle.afr_discipline.specs.declared.register.Move.TheVariants as move
use Rattle.afr_discipline.specs.declared.register.Register.{Register}
use Rattle.afr_discipline.specs.Inside.{allows, begins_part, is_unlock, may_ask_inside, may_end_heal, may_heal_begin, may_move, may_move_inside}
use Rattle.afr_discipline.specs.Moves.{IffTrue, MayMove}
use Rattle.afr_model_moves.specs.Keeps.{keeps_in}
use Rattle.afr_discipline.specs.Stands.{Stands, seen_as}
use Rattle.afr_discipline.specs.Tests.{may_move_outside}
use Rattle.afr_discipline.proofs.StandsLemmas.{filled, is_filled}
use Rattle.afr_discipline.proofs.Decisions.{decided, asks_unseen}
use Rattle.afr_discipline.proofs.FirstLemmas.{any_same}
use Rattle.afr_model_moves.proofs.Tests.{some_yes, some_no, most_yes, most_no, same_kind_yes, same_kind_self, work_locks}

unlock_yes : (request : Request) → is_unlock request ≡ true → IsUnlock request
unlock_yes (Unlock domain area) h = tt
unlock_yes _ h = absurd (cc h)

unlock_no : (request : Request) → IsUnlock request → is_unlock request ≡ true
unlock_no (Unlock domain area) u = refl
unlock_no _ u = absurd u

ask_yes : (n : ℕ) (keeps : ℕ → Kind → Bool) (r : Exact) (b : ℕ) (request : Request) → r.law.heal ≡ true → may_ask_inside n keeps r b request ≡ true → InHeal n keeps r b request
ask_yes n keeps r b request inside = go r.broken refl
  where
    go : (x : Bool) → r.broken ≡ x → (if x then is_unlock request else any n (allows n keeps r b request)) ≡ true → InHeal n keeps r b request
    go true broken h = Gives inside broken (unlock_yes request h)
    go false whole h =
        let some = some_yes n (allows n keeps r b request) h in
        let w = and_parts (r.possible some.0) (may_heal n keeps r some.0 b request) some.2 in
        Goes (record { inside = inside; whole = whole; source = some.0; below = some.1; possible = w.0; allowed = w.1 })

ask_no : (n : ℕ) (keeps : ℕ → Kind → Bool) (r : Exact) (b : ℕ) (request : Request) → InHeal n keeps r b request → may_ask_inside n keeps r b request ≡ true
ask_no n keeps r b request (Gives inside broken unlock) = rw broken (unlock_no request unlock)
ask_no n keeps r b request (Goes m) =
    rw m.whole (some_no n (allows n keeps r b request) m.source m.below (and_from (r.possible m.source) (may_heal n keeps r m.source b request) m.possible m.allowed))

asked_no : (n : ℕ) (keeps : ℕ → Kind → Bool) (r : Exact) (b : ℕ) (request : Request) → r.law.heal ≡ true → MayAskExactly n keeps r b request → may_ask_inside n keeps r b request ≡ true
asked_no n keeps r b request inside (inl m) = absurd (cc (inside, m.0))
asked_no n keeps r b request inside (inr m) = ask_no n keeps r b request m

unlocks_yes : (s : Step) → same_step s HealUnlocks ≡ true → s ≡ HealUnlocks
unlocks_yes HealUnlocks h = refl
unlocks_yes _ h = absurd (cc h)

-- how a part of a heal begins
record Parts (n : ℕ) (r : Exact) (g : ℕ) (kind : Kind) (part : HealPart) : Type 0 where
  enough : part ≡ Opening → IsMajority n r.law.held
  opening : part ≡ Opening → r.law.area ≡ Some (whole_area g kind)
  later : (part ≡ Opening → ⊥) → kind ≡ r.law.kind

part_yes : (n : ℕ) (r : Exact) (g : ℕ) (kind : Kind) (part : HealPart) → begins_part n r g kind part ≡ true → Parts n r g kind part
part_yes n r g kind Opening h =
    let w = and_parts (is_most n r.law.held) (is_area r.law.area (whole_area g kind)) h in
    record { enough = λ e. most_yes n r.law.held w.0; opening = λ e. is_area_is r.law.area (whole_area g kind) w.1; later = λ no. absurd (no refl) }
part_yes n r g kind Piece h = record { enough = λ e. absurd (cc e); opening = λ e. absurd (cc e); later = λ no. same_kind_yes kind r.law.kind h }
part_yes n r g kind Finish h = record { enough = λ e. absurd (cc e); opening = λ e. absurd (cc e); later = λ no. same_kind_yes kind r.law.kind h }

whole_self : (g : ℕ) (kind : Kind) → same_area (whole_area g kind) (whole_area g kind) ≡ true
whole_self g Bytes = rw (eq-eqb g g refl) refl
whole_self g Attrs = rw (eq-eqb g g refl) refl
whole_self g Names = rw (eq-eqb g g refl) refl

part_no : (n : ℕ) (r : Exact) (g : ℕ) (kind : Kind) (part : HealPart) → Parts n r g kind part → begins_part n r g kind part ≡ true
part_no n r g kind Opening m = and_from (is_most n r.law.held) (is_area r.law.area (whole_area g kind)) (most_no n r.law.held (m.enough refl)) (rw (m.opening refl) (whole_self g kind))
part_no n r g kind Piece m = rw (m.later (λ e. cc e)) (same_kind_self r.law.kind)
part_no n r g kind Finish m = rw (m.later (λ e. cc e)) (same_kind_self r.law.kind)

begin_yes : (n : ℕ) (r : Exact) (g : ℕ) (kind : Kind) → r.law.heal ≡ true → may_heal_begin n r g kind ≡ true → MayHealBegin n r g kind
begin_yes n r g kind inside h =
    let u = and_parts _ (begins_part n r g kind r.part) h in
    let v = and_parts _ (over n (locks_at r r.part) r.asked) u.0 in
    let x = and_parts _ (same_step r.step WorkLocks) v.0 in
    let y = and_parts (not r.broken) (g == r.law.object) x.0 in
    let parts = part_yes n r g kind r.part u.1 in
    record {
      inside = inside;
      whole = not-true r.broken y.0;
      object = eqb-true g r.law.object y.1;
      step = work_locks r.step x.1;
      over = v.1;
      enough = parts.enough;
      opening = parts.opening;
      later = parts.later;
    }

begin_no : (n : ℕ) (r : Exact) (g : ℕ) (kind : Kind) → MayHealBegin n r g kind → may_heal_begin n r g kind ≡ true
begin_no n r g kind m =
    and_from _ (begins_part n r g kind r.part)
    (and_from _ (over n (locks_at r r.part) r.asked)
    (and_from _ (same_step r.step WorkLocks) (and_from (not r.broken) (g == r.law.object) (not_from_false r.broken m.whole) (eq-eqb g r.law.object m.object)) (rw m.step refl))
    m.over)
    (part_no n r g kind r.part (record { enough = m.enough; opening = m.opening; later = m.later }))

end_yes : (n : ℕ) (r : Exact) → r.law.heal ≡ true → may_end_heal n r ≡ true → MayHealEnd n r
end_yes n r inside h =
    let x = and_parts _ (r.broken || same_step r.step HealUnlocks) h in
    let y = and_parts (not (busy n r.law)) (not (any n r.law.healing)) x.0 in
    record {
      inside = inside;
      free = not-true (busy n r.law) y.0;
      healed = not-true (any n r.law.healing) y.1;
      last = elim (or_cases r.broken (same_step r.step HealUnlocks) x.1) [ inl broken ↦ inl broken | inr done ↦ inr (unlocks_yes r.step done) ];
    }

last_no : (r : Exact) → (r.broken ≡ true) ⊎ (r.step ≡ HealUnlocks) → (r.broken || same_step r.step HealUnlocks) ≡ true
last_no r (inl broken) = or_left r.broken (same_step r.step HealUnlocks) broken
last_no r (inr done) = or_right r.broken (same_step r.step HealUnlocks) (rw done refl)

end_no : (n : ℕ) (r : Exact) (ok : Bool) → r.law.heal ≡ true → MayEnd n r ok ⊎ MayHealEnd n r → may_end_heal n r ≡ true
end_no n r ok inside (inl m) = absurd (cc (inside, m.outside))
end_no n r ok inside (inr m) =
    and_from _ (r.broken || same_step r.step HealUnlocks) (and_from (not (busy n r.law)) (not (any n r.law.healing)) (not_from_false (busy n r.law) m.free) (not_from_false (any n r.law.healing) m.healed)) (last_no r m.last)

decided_inside : (n : ℕ) (keeps : ℕ → Kind → Bool) (r : Exact) (step : Move) → r.law.heal ≡ true → IffTrue (may_move_inside n keeps r step) (MayMove n keeps r step)
decided_inside n keeps r (move.Ask b request) inside = record {
  yes = λ h. (let w = and_parts (nat_lt b.0 n) (may_ask_inside n keeps r b.0 request.now) h in (ltb-true b.0 n w.0, inr (ask_yes n keeps r b.0 request.now inside w.1)));
  complete = λ m. and_from (nat_lt b.0 n) (may_ask_inside n keeps r b.0 request.now) (lt-ltb b.0 n m.0) (asked_no n keeps r b.0 request.now inside m.1);
}
decided_inside n keeps r (move.Begin change) inside = record { yes = λ h. absurd (cc h); complete = λ m. absurd (cc (inside, m.outside)) }
decided_inside n keeps r (move.HealBegin g kind) inside = record { yes = λ h. begin_yes n r g.0 kind inside h; complete = λ m. begin_no n r g.0 kind m }
decided_inside n keeps r (move.End ok) inside = record { yes = λ h. inr (end_yes n r inside h); complete = λ m. end_no n r ok inside m }

all_decided : (n : ℕ) (keeps : ℕ → Kind → Bool) (r : Exact) (step : Move) → n ≤ 5 → IffTrue (may_move n keeps r step) (MayMove n keeps r step)
all_decided n keeps r step few = go r.law.heal refl
  where
    go : (x : Bool) → r.law.heal ≡ x → IffTrue (if x then may_move_inside n keeps r step else may_move_outside n keeps r step) (MayMove n keeps r step)
    go true inside = decided_inside n keeps r step inside
    go false out = decided n keeps r step few out

-- what a heal may ask is told by the fields that the program has
pub heal_unseen : (p : Register) (r : Exact) (s b : ℕ) (request : Request) → may_heal p.shape.n (keeps_in p.shape) (filled p r) s b request ≡ may_heal p.shape.n (keeps_in p.shape) (seen_as p) s b request
heal_unseen p r s b (Lock Work area) = refl
heal_unseen p r s b (Lock Heal area) = refl
heal_unseen p r s b (Unlock Work area) = refl
heal_unseen p r s b (Unlock Heal area) = refl
heal_unseen p r s b (Look g) = refl
heal_unseen p r s b (ReadBytes g at len) = refl
heal_unseen p r s b (ListNames g) = refl
heal_unseen p r s b (ReadAttrs g) = refl
heal_unseen p r s b (Pre g kind) = refl
heal_unseen p r s b (Mend (CutTo g len)) = refl
heal_unseen p r s b (Mend (Copy g at some read)) = refl
heal_unseen p r s b (Mend (PutAttrs g read)) = refl
heal_unseen p r s b (Mend (PutNames g reads)) = refl
heal_unseen p r s b (Settle g kind ltb-true) = refl
heal_unseen p r s b _ = refl

inside_unseen : (p : Register) (r : Exact) → Stands p r → (b : ℕ) (request : Request) → may_ask_inside p.shape.n (keeps_in p.shape) (filled p r) b request ≡ may_ask_inside p.shape.n (keeps_in p.shape) (seen_as p) b request
inside_unseen p r stands b request =
    ap (λ (x : Bool). if p.broken then is_unlock request else x)
    (any_same p.shape.n (allows p.shape.n (keeps_in p.shape) (filled p r) b request) (allows p.shape.n (keeps_in p.shape) (seen_as p) b request) (λ s l. rw (stands.possible s l, heal_unseen p r s b request) refl))

unseen : (p : Register) (r : Exact) (step : Move) → Stands p r → may_move p.shape.n (keeps_in p.shape) (filled p r) step ≡ may_move p.shape.n (keeps_in p.shape) (seen_as p) step
unseen p r (move.Ask b request) stands =
    rw (inside_unseen p r stands b.0 request.now, asks_unseen p r b.0 request.now) refl
unseen p r (move.Begin change) stands = refl
unseen p r (move.HealBegin g kind) stands = refl
unseen p r (move.End ok) stands = refl

-- the test of the program's register is the test of each register that it stands for
pub decided_by : (p : Register) (r : Exact) (step : Move) (result : Bool) → p.shape.n ≤ 5 → Stands p r → result ≡ may_move p.shape.n (keeps_in p.shape) (seen_as p) step
    → IffTrue result (MayMove p.shape.n (keeps_in p.shape) r step)
decided_by p r step result few stands is =
    let same : may_move p.shape.n (keeps_in p.shape) r step ≡ may_move p.shape.n (keeps_in p.shape) (seen_as p) step =
    ap (λ (x : Exact). may_move p.shape.n (keeps_in p.shape) x step) (is_filled p r stands) ∙ unseen p r step stands in
    let d = all_decided p.shape.n (keeps_in p.shape) r step few in
    record { yes = λ h. d.yes (same ∙ sym is ∙ h); complete = λ m. is ∙ sym same ∙ d.complete m }
