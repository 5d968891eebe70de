-- What a heal that settles has behind it, and which heal of its round it is.
use Rattle.std.proofs.Common.{Bool, ap, arith, false, refl, sym, true, true≢false, ℕ, ◌&&◌, ◌||◌, ◌∙◌, ◌≡◌, ◌≤◌, ◌∷◌}
use Rattle.std.specs.Prelude.{List as Seq, Some}
use Rattle.afr_base.specs.Bricks.{member}
use Rattle.afr_base.specs.declared.ids.ActorId.{ActorId}
use Rattle.afr_base.specs.declared.ids.BrickId.{BrickId}
use Rattle.afr_base.specs.declared.ids.Kind.{Kind}
use Rattle.afr_base.specs.declared.ids.Kind.TheVariants.{Attrs, Bytes, Names}
use Rattle.afr_base.specs.Kinds.{same_kind}
use Rattle.afr_lines.specs.Work.{Work as Lines}
use Rattle.afr_lines.specs.declared.answer.Told.{Told}
use Rattle.afr_lines.specs.declared.answer.Told.TheVariants.{Done, Given, NoObject, Seen}
use Rattle.afr_lines.specs.declared.line.Line.{Line}
use Rattle.afr_lines.specs.declared.line.Line.TheVariants.{Ask}
use Rattle.afr_lines.specs.declared.request.Area.{Area}
use Rattle.afr_lines.specs.declared.request.Request.{Request}
use Rattle.afr_lines.specs.declared.request.Request.TheVariants.{Apply, Index, List, Lock, Look, Mend, Post, Pre, ReadAttr, ReadAttrs, ReadBytes, ReadName, Settle, Unlock}
use Rattle.afr_lines.specs.declared.lock.Domain.TheVariants.{Heal, Work}
use Rattle.afr_plan.specs.declared.plan.Plan.{Plan}
use Rattle.afr_model.specs.Healing.{settled_at}
use Rattle.afr_model.specs.Rounds.{heal_due}
use Rattle.afr_model.specs.Showing.{among}
use Rattle.afr_model_moves.specs.Note.{breaks, left_in_heal, next_part, stops_at}
use Rattle.afr_model_moves.specs.Past.{is_gone}
use Rattle.afr_model_moves.specs.Register.{Exact, Finish, HealPart, Opening, Piece, Settles, Step, is_finish, rank, HealPres, Mends, Reads}
use Rattle.afr_model_moves.specs.Rules as weak
use Rattle.afr_model_moves.specs.Rules.{Register}
use Rattle.afr_model_moves.specs.Steps.{may_heal}
use Rattle.afr_law.proofs.Discipline.AskFields.{Rest, frees_heal, frees_work, sees, work_locked}
use Rattle.afr_law.proofs.Discipline.Inner.{turn_in, turn_low}
use Rattle.afr_law.proofs.Discipline.Stages.{mend_far, onward_far, settles_far}
use Rattle.afr_law.proofs.Discipline.StagesAlong.{StageOf}
use Rattle.afr_law.proofs.Heals.Conditions.{Resumes, Starts, Waits, WorkPlace, attrs_onward, attrs_turn, bytes_onward, bytes_turn, heal_lock_step, heal_unlock_over, list_onward, list_turn, look_step, mend_test, mend_turn, pre_onward, pre_turn, settle_onward, settle_turn, unlock_over, work_place}
use Rattle.afr_law.proofs.Heals.Holds.{is_last, settles_last}
use Rattle.afr_law_quiet.proofs.Copies.Looked.{gfid}
use Rattle.afr_law_quiet.proofs.Copies.Told.{Hears}

-- a brick that settled did so in the last part of a heal that isn't broken
abbrev pub HasEnded : Lines → Bool → Step → HealPart → Kind → Type 0
HasEnded w broken step part kind = (x : ℕ) → member (among settled_at w) x ≡ true → (broken ≡ false) × (11 ≤ rank step) × (is_last kind part ≡ true)

-- the heal that the round is at is the register's
abbrev pub IsDueFor : Plan → Lines → Step → HealPart → Kind → ℕ → Type 0
IsDueFor p w step part kind object = (part ≡ Opening → rank step ≤ 6 → ⊥) → heal_due p w ≡ Some (gfid object, kind)

not_last : (kind : Kind) (part : HealPart) → same_kind kind Bytes ≡ true → is_finish part ≡ false → is_last kind part ≡ true → ⊥
not_last Bytes Opening e f k = true≢false (sym k)
not_last Bytes Piece e f k = true≢false (sym k)
not_last Bytes Finish e f k = true≢false f
not_last Attrs part e f k = true≢false (sym e)
not_last Names part e f k = true≢false (sym e)

module _ (p : Plan) (keeps : ℕ → Kind → Bool) (older : Seq Line) (r : Exact) (t s : ℕ) (whole : r.broken ≡ false) (inside : r.law.heal ≡ true) (stage : StageOf r) (x : ActorId) (y : BrickId) (took : Bool) where
  abbrev n : ℕ
  n = p.shape.n

  abbrev pub law_after : Request → Told → Register
  law_after request told = weak.dropping (is_gone told) y.0 (weak.note_ask n r.law y.0 request told)

  module _ (w : Lines) (h : HasEnded w r.broken r.step r.part r.law.kind) where
    abbrev pub EndedAfter : Request → Told → Bool → Type 0
    EndedAfter request told broken = HasEnded ((Ask x y request told took, older) ∷ w) broken (left_in_heal n r t y.0 request told).step (left_in_heal n r t y.0 request told).part (law_after request told).kind

    early : (low : rank r.step ≤ 10) (z : ℕ) → member (among settled_at w) z ≡ true → ⊥
    early low z e = (let far : 11 ≤ rank r.step = (h z e).1 in omega (arith, far, low))

    resumes : (area : Area) (e : may_heal n keeps r s y.0 (Lock Work area) ≡ true) (z : ℕ) → member (among settled_at w) z ≡ true → ⊥
    resumes area e z m = go (work_place n keeps r s y.0 area e)
      where
        go : WorkPlace n keeps r s y.0 area → ⊥
        go (Waits at same own lock fresh) = (let six : rank r.step ≡ 6 = ap rank at in early (omega (arith, six)) z m)
        go (Starts five same lock) = early (omega (arith, five)) z m
        go (Resumes twelve same idle bytes unfinished lock next) = not_last r.law.kind r.part bytes unfinished (h z m).2

    -- what the answer and the step leave of the heal
    still : (more : Bool) → more ≡ false → ((r.broken || more) || false) ≡ false
    still more e = rw (whole, e) refl

    pub ended_asked : (request : Request) (told : Told) → may_heal n keeps r s y.0 request ≡ true → Hears p older y.0 request told → (broken : Bool) → (request_ends : broken ≡ ((r.broken || breaks r request told) || stops_at n keeps (record (left_in_heal n r t y.0 request told) { possible = λ q. r.possible q && may_heal n keeps r q y.0 request; broken = r.broken || breaks r request told; law = law_after request told }) (left_in_heal n r t y.0 request told).step)) → EndedAfter request told broken
    ended_asked (Lock Heal area) told e q broken is z m = (let five = heal_lock_step n keeps r s y.0 area e in absurd (early (omega (arith, five)) z m))
    ended_asked (Lock Work area) told e q broken is z m = absurd (resumes area e z m)
    ended_asked (Unlock Work area) Done e q broken is z m = (is ∙ still false refl, omega arith, (let k = (frees_work n r.law y.0 area Done).0.rest.kind in ap (λ c. is_last c r.part) k ∙ (h z m).2))
    ended_asked (Unlock Work area) told e q broken is z m = absurd q
    ended_asked (Unlock Heal area) Done e q broken is z m = (is ∙ still false refl, omega arith, (let k = (frees_heal n r.law y.0 area Done).rest.kind in ap (λ c. is_last c r.part) k ∙ (h z m).2))
    ended_asked (Unlock Heal area) told e q broken is z m = absurd q
    ended_asked (Look g) told e q broken is z m = (let seven = look_step n keeps r s y.0 g.0 e in absurd (early (omega (arith, seven)) z m))
    ended_asked (ReadBytes g at len) told e q broken is z m = (let up = turn_low n keeps r s Reads y.0 (bytes_turn n keeps r s y.0 g at len e) in absurd (early (omega (arith, up)) z m))
    ended_asked (ReadAttrs g) told e q broken is z m = (let up = turn_low n keeps r s Reads y.0 (attrs_turn n keeps r s y.0 g e) in absurd (early (omega (arith, up)) z m))
    ended_asked (List g) told e q broken is z m = (let up = turn_low n keeps r s Reads y.0 (list_turn n keeps r s y.0 g e) in absurd (early (omega (arith, up)) z m))
    ended_asked (Pre g kind) told e q broken is z m = (let up = turn_low n keeps r s HealPres y.0 (pre_turn n keeps r s y.0 g.0 kind e) in absurd (early (omega (arith, up)) z m))
    ended_asked (Mend repair) told e q broken is z m = (let up = turn_low n keeps r s Mends y.0 (mend_turn n keeps r s y.0 repair e) in absurd (early up z m))
    ended_asked (Settle g kind less) Done e q broken is z m = (is ∙ still false refl, omega arith, settles_last r r.law.kind r.part y.0 (turn_in n keeps r s Settles y.0 (settle_turn n keeps r s y.0 g.0 kind less e)))
    ended_asked (Settle g kind less) NoObject e q broken is z m = (is ∙ still false refl, omega arith, settles_last r r.law.kind r.part y.0 (turn_in n keeps r s Settles y.0 (settle_turn n keeps r s y.0 g.0 kind less e)))
    ended_asked (Settle g kind less) told e q broken is z m = absurd q
    ended_asked (Apply i) told e q broken is z m = absurd (true≢false (sym e))
    ended_asked (Post i g kind missed) told e q broken is z m = absurd (true≢false (sym e))
    ended_asked (ReadName g name) told e q broken is z m = absurd (true≢false (sym e))
    ended_asked (ReadAttr g key) told e q broken is z m = absurd (true≢false (sym e))
    ended_asked Index told e q broken is z m = absurd (true≢false (sym e))

  module _ (w : Lines) (h : IsDueFor p w r.step r.part r.law.kind r.law.object) where
    abbrev pub DueAfter : Request → Told → Type 0
    DueAfter request told = IsDueFor p ((Ask x y request told took, older) ∷ w) (left_in_heal n r t y.0 request told).step (left_in_heal n r t y.0 request told).part (law_after request told).kind (law_after request told).object

    later : 7 ≤ rank r.step → heal_due p w ≡ Some (gfid r.law.object, r.law.kind)
    later far = h (λ f low. omega (arith, far, low))

    named : (z : Register) → Rest r.law z → z.object ≡ r.law.object → heal_due p w ≡ Some (gfid r.law.object, r.law.kind) → heal_due p w ≡ Some (gfid z.object, z.kind)
    named z k e d = d ∙ (λ i. Some (gfid (sym e i), sym k.kind i))

    locked : (area : Area) (e : may_heal n keeps r s y.0 (Lock Work area) ≡ true) → (next_part r area ≡ Opening → 6 ≤ 6 → ⊥) → heal_due p w ≡ Some (gfid r.law.object, r.law.kind)
    locked area e f = go (work_place n keeps r s y.0 area e)
      where
        go : WorkPlace n keeps r s y.0 area → heal_due p w ≡ Some (gfid r.law.object, r.law.kind)
        go (Waits at same own lock fresh) = h (λ o low. f (same ∙ o) (omega arith))
        go (Starts five same lock) = h (λ o low. f (same ∙ o) (omega arith))
        go (Resumes twelve same idle bytes unfinished lock next) = later (omega (arith, twelve))

    pub due_asked : (request : Request) (told : Told) → may_heal n keeps r s y.0 request ≡ true → Hears p older y.0 request told → DueAfter request told
    due_asked (Lock Heal area) told e q f = (let five = heal_lock_step n keeps r s y.0 area e in absurd (f (stage.early inside (omega (arith, five))).0 (omega arith)))
    due_asked (Lock Work area) told e q f = (let z = work_locked n r.law y.0 area told in named _ z.rest z.object (locked area e f))
    due_asked (Unlock Work area) Done e q f = (let z = frees_work n r.law y.0 area Done in named _ z.0.rest z.0.object (later (settles_far n keeps r s (unlock_over n keeps r s y.0 area e))))
    due_asked (Unlock Work area) told e q f = absurd q
    due_asked (Unlock Heal area) Done e q f = (let z = frees_heal n r.law y.0 area Done in named _ z.rest z.object (later (settles_far n keeps r s (heal_unlock_over n keeps r s y.0 area e))))
    due_asked (Unlock Heal area) told e q f = absurd q
    due_asked (Look g) (Seen view) e q f = (let z = sees r.law y.0 g.0 view in let seven = look_step n keeps r s y.0 g.0 e in later (omega (arith, seven)) ∙ (λ i. Some (gfid (sym z.object i), sym z.kind i)))
    due_asked (Look g) NoObject e q f = (let seven = look_step n keeps r s y.0 g.0 e in later (omega (arith, seven)))
    due_asked (Look g) told e q f = absurd q
    due_asked (ReadBytes g at len) Given e q f = later (onward_far n keeps r s g.0 Bytes (bytes_onward n keeps r s y.0 g at len e))
    due_asked (ReadBytes g at len) NoObject e q f = later (onward_far n keeps r s g.0 Bytes (bytes_onward n keeps r s y.0 g at len e))
    due_asked (ReadBytes g at len) told e q f = absurd q
    due_asked (ReadAttrs g) Given e q f = later (onward_far n keeps r s g.0 Attrs (attrs_onward n keeps r s y.0 g e))
    due_asked (ReadAttrs g) NoObject e q f = later (onward_far n keeps r s g.0 Attrs (attrs_onward n keeps r s y.0 g e))
    due_asked (ReadAttrs g) told e q f = absurd q
    due_asked (List g) Given e q f = later (onward_far n keeps r s g.0 Names (list_onward n keeps r s y.0 g e))
    due_asked (List g) NoObject e q f = later (onward_far n keeps r s g.0 Names (list_onward n keeps r s y.0 g e))
    due_asked (List g) told e q f = absurd q
    due_asked (Pre g kind) Done e q f = later (onward_far n keeps r s g.0 kind (pre_onward n keeps r s y.0 g.0 kind e))
    due_asked (Pre g kind) NoObject e q f = later (onward_far n keeps r s g.0 kind (pre_onward n keeps r s y.0 g.0 kind e))
    due_asked (Pre g kind) told e q f = absurd q
    due_asked (Mend repair) Done e q f = later (mend_far n keeps r s repair (mend_test n keeps r s y.0 repair e))
    due_asked (Mend repair) NoObject e q f = later (mend_far n keeps r s repair (mend_test n keeps r s y.0 repair e))
    due_asked (Mend repair) told e q f = absurd q
    due_asked (Settle g kind less) Done e q f = later (onward_far n keeps r s g.0 kind (settle_onward n keeps r s y.0 g.0 kind less e))
    due_asked (Settle g kind less) NoObject e q f = later (onward_far n keeps r s g.0 kind (settle_onward n keeps r s y.0 g.0 kind less e))
    due_asked (Settle g kind less) told e q f = absurd q
    due_asked (Apply i) told e q f = absurd (true≢false (sym e))
    due_asked (Post i g kind missed) told e q f = absurd (true≢false (sym e))
    due_asked (ReadName g name) told e q f = absurd (true≢false (sym e))
    due_asked (ReadAttr g key) told e q f = absurd (true≢false (sym e))
    due_asked Index told e q f = absurd (true≢false (sym e))
