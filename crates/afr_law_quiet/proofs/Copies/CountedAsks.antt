-- What each request of an undisturbed heal does to the numbers of its copies.
use Rattle.std.proofs.Common.{Bool, ap, arith, false, inl, inr, not, refl, subst, sym, true, true≢false, ℕ, ◌&&◌, ◌+◌, ◌<◌, ◌∙◌, ◌≡◌, ◌≤◌, ◌⊎◌, ◌∷◌}
use Rattle.std.specs.Prelude.{List as Seq, Some, if◌then◌else◌, nat_lt, slice_index, ◌==◌}
use Rattle.std.proofs.lemmas.Bool.{cases_lt, eqb-true}
use Rattle.std.proofs.lemmas.Bool.Decides.{nat_tests}
use Rattle.afr_base.specs.Bricks.{and_left, and_right}
use Rattle.afr_base.specs.declared.ids.ActorId.{ActorId}
use Rattle.afr_base.specs.declared.ids.BrickId.{BrickId}
use Rattle.afr_base.specs.declared.ids.Gfid.{Gfid}
use Rattle.afr_base.specs.declared.ids.Kind.{Kind}
use Rattle.afr_base.specs.declared.marks.Marks.{Marks}
use Rattle.afr_object.specs.Tables.{copy_at, view_of}
use Rattle.afr_object.specs.declared.entry.View.{View}
use Rattle.afr_object.specs.Object.{Object}
use Rattle.afr_lines.specs.declared.answer.Told.{Told}
use Rattle.afr_lines.specs.declared.answer.Told.TheVariants.{Done, Given, Granted, Held, NoObject, Seen}
use Rattle.afr_lines.specs.declared.line.Line.{Line}
use Rattle.afr_lines.specs.declared.line.Line.TheVariants.{Ask}
use Rattle.afr_lines.specs.declared.request.Area.{Area}
use Rattle.afr_lines.specs.declared.request.Request.{Request}
use Rattle.afr_lines.specs.declared.request.Request.TheVariants.{Apply, Index, List, Lock, Look, Mend, Post, Pre, ReadAttr, ReadAttrs, ReadBytes, ReadName, Settle, Unlock}
use Rattle.afr_lines.specs.declared.lock.Domain.TheVariants.{Heal, Work}
use Rattle.afr_plan.specs.declared.plan.Plan.{Plan}
use Rattle.afr_model.specs.Sums.{AreSums, blames, counted, dirty_of, has_object, opens_op}
use Rattle.afr_model.specs.Tables.{holds}
use Rattle.afr_law_tables.specs.Clear.{IsClearOn}
use Rattle.afr_law_tables.specs.CopyLaws.{gfid_is}
use Rattle.afr_model_moves.specs.Honest.{view_marks}
use Rattle.afr_model_moves.specs.Note.{breaks, left_in_heal}
use Rattle.afr_model_moves.specs.Past.{Log, is_gone}
use Rattle.afr_model_moves.specs.Register.{Exact, HealPart, HealPres, HealUnlocks, Mends, Opening, Reads, Settles, Step, Unlocks, WorkLocks, accuses, all, asked_in, good, holder, rank}
use Rattle.afr_model_moves.specs.Rules as weak
use Rattle.afr_model_moves.specs.Rules.{Register, one_if}
use Rattle.afr_model_moves.specs.Sets.{with}
use Rattle.afr_model_moves.specs.Steps.{changed, may_heal, onward, raised, settles_at, settles_over, takes, turn}
use Rattle.afr_model_moves.specs.Tally.{Tally}
use Rattle.afr_model_moves.proofs.Tests.{all_no, all_yes, same_kind_yes, with_cases, with_false, with_more, with_self}
use Rattle.afr_law.proofs.Discipline.AskFields.{Sees, frees_heal, frees_work, sees, work_locked}
use Rattle.afr_law.proofs.Discipline.Inner.{turn_in, turn_low}
use Rattle.afr_law.proofs.Discipline.StagesAlong.{StageOf}
use Rattle.afr_law.proofs.Heals.Areas.{AreasIn}
use Rattle.afr_law.proofs.Heals.Conditions.{asked_is, asked_now, goes_good, heal_lock_step, heal_unlock_over, look_object, look_step, onward_goes, onward_kind, onward_object, over_at, passed_over, pre_turn, settle_onward, settle_takes, settle_turn, settles_is, turn_fresh, unlock_over}
use Rattle.afr_law.proofs.Heals.Holds.{HoldsIn, is_last}
use Rattle.afr_law.proofs.Heals.Raises.{RaisesIn, pres_opening}
use Rattle.afr_law.proofs.Heals.Views.{SightsIn, here_or}
use Rattle.afr_law.proofs.Heals.Settles.{set_raised}
use Rattle.afr_law_quiet.proofs.Copies.Counted.{Counted, CountedIn, Few, clear_on, few_on, first_cases, last_set, law_on, plain_on, unchanged, view_here}
use Rattle.afr_law_quiet.proofs.Copies.Looked.{gfid}
use Rattle.afr_law_quiet.proofs.Copies.Sums.{counted_absent, counted_all, counted_most, counted_other, dirty_less, dirty_more, dirty_same, pending_less, pending_same}
use Rattle.afr_law_quiet.proofs.Copies.Told.{Hears}

module _ (p : Plan) (keeps : ℕ → Kind → Bool) (five : p.shape.n ≤ 5) (older : Seq Line) (sums : AreSums p older) (L : Log) (t a : ℕ) (r : Exact) (k : Tally) (s : ℕ) (possible : r.possible s ≡ true) (stage : StageOf r) (inside : r.law.heal ≡ true)
    (areas : AreasIn r r.law) (helds : HoldsIn p.shape.n r r.law) (sights : SightsIn p.shape.n L t a r r.law) (raises : RaisesIn p.shape.n keeps r r.law k) (h : CountedIn p older r r.law) (x : ActorId) (y : BrickId) (took : Bool) (carried : took ≡ true) where
  abbrev pub line_for : Request → Told → Line
  line_for request told = Ask x y request told took

  abbrev pub CountedAfter : Request → Told → Type 0
  CountedAfter request told = CountedIn p (line_for request told ∷ older) (left_in_heal p.shape.n r t y.0 request told) (weak.dropping (is_gone told) y.0 (weak.note_ask p.shape.n r.law y.0 request told))

  early : rank r.step ≤ 10 → (z : ℕ) → r.law.settled z ≡ true → ⊥
  early low z e = (let far : 11 ≤ rank r.step = (helds.settled z e).1 in omega (arith, far, low))

  -- the numbers before the first look
  heal_lock : (area : Area) → rank r.step ≡ 5 → CountedAfter (Lock Heal area) Granted
  heal_lock area at = record {
    fresh = λ z v e u. absurd (cc (sym e ∙ sights.none (stage.early inside (omega (arith, at))).0 (omega (arith, at)) z));
    clear = λ z e every. absurd (early (omega (arith, at)) z e);
    settling = λ e. absurd (cc e);
    over = λ m. absurd (omega (arith, m));
  }

  look_seen : (g : Gfid) (view : View) → (g.0 == r.law.object) ≡ true → rank r.step ≡ 7 → (o : Object) → copy_at g (holds p older y.0) ≡ Some o → view ≡ view_of o → CountedAfter (Look g) (Seen view)
  look_seen g view same at o there is = record {
    fresh = λ z v e u. fresh z v e (ap (λ (f : ℕ → Bool). f z) (sym q.settled) ∙ u);
    clear = λ z e every. absurd (early (omega (arith, at)) z (ap (λ (f : ℕ → Bool). f z) (sym q.settled) ∙ e));
    settling = λ e. absurd (cc e);
    over = λ m. absurd (omega (arith, m));
  }
    where
      law : Register
      law = weak.looking r.law y.0 g.0 view

      q : Sees r.law (weak.looking r.law y.0 g.0 view)
      q = sees r.law y.0 g.0 view

      now : (z : ℕ) (v : View) → z ≡ y.0 → v ≡ view → Few p older r.law.object r.law.kind z (r.law.raised z) v
      now z v here said = (
          let w = sums y.0 (gfid r.law.object) r.law.kind o (subst (λ (j : Gfid). copy_at j (holds p older y.0) ≡ Some o) (gfid_is g (gfid r.law.object) (eqb-true g.0 r.law.object same)) there) in
          subst (λ b. Few p older r.law.object r.law.kind b (r.law.raised b) v) (sym here)
          (subst (λ u. Few p older r.law.object r.law.kind y.0 (r.law.raised y.0) u) (sym (said ∙ is))
          (record { dirty = (let d = w.0 in omega (arith, d)); pending = λ c low. (let d = w.1 c (omega (arith, low, five)) in omega (arith, d)) }))
          )

      old : (z : ℕ) (v : View) → r.law.settled z ≡ false → (r.law.first z ≡ Some v) ⊎ ((z ≡ y.0) × (v ≡ view)) → Few p older r.law.object r.law.kind z (r.law.raised z) v
      old z v u (inl e) = h.fresh z v e u
      old z v u (inr e) = now z v e.0 e.1

      fresh : (z : ℕ) (v : View) → law.first z ≡ Some v → r.law.settled z ≡ false → Few p (line_for (Look g) (Seen view) ∷ older) law.object law.kind z (law.raised z) v
      fresh z v e u = (
          let f = few_on p older (line_for (Look g) (Seen view)) (λ x g kind. refl) (λ x c g kind. refl) r.law.object r.law.kind z (r.law.raised z) v (old z v u (first_cases r.law y.0 g.0 view z v e)) in
          subst (λ j. Few p (line_for (Look g) (Seen view) ∷ older) j law.kind z (law.raised z) v) (sym q.object)
          (subst (λ j. Few p (line_for (Look g) (Seen view) ∷ older) r.law.object j z (law.raised z) v) (sym q.kind)
          (subst (λ (j : ℕ → Bool). Few p (line_for (Look g) (Seen view) ∷ older) r.law.object r.law.kind z (j z) v) (sym q.raised) f))
          )

  -- the heal's own pre-op, one at each brick
  unraised : (g : Gfid) (kind : Kind) → may_heal p.shape.n keeps r s y.0 (Pre g kind) ≡ true → r.law.raised y.0 ≡ false
  unraised g kind e = go (r.law.raised y.0) refl
    where
      turns : turn p.shape.n keeps r s HealPres y.0 ≡ true
      turns = pre_turn p.shape.n keeps r s y.0 g.0 kind e

      first : r.part ≡ Opening
      first = pres_opening keeps r s r.law.kind r.part y.0 areas.bytes (turn_in p.shape.n keeps r s HealPres y.0 turns)

      go : (q : Bool) → r.law.raised y.0 ≡ q → r.law.raised y.0 ≡ false
      go false m = m
      go true m = (
          let w = raises.once first (turn_low p.shape.n keeps r s HealPres y.0 turns) y.0 (raises.counted y.0 m) in
          absurd (true≢false (sym (ap (λ (c : ℕ → Bool). c y.0) (asked_now r HealPres w.0) ∙ w.1) ∙ turn_fresh p.shape.n keeps r s HealPres y.0 turns))
          )

  pre_done : (g : Gfid) (kind : Kind) → may_heal p.shape.n keeps r s y.0 (Pre g kind) ≡ true → CountedAfter (Pre g kind) Done
  pre_done g kind e = record {
    fresh = λ z v f u. elim (here_or y.0 z) [ inl here ↦ own z v f u here | inr other ↦ others z v f u other ];
    clear = λ z f every. absurd (early (omega (arith, up)) z f);
    settling = λ f. absurd (cc f);
    over = λ m. absurd (omega (arith, m));
  }
    where
      up : rank r.step ≤ 9
      up = turn_low p.shape.n keeps r s HealPres y.0 (pre_turn p.shape.n keeps r s y.0 g.0 kind e)

      line : Line
      line = line_for (Pre g kind) Done

      others : (z : ℕ) (v : View) → r.law.first z ≡ Some v → r.law.settled z ≡ false → (z ≡ y.0 → ⊥) → Few p (line ∷ older) r.law.object r.law.kind z (with r.law.raised y.0 z) v
      others z v f u other = (
          let miss : (z == y.0) ≡ false = grind (arith, nat_tests) in
          let turned : (y.0 == z) ≡ false = grind (arith, nat_tests) in
          let q = h.fresh z v f u in
          let d = q.dirty in
          let n = dirty_same p z (gfid r.law.object) r.law.kind line older (counted_other p z (gfid r.law.object) r.law.kind y.0 g kind took older 1 turned) in
          rw miss (record {
            dirty = omega (arith, d, n);
            pending = λ c low. (let i = q.pending c low in let j = pending_same p z (gfid r.law.object) r.law.kind line older c refl in omega (arith, i, j));
          })
          )

      own : (z : ℕ) (v : View) → r.law.first z ≡ Some v → r.law.settled z ≡ false → z ≡ y.0 → Few p (line ∷ older) r.law.object r.law.kind z (with r.law.raised y.0 z) v
      own z v f u here = (
          let hit : with r.law.raised y.0 z ≡ true = subst (λ b. with r.law.raised y.0 b ≡ true) (sym here) (with_self r.law.raised y.0) in
          let not_yet : r.law.raised z ≡ false = ap r.law.raised here ∙ unraised g kind e in
          let q = h.fresh z v f u in
          let d : dirty_of p older z (gfid r.law.object) r.law.kind ≤ (view_marks v r.law.kind).dirty + 0 = subst (λ o. dirty_of p older z (gfid r.law.object) r.law.kind ≤ (view_marks v r.law.kind).dirty + one_if o) not_yet q.dirty in
          let n = dirty_more p z (gfid r.law.object) r.law.kind line older (counted_most p z (gfid r.law.object) r.law.kind y.0 g kind took older 1) in
          subst (λ o. Few p (line ∷ older) r.law.object r.law.kind z o v) (sym hit) (record {
            dirty = omega (arith, d, n);
            pending = λ c low. (let i = q.pending c low in let j = pending_same p z (gfid r.law.object) r.law.kind line older c refl in omega (arith, i, j));
          })
          )

  -- the settling: each number of the brick becomes 0
  module _ (below : y.0 < p.shape.n) (g : Gfid) (kind : Kind) (less : Marks) (e : may_heal p.shape.n keeps r s y.0 (Settle g kind less) ≡ true) where
    settling_turn : turn p.shape.n keeps r s Settles y.0 ≡ true
    settling_turn = settle_turn p.shape.n keeps r s y.0 g.0 kind less e

    settling_low : rank r.step ≤ 11
    settling_low = turn_low p.shape.n keeps r s Settles y.0 settling_turn

    onwards : onward p.shape.n keeps r s g.0 kind ≡ true
    onwards = settle_onward p.shape.n keeps r s y.0 g.0 kind less e

    object_is : g ≡ gfid r.law.object
    object_is = gfid_is g (gfid r.law.object) (eqb-true g.0 r.law.object (onward_object p.shape.n keeps r s g.0 kind onwards))

    kind_is : kind ≡ r.law.kind
    kind_is = same_kind_yes kind r.law.kind (onward_kind p.shape.n keeps r s g.0 kind onwards)

    unsettled : r.law.settled y.0 ≡ false
    unsettled = go (r.law.settled y.0) refl
      where
        go : (q : Bool) → r.law.settled y.0 ≡ q → r.law.settled y.0 ≡ false
        go false m = m
        go true m = (
            let w = helds.settled y.0 m in
            let late : 11 ≤ rank r.step = w.1 in
            let at : r.step ≡ Settles = settles_is r.step (omega (arith, late, settling_low)) in
            absurd (true≢false (sym (ap (λ (c : ℕ → Bool). c y.0) (asked_now r Settles at) ∙ w.2 at) ∙ turn_fresh p.shape.n keeps r s Settles y.0 settling_turn))
            )

    abbrev line : Line
    line = line_for (Settle g kind less) Done

    module _ (there : has_object p older g y.0 ≡ true) (every : (z : ℕ) → z < p.shape.n → holder r.first_views z ≡ true) where
      seen : (v : View) × (r.first_views y.0 ≡ Some v)
      seen = view_here (r.first_views y.0) (every y.0 below)

      few : Few p older r.law.object r.law.kind y.0 (r.law.raised y.0) seen.0
      few = h.fresh y.0 seen.0 (sights.first y.0 seen.0 seen.1) unsettled

      taken : takes p.shape.n keeps r s y.0 r.law.kind less (Some seen.0) ≡ true
      taken = subst (λ o. takes p.shape.n keeps r s y.0 r.law.kind less o ≡ true) seen.1 (subst (λ c. takes p.shape.n keeps r s y.0 c less (r.first_views y.0) ≡ true) kind_is (settle_takes p.shape.n keeps r s y.0 g.0 kind less e))

      whole : all p.shape.n (holder r.first_views) ≡ true
      whole = all_no p.shape.n (holder r.first_views) every

      -- the heal's own pre-op is taken back too
      own_raise : one_if (r.law.raised y.0) ≤ (if raised keeps r s r.law.kind y.0 then 1 else 0)
      own_raise = go (r.law.raised y.0) refl
        where
          go : (q : Bool) → r.law.raised y.0 ≡ q → one_if q ≤ (if raised keeps r s r.law.kind y.0 then 1 else 0)
          go false m = omega arith
          go true m = (
              let hit : raised keeps r s r.law.kind y.0 ≡ true = set_raised keeps r s r.law.kind y.0 (raises.aside s y.0 (raises.counted y.0 m) possible) in
              rw hit (omega arith)
              )

      -- what is taken back of the open operations: what the first look showed, and the pre-op
      full_dirty : less.dirty ≡ (view_marks seen.0 r.law.kind).dirty + (if raised keeps r s r.law.kind y.0 then 1 else 0)
      full_dirty = (
          let raw : less.dirty ≡ (if all p.shape.n (holder r.first_views) then (view_marks seen.0 r.law.kind).dirty + (if raised keeps r s r.law.kind y.0 then 1 else 0) else 0) = eqb-true _ _ (and_right _ _ taken) in
          rw whole at raw
          )

      all_dirty : dirty_of p older y.0 (gfid r.law.object) r.law.kind ≤ less.dirty
      all_dirty = (let full = full_dirty in let d = few.dirty in let o = own_raise in omega (arith, full, d, o))

      -- nobody holds anything against the source
      source_clean : (c : ℕ) → c < p.shape.n → changed r s r.law.kind c ≡ false → slice_index (view_marks seen.0 r.law.kind).pending c ≡ 0
      source_clean c low m = (
          let source : c ≡ s = unchanged r s r.law.kind c (every c low) m in
          let good_copy : good p.shape.n keeps r.law.kind r.first_views s ≡ true = goes_good p.shape.n keeps r s (onward_goes p.shape.n keeps r s g.0 kind onwards) in
          let fair : not (accuses r.law.kind (r.first_views y.0) s) ≡ true = all_yes p.shape.n (λ z. not (accuses r.law.kind (r.first_views z) s)) (and_right _ _ good_copy) y.0 below in
          let fair_view : not (accuses r.law.kind (Some seen.0) s) ≡ true = subst (λ o. not (accuses r.law.kind o s) ≡ true) seen.1 fair in
          ap (λ z. slice_index (view_marks seen.0 r.law.kind).pending z) source ∙ eqb-true (slice_index (view_marks seen.0 r.law.kind).pending s) 0 (clean (slice_index (view_marks seen.0 r.law.kind).pending s == 0) fair_view)
          )
        where
          clean : (q : Bool) → not (not q) ≡ true → q ≡ true
          clean true e = refl
          clean false e = absurd (true≢false (sym e))

      open_pending : (c : ℕ) → c < p.shape.n → slice_index (view_marks seen.0 r.law.kind).pending c ≤ slice_index less.pending c
      open_pending c low = go (changed r s r.law.kind c) refl (eqb-true _ _ (all_yes 5 (λ z. slice_index less.pending z == (if nat_lt z p.shape.n && changed r s r.law.kind z then slice_index (view_marks seen.0 r.law.kind).pending z else 0)) (and_left _ _ taken) c (omega (arith, low, five))))
        where
          go : (q : Bool) → changed r s r.law.kind c ≡ q → slice_index less.pending c ≡ (if nat_lt c p.shape.n && changed r s r.law.kind c then slice_index (view_marks seen.0 r.law.kind).pending c else 0)
              → slice_index (view_marks seen.0 r.law.kind).pending c ≤ slice_index less.pending c
          go true m full = (
              let in_range : nat_lt c p.shape.n ≡ true = grind (arith, nat_tests) in
              let same : slice_index less.pending c ≡ slice_index (view_marks seen.0 r.law.kind).pending c = rw (in_range, m) at full in
              omega (arith, same)
              )
          go false m full = (let here = source_clean c low m in omega (arith, here))

      present : has_object p older (gfid r.law.object) y.0 ≡ true
      present = subst (λ o. has_object p older o y.0 ≡ true) object_is there

      counts : (n : ℕ) → counted p y.0 (gfid r.law.object) r.law.kind y.0 g kind took older n ≡ n
      counts n = (λ i. counted p y.0 (gfid r.law.object) r.law.kind y.0 (object_is i) (kind_is i) (carried i) older n) ∙ counted_all p y.0 (gfid r.law.object) r.law.kind older n present

      settled_clear : IsClearOn p (line ∷ older) (gfid r.law.object) r.law.kind y.0
      settled_clear = (
        dirty_less p y.0 (gfid r.law.object) r.law.kind line older less.dirty refl (counts less.dirty) all_dirty,
        λ c low. pending_less p y.0 (gfid r.law.object) r.law.kind line older c (slice_index less.pending c) refl (counts (slice_index less.pending c)) (let d = few.pending c low in let o = open_pending c low in omega (arith, d, o)),
      )

    settle_done : has_object p older g y.0 ≡ true → CountedAfter (Settle g kind less) Done
    settle_done there = record {
      fresh = λ z v f u. few_on p older line (λ x g kind. refl) (λ x c g kind. refl) r.law.object r.law.kind z (r.law.raised z) v (h.fresh z v f (with_false r.law.settled y.0 z u).1);
      clear = λ z f every. elim (with_cases r.law.settled y.0 z f) [
        | inl here ↦ subst (λ b. IsClearOn p (line ∷ older) (gfid r.law.object) r.law.kind b) (sym here) (settled_clear there every)
        | inr was ↦ clear_on p older line (λ x g kind. refl) (λ x c g kind. refl) (gfid r.law.object) r.law.kind z (h.clear z was every)
      ];
      settling = λ m z f. elim (with_cases (asked_in r Settles) y.0 z f) [
        | inl here ↦ subst (λ b. with r.law.settled y.0 b ≡ true) (sym here) (with_self r.law.settled y.0)
        | inr was ↦ (let w = asked_is r Settles z was in with_more r.law.settled y.0 z (h.settling (settles_is r.step w.0) z w.1))
      ];
      over = λ m. absurd (omega (arith, m));
    }

  settle_none : (g : Gfid) (kind : Kind) (less : Marks) → CountedAfter (Settle g kind less) NoObject
  settle_none g kind less = record {
    fresh = λ z v f u. few_on p older (line_for (Settle g kind less) NoObject) (λ x g kind. refl) (λ x c g kind. refl) r.law.object r.law.kind z (r.law.raised z) v (h.fresh z v f u);
    clear = λ z f every. clear_on p older (line_for (Settle g kind less) NoObject) (λ x g kind. refl) (λ x c g kind. refl) (gfid r.law.object) r.law.kind z (h.clear z f every);
    settling = λ m z f. (let w = asked_is r Settles z f in h.settling (settles_is r.step w.0) z w.1);
    over = λ m. absurd (omega (arith, m));
  }

  -- once the settling is over, each holder has settled
  all_settled : settles_over p.shape.n keeps r s ≡ true → is_last r.law.kind r.part ≡ true → (z : ℕ) → z < p.shape.n → holder r.first_views z ≡ true → r.law.settled z ≡ true
  all_settled e last z low there = elim (cases_lt 11 (rank r.step)) [
    | inl far ↦ h.over (omega (arith, far)) last z low there
    | inr near ↦ (
        let w = asked_is r Settles z (over_at p.shape.n (settles_at r r.law.kind r.part) (asked_in r Settles) (passed_over p.shape.n keeps r s Settles (and_right _ _ e) near) z low (last_set r r.law.kind r.part z last there)) in
        h.settling (settles_is r.step w.0) z w.1
        )
  ]

  unlocked : (next : Step) (asks : ℕ → Bool) (line : Line) → (next ≡ Settles → ⊥) → ((x : ℕ) (g : Gfid) (kind : Kind) → opens_op p x g kind line older ≡ 0) → ((x c : ℕ) (g : Gfid) (kind : Kind) → blames p x c g kind line older ≡ 0) → settles_over p.shape.n keeps r s ≡ true
      → Counted p (line ∷ older) next r.part asks r.first_views r.law.kind r.law.object r.law.first r.law.raised r.law.settled
  unlocked next asks line other opens blame e = record {
    fresh = λ z v f u. few_on p older line opens blame r.law.object r.law.kind z (r.law.raised z) v (h.fresh z v f u);
    clear = λ z f every. clear_on p older line opens blame (gfid r.law.object) r.law.kind z (h.clear z f every);
    settling = λ m. absurd (other m);
    over = λ m last. all_settled e last;
  }

  plain : (next : Step) (part : HealPart) (asks : ℕ → Bool) (request : Request) (told : Told) → (next ≡ Settles → ⊥) → rank next ≤ 11 → ((x : ℕ) (g : Gfid) (kind : Kind) → opens_op p x g kind (line_for request told) older ≡ 0) → ((x c : ℕ) (g : Gfid) (kind : Kind) → blames p x c g kind (line_for request told) older ≡ 0)
      → Counted p (line_for request told ∷ older) next part asks r.first_views r.law.kind r.law.object r.law.first r.law.raised r.law.settled
  plain next part asks request told other up opens blame = plain_on p older (line_for request told) opens blame r next part asks other up h

  pub counted_request : (below : y.0 < p.shape.n) (request : Request) (told : Told) → may_heal p.shape.n keeps r s y.0 request ≡ true → breaks r request told ≡ false → Hears p older y.0 request told → CountedAfter request told
  counted_request below (Lock Heal area) Granted e un q = heal_lock area (heal_lock_step p.shape.n keeps r s y.0 area e)
  counted_request below (Lock Heal area) (Held owner) e un q = absurd (true≢false un)
  counted_request below (Lock Heal area) told e un q = absurd q
  counted_request below (Lock Work area) told e un q = (let w = work_locked p.shape.n r.law y.0 area told in law_on p _ _ _ _ _ r.law _ w.rest w.object (plain WorkLocks _ _ (Lock Work area) told (λ m. cc m) (omega arith) (λ x g kind. refl) (λ x c g kind. refl)))
  counted_request below (Unlock Work area) Done e un q = (let w = frees_work p.shape.n r.law y.0 area Done in law_on p _ _ _ _ _ r.law _ w.0.rest w.0.object (unlocked Unlocks _ (line_for (Unlock Work area) Done) (λ m. cc m) (λ x g kind. refl) (λ x c g kind. refl) (unlock_over p.shape.n keeps r s y.0 area e)))
  counted_request below (Unlock Work area) told e un q = absurd q
  counted_request below (Unlock Heal area) Done e un q = (let w = frees_heal p.shape.n r.law y.0 area Done in law_on p _ _ _ _ _ r.law _ w.rest w.object (unlocked HealUnlocks _ (line_for (Unlock Heal area) Done) (λ m. cc m) (λ x g kind. refl) (λ x c g kind. refl) (heal_unlock_over p.shape.n keeps r s y.0 area e)))
  counted_request below (Unlock Heal area) told e un q = absurd q
  counted_request below (Look g) (Seen view) e un q = look_seen g view (look_object p.shape.n keeps r s y.0 g.0 e) (look_step p.shape.n keeps r s y.0 g.0 e) q.0 q.1 q.2
  counted_request below (Look g) NoObject e un q = record {
    fresh = λ z v f u. few_on p older (line_for (Look g) NoObject) (λ x g kind. refl) (λ x c g kind. refl) r.law.object r.law.kind z (r.law.raised z) v (h.fresh z v f u);
    clear = λ z f every. (let seven = look_step p.shape.n keeps r s y.0 g.0 e in absurd (early (omega (arith, seven)) z f));
    settling = λ m. absurd (cc m);
    over = λ m. absurd (omega (arith, m));
  }
  counted_request below (Look g) told e un q = absurd q
  counted_request below (ReadBytes g at len) Given e un q = plain Reads _ _ (ReadBytes g at len) Given (λ m. cc m) (omega arith) (λ x g kind. refl) (λ x c g kind. refl)
  counted_request below (ReadBytes g at len) NoObject e un q = plain Reads _ _ (ReadBytes g at len) NoObject (λ m. cc m) (omega arith) (λ x g kind. refl) (λ x c g kind. refl)
  counted_request below (ReadBytes g at len) told e un q = absurd q
  counted_request below (ReadAttrs g) Given e un q = plain Reads _ _ (ReadAttrs g) Given (λ m. cc m) (omega arith) (λ x g kind. refl) (λ x c g kind. refl)
  counted_request below (ReadAttrs g) NoObject e un q = plain Reads _ _ (ReadAttrs g) NoObject (λ m. cc m) (omega arith) (λ x g kind. refl) (λ x c g kind. refl)
  counted_request below (ReadAttrs g) told e un q = absurd q
  counted_request below (List g) Given e un q = plain Reads _ _ (List g) Given (λ m. cc m) (omega arith) (λ x g kind. refl) (λ x c g kind. refl)
  counted_request below (List g) NoObject e un q = plain Reads _ _ (List g) NoObject (λ m. cc m) (omega arith) (λ x g kind. refl) (λ x c g kind. refl)
  counted_request below (List g) told e un q = absurd q
  counted_request below (Pre g kind) Done e un q = pre_done g kind e
  counted_request below (Pre g kind) NoObject e un q = plain HealPres _ _ (Pre g kind) NoObject (λ m. cc m) (omega arith) (λ x i o. counted_absent p x i o y.0 g kind took older 1 q) (λ x c g kind. refl)
  counted_request below (Pre g kind) told e un q = absurd q
  counted_request below (Mend repair) Done e un q = plain Mends _ _ (Mend repair) Done (λ m. cc m) (omega arith) (λ x g kind. refl) (λ x c g kind. refl)
  counted_request below (Mend repair) NoObject e un q = plain Mends _ _ (Mend repair) NoObject (λ m. cc m) (omega arith) (λ x g kind. refl) (λ x c g kind. refl)
  counted_request below (Mend repair) told e un q = absurd q
  counted_request below (Settle g kind less) Done e un q = settle_done below g kind less e q
  counted_request below (Settle g kind less) NoObject e un q = settle_none g kind less
  counted_request below (Settle g kind less) told e un q = absurd q
  counted_request below (Apply i) told e un q = absurd (true≢false (sym e))
  counted_request below (Post i g kind missed) told e un q = absurd (true≢false (sym e))
  counted_request below (ReadName g name) told e un q = absurd (true≢false (sym e))
  counted_request below (ReadAttr g key) told e un q = absurd (true≢false (sym e))
  counted_request below Index told e un q = absurd (true≢false (sym e))
