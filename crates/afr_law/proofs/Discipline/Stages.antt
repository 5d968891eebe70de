-- The steps of a heal, as far as its locks and numbers go.
use Rattle.afr_base.specs.declared.ids.Kind.{Kind}
use Rattle.afr_base.specs.declared.ids.Kind.TheVariants.{Attrs, Bytes, Names}
use Rattle.afr_law.proofs.Discipline.Asks.{Kept, kept, kept_dropped, lock_number}
use Rattle.afr_model_moves.specs.Heal.{Gives, Goes, InHeal}
use Rattle.afr_model_moves.specs.Note.{left_in_heal, next_part}
use Rattle.afr_model_moves.specs.Steps.{goes_on, is_lowest, is_next, locks_at, may_heal_work, may_mend, onward, passed, settles_over}
use Rattle.afr_model_moves.specs.Past.{is_gone, last}
use Rattle.afr_model_moves.specs.Sets.{empty}
use Rattle.afr_lines.specs.declared.answer.Told.{Told}
use Rattle.afr_lines.specs.declared.request.Area.{Area}
use Rattle.afr_lines.specs.declared.request.Request.{Request}
use Rattle.afr_lines.specs.declared.request.Request.TheVariants.{Apply, Index, List, Lock, Look, Mend, Post, Pre, ReadAttr, ReadAttrs, ReadBytes, ReadName, Settle, Unlock}
use Rattle.afr_lines.specs.Overlap.{same_area}
use Rattle.afr_base.specs.Kinds.{same_kind}
use Rattle.afr_object.specs.declared.change.Repair.{Repair}
use Rattle.afr_object.specs.declared.change.Repair.TheVariants.{Copy, CutTo, PutAttrs, PutNames}
use Rattle.afr_lines.specs.declared.lock.Domain.TheVariants.{Heal, Work}
use Rattle.std.proofs.Common.{Bool, ap, arith, false, inl, inr, not, refl, sym, true, true≢false, ℕ, ◌&&◌, ◌||◌, ◌∙◌, ◌≡◌, ◌≤◌, ◌⊎◌}
use Rattle.std.proofs.lemmas.Bool.Decides.{nat_tests}
use Rattle.std.specs.Prelude.{if◌then◌else◌, nat_le, nat_lt, ◌==◌}
use Rattle.afr_model_moves.specs.Rules as weak
use Rattle.afr_model_moves.specs.Rules.{Register, busy, is_area}
use Rattle.afr_model_moves.specs.Register.{Exact, Finish, HealLocks, HealPart, HealPres, HealUnlocks, Looks, Mends, Opening, Piece, Reads, Settles, Step, Unlocks, Untouched, WorkLocks, is_finish, len_of, piece_area, rank, same_step, whole_area}
use Rattle.std.proofs.lemmas.Bool.{or_parts, eqb-true, not-true, leb-true}
use Rattle.afr_base.specs.Bricks.{and_left, and_right}
use Rattle.afr_model_moves.proofs.Tests.{work_locks, next_not_opening}

-- number and start by the step: no start outside a heal and before its first HealBegin, no number while Work locks are asked
pub record Stage (heal : Bool) (step : Step) (part : HealPart) (broken : Bool) (start number : ℕ) : Type 0 where
  pub outside : heal ≡ false → (start ≡ 0) × (part ≡ Opening)
  pub still : step ≡ Untouched → number ≡ 0
  pub early : heal ≡ true → rank step ≤ 5 → (part ≡ Opening) × (start ≡ 0) × (number ≡ 0)
  pub waiting : heal ≡ true → step ≡ WorkLocks → number ≡ 0
  pub opening : heal ≡ true → step ≡ WorkLocks → part ≡ Opening → start ≡ 0
  pub later : (part ≡ Opening → ⊥) → start ≡ 0 → ⊥
  pub numbered : heal ≡ true → broken ≡ false → 7 ≤ rank step → start ≡ 0 → ⊥

pub stage_fresh : Stage false Untouched Opening false 0 0
stage_fresh = record {
  outside = λ e. (refl, refl);
  still = λ e. refl;
  early = λ e. absurd (cc e);
  waiting = λ e. absurd (cc e);
  opening = λ e. absurd (cc e);
  later = λ e k. e refl;
  numbered = λ e. absurd (cc e);
}

pub stage_more : (heal : Bool) (step : Step) (part : HealPart) (broken more : Bool) (start number : ℕ) → Stage heal step part broken start number → Stage heal step part (broken || more) start number
stage_more heal step part broken more start number s = record {
  outside = s.outside;
  still = s.still;
  early = s.early;
  waiting = s.waiting;
  opening = s.opening;
  later = s.later;
  numbered = λ e k. s.numbered e (or_parts broken more k).0;
}

-- a step after the first looks, with the same number
pub stage_on : (step next : Step) (part : HealPart) (broken : Bool) (start number : ℕ) → 7 ≤ rank next → (broken ≡ false → 7 ≤ rank step) → Stage true step part broken start number → Stage true next part broken start number
stage_on step next part broken start number far was s = record {
  outside = λ e. absurd (true≢false e);
  still = λ e. absurd (low next far (ap rank e));
  early = λ e k. absurd (omega (arith, far, k));
  waiting = λ e k. absurd (six next far (ap rank k));
  opening = λ e k. absurd (six next far (ap rank k));
  later = s.later;
  numbered = λ e k far_now. s.numbered e k (was k);
}
  where
    low : (next : Step) → 7 ≤ rank next → rank next ≡ 0 → ⊥
    low next far e = omega (arith, far, e)

    six : (next : Step) → 7 ≤ rank next → rank next ≡ 6 → ⊥
    six next far e = omega (arith, far, e)

pub stage_kept : (step : Step) (part : HealPart) (broken : Bool) (start number now count : ℕ) → now ≡ start → (count ≡ number) ⊎ (count ≡ 0) → Stage true step part broken start number → Stage true step part broken now count
stage_kept step part broken start number now count e f s = record {
  outside = λ k. absurd (true≢false k);
  still = λ k. zero_now (s.still k);
  early = λ k low. (let w = s.early k low in (w.0, e ∙ w.1, zero_now w.2));
  waiting = λ k at. zero_now (s.waiting k at);
  opening = λ k at first. e ∙ s.opening k at first;
  later = λ k z. s.later k (sym e ∙ z);
  numbered = λ k un far z. s.numbered k un far (sym e ∙ z);
}
  where
    zero_now : number ≡ 0 → count ≡ 0
    zero_now z = elim f [ inl g ↦ g ∙ z | inr g ↦ g ]

second_of_five : (x y z u v : Bool) → ((x && (y && z)) && u && v) ≡ true → y ≡ true
second_of_five x y z u v e = grind arith

pub onward_far : (n : ℕ) (keeps : ℕ → Kind → Bool) (r : Exact) (s g : ℕ) (kind : Kind) → onward n keeps r s g kind ≡ true → 7 ≤ rank r.step
onward_far n keeps r s g kind e = leb-true 7 (rank r.step) (second_of_five (goes_on n keeps r s) (nat_le 7 (rank r.step)) (passed n keeps r s Looks) (g == r.law.object) (same_kind kind r.law.kind) e)

pub settles_far : (n : ℕ) (keeps : ℕ → Kind → Bool) (r : Exact) (s : ℕ) → settles_over n keeps r s ≡ true → 7 ≤ rank r.step
settles_far n keeps r s e = leb-true 7 (rank r.step) (deep (nat_le 7 (rank r.step)) (passed n keeps r s Looks) (passed n keeps r s Reads) (passed n keeps r s HealPres) (passed n keeps r s Mends) (passed n keeps r s Settles) e)
  where
    deep : (x y z u v w : Bool) → (((((x && y) && z) && u) && v) && w) ≡ true → x ≡ true
    deep x y z u v w e = grind arith

pub mend_far : (n : ℕ) (keeps : ℕ → Kind → Bool) (r : Exact) (source : ℕ) (repair : Repair) → may_mend n keeps r source repair ≡ true → 7 ≤ rank r.step
mend_far n keeps r source (CutTo g len) e = onward_far n keeps r source g.0 Bytes (and_left _ _ (and_left _ _ e))
mend_far n keeps r source (Copy g at some read) e = onward_far n keeps r source g.0 Bytes (and_left _ _ (and_left _ _ (and_left _ _ (and_left _ _ e))))
mend_far n keeps r source (PutAttrs g read) e = onward_far n keeps r source g.0 Attrs (and_left _ _ e)
mend_far n keeps r source (PutNames g reads) e = onward_far n keeps r source g.0 Names (and_left _ _ (and_left _ _ e))

-- the weak register and the step after a request in a heal
module _ (n : ℕ) (keeps : ℕ → Kind → Bool) (r : Exact) (t b : ℕ) (told : Told) (inside : r.law.heal ≡ true) (s : Stage true r.step r.part r.broken r.law.start r.law.number) where
  abbrev pub After : Request → Register
  After request = weak.dropping (is_gone told) b (weak.note_ask n r.law b request told)

  abbrev pub Staged : Request → Type 0
  Staged request = Stage true (left_in_heal n r t b request told).step (left_in_heal n r t b request told).part r.broken (After request).start (After request).number

  keep : (request : Request) → Kept request r.law (After request)
  keep request = kept_dropped request r.law (weak.note_ask n r.law b request told) (is_gone told) b (kept n r.law b request told)

  on : (request : Request) (next : Step) → 7 ≤ rank next → (r.broken ≡ false → 7 ≤ rank r.step) → Stage true next r.part r.broken (After request).start (After request).number
  on request next far was = (
      let k = keep request in
      stage_kept next r.part r.broken r.law.start r.law.number (After request).start (After request).number k.start k.number (stage_on r.step next r.part r.broken r.law.start r.law.number far was s)
      )

  heal_lock : (request : Request) → rank r.step ≡ 5 → Stage true HealLocks r.part r.broken (After request).start (After request).number
  heal_lock request at = (
      let k = keep request in
      let w = s.early refl (omega (arith, at)) in
      stage_kept HealLocks r.part r.broken r.law.start r.law.number (After request).start (After request).number k.start k.number
      (record {
        outside = λ e. absurd (true≢false e);
        still = λ e. absurd (cc e);
        early = λ e low. w;
        waiting = λ e f. absurd (cc f);
        opening = λ e f. absurd (cc f);
        later = s.later;
        numbered = λ e f far. absurd (omega (arith, far));
      })
      )

  number_dropped : (gone : Bool) (w : Register) → (weak.dropping gone b w).number ≡ w.number
  number_dropped true w = refl
  number_dropped false w = refl

  free_number : (area : Area) → busy n r.law ≡ false → (After (Lock Work area)).number ≡ 0
  free_number area e = number_dropped (is_gone told) (weak.note_ask n r.law b (Lock Work area) told) ∙ lock_number n r.law b area told e

  wait_stage : (area : Area) (part : HealPart) → ((part ≡ Opening) → r.law.start ≡ 0) → ((part ≡ Opening → ⊥) → r.law.start ≡ 0 → ⊥) → (After (Lock Work area)).number ≡ 0
      → Stage true WorkLocks part r.broken (After (Lock Work area)).start (After (Lock Work area)).number
  wait_stage area part opened_first later_one none = (
      let k = keep (Lock Work area) in
      record {
        outside = λ e. absurd (true≢false e);
        still = λ e. absurd (cc e);
        early = λ e low. absurd (omega (arith, low));
        waiting = λ e f. none;
        opening = λ e f first. k.start ∙ opened_first first;
        later = λ f z. later_one f (sym k.start ∙ z);
        numbered = λ e f far. absurd (omega (arith, far));
      }
      )

  was_zero : (area : Area) → r.law.number ≡ 0 → (After (Lock Work area)).number ≡ 0
  was_zero area z = elim (keep (Lock Work area)).number [ inl e ↦ e ∙ z | inr e ↦ e ]

  work_lock : (source : ℕ) (area : Area) → r.broken ≡ false → may_heal_work n keeps r source b area ≡ true → Stage true WorkLocks (next_part r area) r.broken (After (Lock Work area)).start (After (Lock Work area)).number
  work_lock source area whole e = go (same_step r.step WorkLocks) refl (same_step r.step HealLocks) refl (same_step r.step Unlocks) refl (same_area (whole_area r.law.object Bytes) area) e
    where
      apart : (m : ℕ) → (m == 12) ≡ true → (m == 6) ≡ true → ⊥
      apart m e f = grind (arith, nat_tests)

      go : (wait : Bool) → same_step r.step WorkLocks ≡ wait → (heal : Bool) → same_step r.step HealLocks ≡ heal → (freeing : Bool) → same_step r.step Unlocks ≡ freeing → (last : Bool)
          → (if wait then is_area r.law.area area && is_lowest (locks_at r r.part) r.asked b else if heal then is_next n r source area && is_lowest r.law.healing empty b
          else (freeing && not (busy n r.law) && same_kind r.law.kind Bytes && (if nat_lt r.upto (len_of (r.first_views source)) then same_area (piece_area r.law.object r.upto) area else last)) && not (is_finish r.part) && is_lowest r.first_reached empty b) ≡ true
          → Stage true WorkLocks (if freeing then (if last then Finish else Piece) else r.part) r.broken (After (Lock Work area)).start (After (Lock Work area)).number
      go true p heal q true v last e = absurd (apart (rank r.step) v p)
      go true p heal q false v last e = (
          let at : r.step ≡ WorkLocks = work_locks r.step p in
          wait_stage area r.part (λ first. s.opening refl at first) s.later (was_zero area (s.waiting refl at))
          )
      go false p true q true v last e = absurd (five (rank r.step) v q)
        where
          five : (m : ℕ) → (m == 12) ≡ true → (m == 5) ≡ true → ⊥
          five m e f = grind (arith, nat_tests)
      go false p true q false v last e = (
          let w = s.early refl (let k : rank r.step ≡ 5 = eqb-true (rank r.step) 5 q in omega (arith, k)) in
          wait_stage area r.part (λ first. w.1) s.later (was_zero area w.2)
          )
      go false p false q false v last e = absurd (none (not (busy n r.law)) (same_kind r.law.kind Bytes) (if nat_lt r.upto (len_of (r.first_views source)) then same_area (piece_area r.law.object r.upto) area else last) (not (is_finish r.part)) (is_lowest r.first_reached empty b) e)
        where
          none : (x y z u v : Bool) → ((false && x && y && z) && u && v) ≡ true → ⊥
          none x y z u v e = true≢false (sym e)
      go false p false q true v last e = (
          let idle : busy n r.law ≡ false = not-true (busy n r.law) (free (not (busy n r.law)) (same_kind r.law.kind Bytes) (if nat_lt r.upto (len_of (r.first_views source)) then same_area (piece_area r.law.object r.upto) area else last) (not (is_finish r.part)) (is_lowest r.first_reached empty b) e) in
          let begun_once : r.law.start ≡ 0 → ⊥ = s.numbered refl whole (let k : rank r.step ≡ 12 = eqb-true (rank r.step) 12 v in omega (arith, k)) in
          wait_stage area (if last then Finish else Piece) (λ first. absurd (next_not_opening last first)) (λ f z. begun_once z) (free_number area idle)
          )
        where
          free : (x y z u v : Bool) → ((true && x && y && z) && u && v) ≡ true → x ≡ true
          free x y z u v e = grind arith

  pub staged : (request : Request) → InHeal n keeps r b request → Staged request
  staged (Lock Heal area) (Goes m) = heal_lock (Lock Heal area) (eqb-true (rank r.step) 5 (and_left _ _ (and_left _ _ m.allowed)))
  staged (Lock Work area) (Goes m) = work_lock m.source area m.whole m.allowed
  staged (Unlock Work area) (Goes m) = on (Unlock Work area) Unlocks (omega arith) (λ e. settles_far n keeps r m.source (and_right _ _ (and_left _ _ (and_left _ _ m.allowed))))
  staged (Unlock Heal area) (Goes m) = on (Unlock Heal area) HealUnlocks (omega arith) (λ e. settles_far n keeps r m.source (and_right _ _ (and_left _ _ (and_left _ _ (and_left _ _ (and_left _ _ m.allowed))))))
  staged (Look g) (Goes m) = on (Look g) Looks (omega arith) (λ e. let k : rank r.step ≡ 7 = eqb-true (rank r.step) 7 (and_left _ _ (and_left _ _ m.allowed)) in omega (arith, k))
  staged (ReadBytes g at len) (Goes m) = on (ReadBytes g at len) Reads (omega arith) (λ e. onward_far n keeps r m.source g.0 Bytes (and_left _ _ (and_left _ _ (and_left _ _ m.allowed))))
  staged (ReadAttrs g) (Goes m) = on (ReadAttrs g) Reads (omega arith) (λ e. onward_far n keeps r m.source g.0 Attrs (and_left _ _ m.allowed))
  staged (List g) (Goes m) = on (List g) Reads (omega arith) (λ e. onward_far n keeps r m.source g.0 Names (and_left _ _ m.allowed))
  staged (Pre g kind) (Goes m) = on (Pre g kind) HealPres (omega arith) (λ e. onward_far n keeps r m.source g.0 kind (and_left _ _ (and_left _ _ m.allowed)))
  staged (Mend repair) (Goes m) = on (Mend repair) Mends (omega arith) (λ e. mend_far n keeps r m.source repair (and_left _ _ (and_left _ _ m.allowed)))
  staged (Settle g kind less) (Goes m) = on (Settle g kind less) Settles (omega arith) (λ e. onward_far n keeps r m.source g.0 kind (and_left _ _ (and_left _ _ (and_left _ _ m.allowed))))
  staged (Unlock Work area) (Gives i broken k) = on (Unlock Work area) Unlocks (omega arith) (λ e. absurd (true≢false (sym broken ∙ e)))
  staged (Unlock Heal area) (Gives i broken k) = on (Unlock Heal area) HealUnlocks (omega arith) (λ e. absurd (true≢false (sym broken ∙ e)))
  staged (Apply q) (Goes m) = absurd (true≢false (sym m.allowed))
  staged (Post q g kind missed) (Goes m) = absurd (true≢false (sym m.allowed))
  staged (ReadName g name) (Goes m) = absurd (true≢false (sym m.allowed))
  staged (ReadAttr g key) (Goes m) = absurd (true≢false (sym m.allowed))
  staged Index (Goes m) = absurd (true≢false (sym m.allowed))
  staged _ (Gives i broken k) = absurd k
