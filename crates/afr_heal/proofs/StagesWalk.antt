-- The next line of a heal, stage by stage: for each case of a heal that stands, the lines that may come next.
use Rattle.std.proofs.Common.{ℕ, ◌≡◌, ◌<◌, ◌&&◌, if◌then◌else◌, Bool, None, Option, Some, arith, false, nat_le, nat_lt, not, refl, subst, sym, true}
use Rattle.std.proofs.lemmas.Bool.Decides.{nat_tests}
use Rattle.afr_base.specs.Majority.{is_most}
use Rattle.afr_base.specs.declared.ids.Gfid.{Gfid}
use Rattle.afr_base.specs.declared.ids.Kind.{Kind}
use Rattle.afr_discipline.specs.Turns.{find, turn_of}
use Rattle.afr_heal.proofs.Finding.{find_none, find_some, over_asked, over_lowest, passed_behind, passed_none, passed_off}
use Rattle.afr_heal.proofs.Parts.{any_no, both, not_both, pair, some_of_most}
use Rattle.afr_heal.specs.Engine.{Ask, Begins, Ends, NextOfHeal, after_looks, broken_next, has_part, lock_next, next_of, or_else, part_or_end, step_or, whole_next}
use Rattle.afr_heal.specs.Requests.{area_now, request_in}
use Rattle.afr_heal.specs.Standing.{AfterLooks, AtFirst, AtHeal}
use Rattle.afr_lines.specs.declared.request.Request.{Request}
use Rattle.afr_lines.specs.declared.request.Request.TheVariants.{Lock, Unlock}
use Rattle.afr_model_moves.specs.Register.{Exact, Finish, HealLocks, HealPart, HealPres, HealUnlocks, Looks, Mends, Opening, Piece, Reads, Settles, Step, Unlocks, Untouched, WorkLocks, everywhere, is_opening, over, rank}
use Rattle.afr_model_moves.specs.Rules.{busy, heal_area}
use Rattle.afr_model_moves.specs.Sets.{empty}
use Rattle.afr_model_moves.specs.Steps.{is_lowest, locks_at, looks_at, mends_over, passed, pres_over, reads_over, settles_over, turn}
use Rattle.afr_lines.specs.declared.lock.Domain.TheVariants.{Heal, Work}

-- ---- one step of the chain
-- the step asks the lowest brick whose turn it is, or it is over and the rest comes
pub from_here : (P : NextOfHeal → Type 0) (n : ℕ) (keeps : ℕ → Kind → Bool) (r : Exact) (s : ℕ) (g : Gfid) (kind : Kind) (step : Step) (rest : NextOfHeal)
    → ((b : ℕ) → b < n → turn n keeps r s step b ≡ true → P (Ask b (request_in n keeps r s g kind step b))) → (passed n keeps r s step ≡ true → P rest) → P (step_or n keeps r s g kind step rest)
from_here P n keeps r s g kind step rest some none = go (turn_of n keeps r s step) refl
  where
    go : (o : Option ℕ) → turn_of n keeps r s step ≡ o → P (or_else (request_in n keeps r s g kind step) o rest)
    go (Some b) e = let w = find_some n (turn n keeps r s step) b e in some b w.0 w.1
    go None e = none (passed_none n keeps r s step e)

-- the lowest brick of a set is asked, or the set is empty and the rest comes
pub chosen : (P : NextOfHeal → Type 0) (n : ℕ) (test : ℕ → Bool) (request : ℕ → Request) (rest : NextOfHeal)
    → ((b : ℕ) → b < n → test b ≡ true → P (Ask b (request b))) → (((b : ℕ) → b < n → test b ≡ false) → P rest) → P (or_else request (find n test) rest)
chosen P n test request rest some none = go (find n test) refl
  where
    go : (o : Option ℕ) → find n test ≡ o → P (or_else request o rest)
    go (Some b) e = let w = find_some n test b e in some b w.0 w.1
    go None e = none (find_none n test e)

-- a heal that goes on is in one step of the chain
pub next_is : (P : NextOfHeal → Type 0) (n : ℕ) (keeps : ℕ → Kind → Bool) (r : Exact) (s : ℕ) (g : Gfid) (kind : Kind) → r.broken ≡ false → P (whole_next n keeps r s g kind r.step) → P (next_of n keeps r s g kind)
next_is P n keeps r s g kind whole h = subst P (sym (pick r.broken (broken_next n r g kind) (whole_next n keeps r s g kind r.step) whole)) h
  where
    pick : (x : Bool) (p q : NextOfHeal) → x ≡ false → (if x then p else q) ≡ q
    pick true p q h = absurd (cc h)
    pick false p q h = refl

-- ---- the stages up to the looks of a part
module _ (n : ℕ) (keeps : ℕ → Kind → Bool) (r : Exact) (s : ℕ) (g : Gfid) (kind : Kind) where
  -- no line was: the first Heal lock
  pub first_elim : AtFirst n r → (P : NextOfHeal → Type 0) → P (Ask 0 (Lock Heal (heal_area g.0))) → P (next_of n keeps r s g kind)
  first_elim k P h = next_is P n keeps r s g kind k.whole (subst (λ (step : Step). P (whole_next n keeps r s g kind step)) (sym k.step) h)

  -- all were asked, and a majority granted it
  pub enough_heal : AtHeal n keeps r g → passed n keeps r s HealLocks ≡ true → (over n everywhere r.asked ≡ true) × (is_most n r.law.healing ≡ true)
  enough_heal k h =
      let all_asked : over n everywhere r.asked ≡ true = rw k.step at h in
      (all_asked, go (over n everywhere r.asked) (is_most n r.law.healing) all_asked k.going)
    where
      go : (o m : Bool) → o ≡ true → (o && not m) ≡ false → m ≡ true
      go true true a e = refl
      go true false a e = absurd (cc e)
      go false m a e = absurd (cc a)

  -- so some brick is asked its Work lock
  pub some_lock : AtHeal n keeps r g → passed n keeps r s HealLocks ≡ true → passed n keeps r s WorkLocks ≡ true → ⊥
  some_lock k h w =
      let one = some_of_most n r.law.healing (enough_heal k h).1 in
      let over_in : over n r.law.healing empty ≡ true = rw (k.step, k.opening) at w in
      cc (over_asked n r.law.healing empty over_in one.0 one.1 one.2)

  -- the Heal locks: another one, or the first Work lock once they are over
  pub heal_elim : AtHeal n keeps r g → (P : NextOfHeal → Type 0)
      → ((b : ℕ) → b < n → turn n keeps r s HealLocks b ≡ true → P (Ask b (request_in n keeps r s g kind HealLocks b)))
      → (passed n keeps r s HealLocks ≡ true → (b : ℕ) → b < n → turn n keeps r s WorkLocks b ≡ true → P (Ask b (request_in n keeps r s g kind WorkLocks b)))
      → P (next_of n keeps r s g kind)
  heal_elim k P heals works =
      next_is P n keeps r s g kind k.whole (subst (λ (step : Step). P (whole_next n keeps r s g kind step)) (sym k.step)
      (from_here P n keeps r s g kind HealLocks _ heals (λ h. from_here P n keeps r s g kind WorkLocks _ (works h) (λ w. absurd (some_lock k h w)))))

  -- where it is nobody's turn, all Work locks of the part were asked
  pub locks_over : r.step ≡ WorkLocks → passed n keeps r s WorkLocks ≡ true → over n (locks_at r r.part) r.asked ≡ true
  locks_over at h = rw at at h

  -- the Work locks of a part: another one, or the HealBegin once they are over
  pub lock_elim : (P : NextOfHeal → Type 0) → r.broken ≡ false → r.step ≡ WorkLocks
      → ((b : ℕ) → b < n → turn n keeps r s WorkLocks b ≡ true → P (Ask b (request_in n keeps r s g kind WorkLocks b)))
      → (over n (locks_at r r.part) r.asked ≡ true → P Begins) → P (next_of n keeps r s g kind)
  lock_elim P whole at locks begins =
      next_is P n keeps r s g kind whole (subst (λ (step : Step). P (whole_next n keeps r s g kind step)) (sym at)
      (from_here P n keeps r s g kind WorkLocks _ locks (λ h. begins (locks_over at h))))

  -- the looks of a part, of which some are left
  pub look_elim : (P : NextOfHeal → Type 0) → r.broken ≡ false → r.step ≡ Looks → over n (looks_at r r.part) r.asked ≡ false
      → ((b : ℕ) → b < n → turn n keeps r s Looks b ≡ true → P (Ask b (request_in n keeps r s g kind Looks b))) → P (next_of n keeps r s g kind)
  look_elim P whole at more looks =
      next_is P n keeps r s g kind whole (subst (λ (step : Step). P (whole_next n keeps r s g kind step)) (sym at)
      (from_here P n keeps r s g kind Looks _ looks (λ h. absurd (not_both (over n (looks_at r r.part) r.asked) (rw at at h) more))))

  -- the looks of a later part are at the bricks of the first looks
  pub looks_later : is_opening r.part ≡ false → over n r.first_reached r.asked ≡ false → over n (looks_at r r.part) r.asked ≡ false
  looks_later part more = go r.part part
    where
      go : (part : HealPart) → is_opening part ≡ false → over n (looks_at r part) r.asked ≡ false
      go Opening h = absurd (cc h)
      go Piece h = more
      go Finish h = more

  -- a broken heal: a Work lock is given back, or else a Heal lock, or it ends
  pub broken_elim : (P : NextOfHeal → Type 0) → r.broken ≡ true
      → ((b : ℕ) → b < n → r.law.held b ≡ true → P (Ask b (Unlock Work (area_now r g kind))))
      → (((b : ℕ) → b < n → r.law.held b ≡ false) → (b : ℕ) → b < n → r.law.healing b ≡ true → P (Ask b (Unlock Heal (heal_area g.0))))
      → (((b : ℕ) → b < n → r.law.held b ≡ false) → ((b : ℕ) → b < n → r.law.healing b ≡ false) → P Ends)
      → P (next_of n keeps r s g kind)
  broken_elim P broken works heals ends = subst P (sym (pick r.broken (broken_next n r g kind) (whole_next n keeps r s g kind r.step) broken))
      (chosen P n r.law.held (λ b. Unlock Work (area_now r g kind)) (or_else (λ b. Unlock Heal (heal_area g.0)) (find n r.law.healing) Ends) works (λ none.
      chosen P n r.law.healing (λ b. Unlock Heal (heal_area g.0)) Ends (heals none) (ends none)))
    where
      pick : (x : Bool) (p q : NextOfHeal) → x ≡ true → (if x then p else q) ≡ p
      pick true p q h = refl
      pick false p q h = absurd (cc h)

-- ---- the stages after the looks of a part
module _ (n : ℕ) (keeps : ℕ → Kind → Bool) (r : Exact) (s : ℕ) (g : Gfid) (kind : Kind) (k : AfterLooks n keeps r s g kind) where
  -- once the unlocks have passed no Work lock is held
  pub not_busy : passed n keeps r s Unlocks ≡ true → (x : ℕ) → x < n → r.law.held x ≡ false
  not_busy h x l = go (r.law.held x) refl
    where
      go : (f : Bool) → r.law.held x ≡ f → r.law.held x ≡ false
      go true e = k.freed x l (passed_behind n keeps r s Unlocks h x l e)
      go false e = e

  -- once the Heal unlocks have passed no Heal lock is held
  pub not_healing : passed n keeps r s HealUnlocks ≡ true → (x : ℕ) → x < n → r.law.healing x ≡ false
  not_healing h x l = go (r.law.healing x) refl
    where
      go : (f : Bool) → r.law.healing x ≡ f → r.law.healing x ≡ false
      go true e = k.lost x l (passed_behind n keeps r s HealUnlocks h x l e)
      go false e = e

  -- and then the actor holds none at all
  pub is_free : passed n keeps r s Unlocks ≡ true → busy n r.law ≡ false
  is_free h = rw (any_no n r.law.held (not_busy h), any_no n r.law.second_held (λ x l. k.base.no_second x)) refl

  -- the bricks of the first looks are held until their unlocks, so the step is theirs or the next
  pub past_unlocks : passed n keeps r s Unlocks ≡ true → nat_lt (rank r.step) 12 ≡ false
  past_unlocks h = go (nat_lt (rank r.step) 12) refl
    where
      one : (x : ℕ) × (x < n) × (r.first_reached x ≡ true)
      one = some_of_most n r.first_reached k.many

      go : (f : Bool) → nat_lt (rank r.step) 12 ≡ f → nat_lt (rank r.step) 12 ≡ false
      go true e = absurd (not_both (r.law.held one.0) (k.holding one.0 one.1 one.2 e) (not_busy h one.0 one.1))
      go false e = e

  -- and the same of the Heal locks
  pub past_heal : passed n keeps r s HealUnlocks ≡ true → nat_lt (rank r.step) 13 ≡ false
  past_heal h = go (nat_lt (rank r.step) 13) refl
    where
      one : (x : ℕ) × (x < n) × (r.first_reached x ≡ true)
      one = some_of_most n r.first_reached k.many

      go : (f : Bool) → nat_lt (rank r.step) 13 ≡ f → nat_lt (rank r.step) 13 ≡ false
      go true e = absurd (not_both (r.law.healing one.0) (k.healing one.0 one.1 one.2 e) (not_healing h one.0 one.1))
      go false e = e

  -- where another part is to come, the step is the unlocks
  pub at_unlocks : passed n keeps r s Unlocks ≡ true → has_part kind r.part ≡ true → (rank r.step) ≡ 12
  at_unlocks h p = let low = past_unlocks h in let high = k.parts p in grind (arith, nat_tests, low, high)

  -- the chain after the looks, walked once: reads, pre-ops, mends, settling, unlocks, the lock of the next part or the Heal unlocks, the end
  pub after_elim : (P : NextOfHeal → Type 0)
      → ((b : ℕ) → b < n → turn n keeps r s Reads b ≡ true → P (Ask b (request_in n keeps r s g kind Reads b)))
      → (reads_over n keeps r s ≡ true → (b : ℕ) → b < n → turn n keeps r s HealPres b ≡ true → P (Ask b (request_in n keeps r s g kind HealPres b)))
      → (pres_over n keeps r s ≡ true → (b : ℕ) → b < n → turn n keeps r s Mends b ≡ true → P (Ask b (request_in n keeps r s g kind Mends b)))
      → (mends_over n keeps r s ≡ true → (b : ℕ) → b < n → turn n keeps r s Settles b ≡ true → P (Ask b (request_in n keeps r s g kind Settles b)))
      → (settles_over n keeps r s ≡ true → (b : ℕ) → b < n → turn n keeps r s Unlocks b ≡ true → P (Ask b (request_in n keeps r s g kind Unlocks b)))
      → (settles_over n keeps r s ≡ true → passed n keeps r s Unlocks ≡ true → has_part kind r.part ≡ true → (b : ℕ) → b < n → is_lowest r.first_reached (λ x. false) b ≡ true → P (Ask b (lock_next r s g b)))
      → (settles_over n keeps r s ≡ true → passed n keeps r s Unlocks ≡ true → has_part kind r.part ≡ false → (b : ℕ) → b < n → turn n keeps r s HealUnlocks b ≡ true → P (Ask b (request_in n keeps r s g kind HealUnlocks b)))
      → (passed n keeps r s Unlocks ≡ true → passed n keeps r s HealUnlocks ≡ true → P Ends)
      → P (next_of n keeps r s g kind)
  after_elim P reads pres mends settles unlocks part heals ends =
      next_is P n keeps r s g kind k.whole (by_step r.step refl)
    where
      looks_passed : passed n keeps r s Looks ≡ true
      looks_passed = (both (nat_le 7 (rank r.step)) (passed n keeps r s Looks) k.looked).1

      last : settles_over n keeps r s ≡ true → passed n keeps r s Unlocks ≡ true → (f : Bool) → has_part kind r.part ≡ f → P (part_or_end n keeps r s g kind f)
      last r4 r5 true e = chosen P n (is_lowest r.first_reached (λ x. false)) (lock_next r s g) Ends (part r4 r5 e) (λ none. absurd (
          let one = some_of_most n r.first_reached k.many in
          cc (over_asked n r.first_reached (λ x. false) (over_lowest_of none) one.0 one.1 one.2)))
        where
          over_lowest_of : ((b : ℕ) → b < n → is_lowest r.first_reached (λ x. false) b ≡ false) → over n r.first_reached (λ x. false) ≡ true
          over_lowest_of none = over_lowest r.first_reached (λ x. false) n none
      last r4 r5 false e = from_here P n keeps r s g kind HealUnlocks Ends (heals r4 r5 e) (ends r5)

      rest : P (after_looks n keeps r s g kind)
      rest =
          from_here P n keeps r s g kind Reads _ reads (λ r0.
          from_here P n keeps r s g kind HealPres _ (pres (pair _ _ k.looked r0)) (λ r1.
          from_here P n keeps r s g kind Mends _ (mends (pair _ _ (pair _ _ k.looked r0) r1)) (λ r2.
          from_here P n keeps r s g kind Settles _ (settles (pair _ _ (pair _ _ (pair _ _ k.looked r0) r1) r2)) (λ r3.
          from_here P n keeps r s g kind Unlocks _ (unlocks (pair _ _ (pair _ _ (pair _ _ (pair _ _ k.looked r0) r1) r2) r3)) (λ r4.
          last (pair _ _ (pair _ _ (pair _ _ (pair _ _ k.looked r0) r1) r2) r3) r4 (has_part kind r.part) refl)))))

      going : P (step_or n keeps r s g kind Looks (after_looks n keeps r s g kind))
      going = from_here P n keeps r s g kind Looks _ (λ b l t. absurd (passed_off n keeps r s Looks looks_passed b l t)) (λ h. rest)

      high : nat_le 7 (rank r.step) ≡ true
      high = (both (nat_le 7 (rank r.step)) (passed n keeps r s Looks) k.looked).0

      by_step : (step : Step) → r.step ≡ step → P (whole_next n keeps r s g kind step)
      by_step Untouched e = absurd (cc (rw e at high))
      by_step HealLocks e = absurd (cc (rw e at high))
      by_step WorkLocks e = absurd (cc (rw e at high))
      by_step _ e = going
