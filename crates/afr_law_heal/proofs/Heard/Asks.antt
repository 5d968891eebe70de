-- What a heal asks next, by where it stands.
use Rattle.std.proofs.Common.{◌≡◌, ℕ, ◌⊎◌, nat_le, Bool, true, false, refl, sym, ap, subst, inl, inr}
use Rattle.afr_base.specs.declared.ids.Gfid.{Gfid}
use Rattle.afr_base.specs.declared.ids.Kind.{Kind}
use Rattle.afr_base.specs.declared.ids.Kind.TheVariants.{Attrs, Bytes, Names}
use Rattle.afr_base.specs.declared.marks.Marks.{Marks}
use Rattle.afr_heal.proofs.Parts.{both}
use Rattle.afr_heal.proofs.StagesWalk.{after_elim, broken_elim, first_elim, heal_elim, lock_elim, look_elim, looks_later}
use Rattle.afr_heal.specs.Engine.{Ask, NextOfHeal, has_part, next_of}
use Rattle.afr_heal.specs.Requests.{read_in, repair_in}
use Rattle.afr_heal.specs.Standing.{AfterLooks, Ending, First, Going, Healing, Looking, Parting, Standing, Viewing, Working}
use Rattle.afr_lines.specs.declared.request.Area.{Area}
use Rattle.afr_lines.specs.declared.request.Request.{Request}
use Rattle.afr_lines.specs.declared.request.Request.TheVariants.{Index, Lock, Look, Mend, Pre, Settle, Unlock}
use Rattle.afr_model_moves.specs.Register.{Exact, HealPart, Mends, Reads, Step, over, rank}
use Rattle.afr_model_moves.specs.Steps.{looks_at, passed, pres_over, reads_over, turn}
use Rattle.afr_lines.specs.declared.lock.Domain.{Domain}
use Rattle.afr_lines.specs.declared.lock.Domain.TheVariants.{Heal}

-- the request that a heal asks next: which it is, and what holds of the register there
pub data HealAsked (n : ℕ) (keeps : ℕ → Kind → Bool) (r : Exact) (s : ℕ) (g : Gfid) (kind : Kind) (b : ℕ) (request : Request) : Type 0 where
  OfFirst : (area : Area) → r.law.heal ≡ false → request ≡ Lock Heal area → nat_le (rank r.step) 6 ≡ true → HealAsked n keeps r s g kind b request
  OfLock : (domain : Domain) (area : Area) → r.law.heal ≡ true → request ≡ Lock domain area → (kind ≡ Bytes) ⊎ (nat_le (rank r.step) 6 ≡ true) → HealAsked n keeps r s g kind b request
  OfUnlock : (domain : Domain) (area : Area) → r.law.heal ≡ true → request ≡ Unlock domain area → HealAsked n keeps r s g kind b request
  OfLook : r.law.heal ≡ true → request ≡ Look g → nat_le (rank r.step) 7 ≡ true → HealAsked n keeps r s g kind b request
  OfRead : AfterLooks n keeps r s g kind → request ≡ read_in r g kind → turn n keeps r s Reads b ≡ true → HealAsked n keeps r s g kind b request
  OfPre : r.law.heal ≡ true → request ≡ Pre g kind → HealAsked n keeps r s g kind b request
  OfMend : AfterLooks n keeps r s g kind → request ≡ Mend (repair_in r s g kind r.part) → passed n keeps r s Reads ≡ true → turn n keeps r s Mends b ≡ true → HealAsked n keeps r s g kind b request
  OfSettle : (less : Marks) → r.law.heal ≡ true → request ≡ Settle g kind less → HealAsked n keeps r s g kind b request

-- the brick of a line, and its request
abbrev brick_in : NextOfHeal → ℕ
brick_in (Ask b request) = b
brick_in other = 0

abbrev request_now : NextOfHeal → Request
request_now (Ask b request) = request
request_now other = Index

-- a step by its rank
low_step : (step : Step) (k : ℕ) → rank step ≡ k → nat_le k 6 ≡ true → nat_le (rank step) 6 ≡ true
low_step step k e h = rw e h

-- a part more comes in heals of bytes alone
of_bytes : (kind : Kind) (part : HealPart) → has_part kind part ≡ true → kind ≡ Bytes
of_bytes Bytes part h = refl
of_bytes Attrs part h = absurd (cc h)
of_bytes Names part h = absurd (cc h)

module _ (n : ℕ) (keeps : ℕ → Kind → Bool) (r : Exact) (s : ℕ) (g : Gfid) (kind : Kind) (b : ℕ) (request : Request) where
  -- where this is what comes next, so it is asked
  abbrev Goal : NextOfHeal → Type 0
  Goal next = next ≡ Ask b request → HealAsked n keeps r s g kind b request

  same_request : (c : ℕ) (q : Request) → Ask c q ≡ Ask b request → request ≡ q
  same_request c q e = sym (ap request_now e)

  same_brick : (c : ℕ) (q : Request) → Ask c q ≡ Ask b request → c ≡ b
  same_brick c q e = ap brick_in e

  -- whose turn it was found to be, is asked
  turn_here : (step : Step) (c : ℕ) (q : Request) → Ask c q ≡ Ask b request → turn n keeps r s step c ≡ true → turn n keeps r s step b ≡ true
  turn_here step c q e t = subst (λ (x : ℕ). turn n keeps r s step x ≡ true) (same_brick c q e) t

  -- in each case of a heal that stands
  pub asked_of : Standing n keeps r s g kind → Goal (next_of n keeps r s g kind)
  asked_of (First k) = first_elim n keeps r s g kind k Goal (λ e. OfFirst _ k.outside (same_request _ _ e) (low_step r.step 0 (ap rank k.step) refl))
  asked_of (Healing k) = heal_elim n keeps r s g kind k Goal
      (λ c l t e. OfLock _ _ k.base.inside (same_request _ _ e) (inr (low_step r.step 5 (ap rank k.step) refl)))
      (λ o c l t e. OfLock _ _ k.base.inside (same_request _ _ e) (inr (low_step r.step 5 (ap rank k.step) refl)))
  asked_of (Working k) = lock_elim n keeps r s g kind Goal k.whole k.step
      (λ c l t e. OfLock _ _ k.base.inside (same_request _ _ e) (inr (low_step r.step 6 (ap rank k.step) refl))) (λ o e. absurd (cc e))
  asked_of (Looking k) = look_elim n keeps r s g kind Goal k.whole k.step (subst (λ (part : HealPart). over n (looks_at r part) r.asked ≡ false) (sym k.opening) k.more)
      (λ c l t e. OfLook k.base.inside (same_request _ _ e) (rw k.step refl))
  asked_of (Parting k) = lock_elim n keeps r s g kind Goal k.whole k.step
      (λ c l t e. OfLock _ _ k.base.inside (same_request _ _ e) (inr (low_step r.step 6 (ap rank k.step) refl))) (λ o e. absurd (cc e))
  asked_of (Viewing k) = look_elim n keeps r s g kind Goal k.whole k.step (looks_later n keeps r s g kind k.part k.more)
      (λ c l t e. OfLook k.base.inside (same_request _ _ e) (rw k.step refl))
  asked_of (Going k) = after_elim n keeps r s g kind k Goal
      (λ c l t e. OfRead k (same_request _ _ e) (turn_here Reads c _ e t))
      (λ o c l t e. OfPre k.base.inside (same_request _ _ e))
      (λ o c l t e. OfMend k (same_request _ _ e) (reads_passed o) (turn_here Mends c _ e t))
      (λ o c l t e. OfSettle _ k.base.inside (same_request _ _ e))
      (λ o c l t e. OfUnlock _ _ k.base.inside (same_request _ _ e))
      (λ o p part c l t e. OfLock _ _ k.base.inside (same_request _ _ e) (inl (of_bytes kind r.part part)))
      (λ o p part c l t e. OfUnlock _ _ k.base.inside (same_request _ _ e))
      (λ p q e. absurd (cc e))
    where
      reads_passed : pres_over n keeps r s ≡ true → passed n keeps r s Reads ≡ true
      reads_passed o = (both _ (passed n keeps r s Reads) (both (reads_over n keeps r s) _ o).0).1
  asked_of (Ending k) = broken_elim n keeps r s g kind Goal k.broken
      (λ c l t e. OfUnlock _ _ k.base.inside (same_request _ _ e))
      (λ none c l t e. OfUnlock _ _ k.base.inside (same_request _ _ e))
      (λ none none_left e. absurd (cc e))
