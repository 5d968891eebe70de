-- The lines of a heal's machine and those of the engine.
use Rattle.std.proofs.Common.{◌≡◌, ℕ, zero, suc, ◌<◌, ◌≤◌, ◌&&◌, Bool, true, false, refl, ap, subst, arith, Option, None, Some, if◌then◌else◌}
use Rattle.afr_base.specs.declared.ids.BrickId.{BrickId}
use Rattle.afr_lines.specs.declared.request.Request.{Request}
use Rattle.afr_model_moves.specs.Register.{over}
use Rattle.afr_model_moves.specs.Steps.{is_lowest}
use Rattle.afr_discipline.specs.Turns.{brick_of, find, later}
use Rattle.afr_heal.specs.Engine.{NextOfHeal, Ask, or_else}
use Rattle.afr_heal.proofs.Finding.{find_none, find_some, over_all}
use Rattle.afr_heal.proofs.Parts.{not_both}

-- a brick that was found is one of the five
pub brick_below : (n : ℕ) (p : ℕ → Bool) (b : BrickId) → n ≤ 5 → brick_of (find n p) ≡ Some b → b.0 < 5
brick_below n p b few e = go (find n p) refl e
  where
    go : (o : Option ℕ) → find n p ≡ o → brick_of o ≡ Some b → b.0 < 5
    go None f e = absurd (cc e)
    go (Some c) f e = let w = (find_some n p c f).0 in let is : c ≡ b.0 = ap (λ (o : Option BrickId). number o) e in omega (arith, w, is, few)
      where
        number : Option BrickId → ℕ
        number None = 0
        number (Some b) = b.0

-- the line of a brick that was found, and of none
pub due_some : (request : ℕ → Request) (o : Option ℕ) (rest : NextOfHeal) (b : BrickId) → brick_of o ≡ Some b → Ask b.0 (request b.0) ≡ or_else request o rest
due_some request None rest b e = absurd (cc e)
due_some request (Some c) rest b e = let is : record { 0 = c } ≡ b = cc e in subst (λ (b : BrickId). Ask b.0 (request b.0) ≡ Ask c (request c)) is refl

pub due_none : (request : ℕ → Request) (o : Option ℕ) (rest : NextOfHeal) → brick_of o ≡ None → rest ≡ or_else request o rest
due_none request None rest e = refl
due_none request (Some c) rest e = absurd (cc e)

-- the lowest of a set is the lowest that passes
pub lowest_same : (n : ℕ) (p : ℕ → Bool) → find n (is_lowest p (λ x. false)) ≡ find n p
lowest_same zero p = refl
lowest_same (suc n) p = go (find n p) refl (lowest_same n p)
  where
    both_so : (a b : Bool) → b ≡ true → (a && true && b) ≡ a
    both_so true true e = refl
    both_so false b e = refl
    both_so true false e = absurd (cc e)

    go : (o : Option ℕ) → find n p ≡ o → find n (is_lowest p (λ x. false)) ≡ find n p → later (find n (is_lowest p (λ x. false))) n (is_lowest p (λ x. false) n) ≡ later (find n p) n (p n)
    go (Some c) e h = rw (h, e) refl
    go None e h = rw (h, e) (ap (λ (f : Bool). if f then Some n else None) (both_so (p n) (over n p (λ x. false)) (over_all n p (λ x. false) (λ x l m. absurd (not_both (p x) m (find_none n p e x l))))))
