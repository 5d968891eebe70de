-- What is left to ask of a set that may have lost bricks.
use Rattle.std.proofs.Common.{◌≡◌, ℕ, ◌+◌, ◌<◌, ◌≤◌, ◌==◌, ◌&&◌, ◌||◌, not, Bool, true, false, refl, sym, ◌∙◌, ap, arith, List}
use Rattle.std.proofs.lemmas.Bool.Decides.{nat_tests}
use Rattle.afr_base.specs.Bricks.{added, and_right, common, member, minus, removed}
use Rattle.afr_base.specs.SetLemmas.{member_added, member_minus, member_removed}
use Rattle.afr_counting.proofs.Counts.{count_falls, count_less}
use Rattle.afr_law_pace.specs.Left.{count}
use Rattle.afr_client_entry.proofs.Removals.Facts.{common_left, common_right}

-- what is left is no more where the set is no larger
pub left_less : (n : ℕ) (s s' t : List ℕ) → ((x : ℕ) → member s' x ≡ true → member s x ≡ true) → count n (minus s' t) ≤ count n (minus s t)
left_less n s s' t less = count_less n (member (minus s t)) (member (minus s' t)) (λ x l e. member_minus s t x ∙ go (member t x) (member s x) (member s' x) (less x) (sym (member_minus s' t x) ∙ e))
  where
    go : (p q r : Bool) → (r ≡ true → q ≡ true) → (not p && r) ≡ true → (not p && q) ≡ true
    go true q r f e = e
    go false q r f e = f e

-- and one less where a brick was asked
pub left_falls : (n b : ℕ) (s s' t : List ℕ) → ((x : ℕ) → member s' x ≡ true → member s x ≡ true) → b < n → member s b ≡ true → member t b ≡ false → count n (minus s' (added b t)) + 1 ≤ count n (minus s t)
left_falls n b s s' t less low here new =
    count_falls n (member (minus s t)) (member (minus s' (added b t))) b
    (λ x l e. member_minus s t x ∙ part (b == x) (member t x) (member s x) (member s' x) (less x) (sym (ap (λ (z : Bool). not z && member s' x) (member_added b t x)) ∙ sym (member_minus s' (added b t) x) ∙ e))
    low (member_minus s t b ∙ was (member t b) (member s b) new here) (member_minus s' (added b t) b ∙ gone (member (added b t) b) (member s' b) (member_added b t b ∙ self (member t b)))
  where
    part : (h x y z : Bool) → (z ≡ true → y ≡ true) → (not (h || x) && z) ≡ true → (not x && y) ≡ true
    part true x y z f e = absurd (cc e)
    part false true y z f e = absurd (cc e)
    part false false y z f e = f e

    was : (x y : Bool) → x ≡ false → y ≡ true → (not x && y) ≡ true
    was x y e f = rw (e, f) refl

    gone : (x y : Bool) → x ≡ true → (not x && y) ≡ false
    gone x y e = rw e refl

    self : (x : Bool) → ((b == b) || x) ≡ true
    self x = (let e : (b == b) ≡ true = grind (arith, nat_tests) in rw e refl)

-- fewer are in a set that lost a brick
pub removed_in : (b : ℕ) (s : List ℕ) (x : ℕ) → member (removed b s) x ≡ true → member s x ≡ true
removed_in b s x e = and_right (not (b == x)) (member s x) (sym (member_removed b s x) ∙ e)

pub removed_less : (n b : ℕ) (s : List ℕ) → count n (removed b s) ≤ count n s
removed_less n b s = count_less n (member s) (member (removed b s)) (λ x l e. removed_in b s x e)

-- and in both of two sets that are no larger
pub common_less : (s t s' t' : List ℕ) → ((x : ℕ) → member s' x ≡ true → member s x ≡ true) → ((x : ℕ) → member t' x ≡ true → member t x ≡ true) → (x : ℕ) → member (common s' t') x ≡ true → member (common s t) x ≡ true
common_less s t s' t' first second x e =
    member_minus s (minus s t) x ∙ ap (λ (z : Bool). not z && member s x) (member_minus s t x) ∙ both (member s x) (member t x) (first x (common_left s' t' x e)) (second x (common_right s' t' x e))
  where
    both : (p q : Bool) → p ≡ true → q ≡ true → (not (not q && p) && p) ≡ true
    both p q f g = rw (f, g) refl
