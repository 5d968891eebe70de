-- Of a set of bricks one less is left to ask, or to give back.
use Rattle.std.proofs.Common.{◌≡◌, ℕ, ◌+◌, ◌<◌, ◌≤◌, ◌==◌, ◌&&◌, ◌||◌, not, Bool, true, false, refl, sym, ◌∙◌, ap, arith, List}
use Rattle.std.proofs.lemmas.Bool.Decides.{nat_tests}
use Rattle.afr_base.specs.Bricks.{added, member, minus, removed}
use Rattle.afr_base.specs.SetLemmas.{member_added, member_minus, member_removed}
use Rattle.afr_base.proofs.TestLemmas.{unless_then}
use Rattle.afr_counting.proofs.Counts.{count_falls}
use Rattle.afr_law_pace.specs.Left.{count}

-- one more brick was asked
pub asked_falls : (n b : ℕ) (s t : List ℕ) → b < n → member s b ≡ true → member t b ≡ false → count n (minus s (added b t)) + 1 ≤ count n (minus s t)
asked_falls n b s t low here new = count_falls n (member (minus s t)) (member (minus s (added b t))) b (λ x l e. less x e) low (member_minus s t b ∙ was (member t b) (member s b) new here) (member_minus s (added b t) b ∙ gone (member (added b t) b) (member s b) (member_added b t b ∙ self b (member t b)))
  where
    was : (x y : Bool) → x ≡ false → y ≡ true → (not x && y) ≡ true
    was x y e f = rw (e, f) refl

    gone : (x y : Bool) → x ≡ true → (not x && y) ≡ false
    gone x y e = rw e refl

    self : (b : ℕ) (x : Bool) → ((b == b) || x) ≡ true
    self b x = (let e : (b == b) ≡ true = grind (arith, nat_tests) in rw e refl)

    less : (x : ℕ) → member (minus s (added b t)) x ≡ true → member (minus s t) x ≡ true
    less x e = member_minus s t x ∙ part (b == x) (member t x) (member s x) (sym (ap (λ (z : Bool). not z && member s x) (member_added b t x)) ∙ sym (member_minus s (added b t) x) ∙ e)
      where
        part : (h x y : Bool) → (not (h || x) && y) ≡ true → (not x && y) ≡ true
        part h x y e = grind arith

-- one was given back
pub removed_falls : (n b : ℕ) (s : List ℕ) → b < n → member s b ≡ true → count n (removed b s) + 1 ≤ count n s
removed_falls n b s low here = count_falls n (member s) (member (removed b s)) b (λ x l e. less x e) low here (member_removed b s b ∙ gone b (member s b))
  where
    gone : (b : ℕ) (x : Bool) → (not (b == b) && x) ≡ false
    gone b x = (let e : (b == b) ≡ true = grind (arith, nat_tests) in rw e refl)

    less : (x : ℕ) → member (removed b s) x ≡ true → member s x ≡ true
    less x e = unless_then (b == x) (member s x) (sym (member_removed b s x) ∙ e)
