-- Where nobody is accused, all copies are good.
use Rattle.std.proofs.Common.{◌≡◌, ℕ, suc, zero, ◌<◌, ◌&&◌, ◌==◌, not, nat_lt, Bool, true, false, List, [], ◌∷◌, slice_index, refl, ap, sym, ◌∙◌, arith}
use Rattle.std.specs.List.{list_all}
use Rattle.std.proofs.lemmas.Bool.Decides.{nat_tests}
use Rattle.afr_base.specs.Bricks.{and_left, and_right}
use Rattle.afr_base.specs.declared.ids.Kind.{Kind}
use Rattle.afr_base.specs.declared.ids.Shape.{Shape}
use Rattle.afr_base.proofs.OfFive.{chosen_same}
use Rattle.afr_choice.specs.Verdict.{copies_of, good_copies, is_accused, is_copy, is_good}
use Rattle.afr_choice.specs.declared.looked.Looked.{Looked}

-- none of these numbers is above zero
pub none_above : (xs : List ℕ) → list_all (λ n. n == 0) xs ≡ true → (c : ℕ) → nat_lt 0 (slice_index xs c) ≡ false
none_above [] h c = refl
none_above (x ∷ xs) h zero = let first = and_left (x == 0) (list_all (λ n. n == 0) xs) h in grind (arith, nat_tests, first)
none_above (x ∷ xs) h (suc c) = none_above xs (and_right (x == 0) (list_all (λ n. n == 0) xs) h) c

pub and_no : (x y : Bool) → y ≡ false → (x && y) ≡ false
and_no true y h = h
and_no false y h = refl

pub and_yes : (x : Bool) → x ≡ (x && true)
and_yes true = refl
and_yes false = refl

pub all_are_good : (shape : Shape) (looked : Looked) (kind : Kind) → ((c : ℕ) → c < 5 → is_accused kind looked c ≡ false) → copies_of shape looked kind ≡ good_copies shape looked kind
all_are_good shape looked kind none = chosen_same (is_copy shape looked kind) (is_good shape looked kind) (λ b l. and_yes (is_copy shape looked kind b) ∙ ap (λ (f : Bool). is_copy shape looked kind b && not f) (sym (none b l)))
