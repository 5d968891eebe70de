-- The copies that the rule chose from are the good copies by the heal's first looks.
use Rattle.std.proofs.Common.{◌≡◌, ◌∙◌, ℕ, ◌<◌, ◌≤◌, ◌&&◌, ◌||◌, ◌==◌, nat_lt, Bool, true, false, List, [], ◌∷◌, Option, None, Some, refl, sym, ap, arith, filter, map}
use Rattle.std.proofs.lemmas.Bool.Decides.{nat_tests}
use Rattle.std.proofs.lemmas.Bool.{or_right}
use Rattle.afr_base.specs.Bricks.{all_five, below, member}
use Rattle.afr_base.specs.declared.ids.Kind.{Kind}
use Rattle.afr_choice.specs.Looks.{view_at}
use Rattle.afr_choice.specs.Verdict.{is_good}
use Rattle.afr_choice.specs.VerdictLemmas.{member_good}
use Rattle.afr_choice.specs.declared.looked.Looked.{Looked}
use Rattle.afr_base.specs.declared.ids.Shape.{Shape}
use Rattle.afr_base.proofs.TestLemmas.{same_test}
use Rattle.afr_discipline.specs.Stands.{seen_as}
use Rattle.afr_discipline.specs.Turns.{candidate}
use Rattle.afr_discipline.specs.declared.register.Register.{Register}
use Rattle.afr_heal.proofs.Parts.{both, pair}
use Rattle.afr_law_heal.proofs.GoingLooks.{good_there, in_five}
use Rattle.afr_law_heal.proofs.OpeningVerdict.{good_seen}
use Rattle.afr_law_heal.specs.Stages.{IsReached, ViewsAreWhole}
use Rattle.afr_model.specs.Chosen as model
use Rattle.afr_model.specs.Moved.{len_in}
use Rattle.afr_model_moves.specs.Keeps.{keeps_in}
use Rattle.afr_model_moves.specs.Register.{good, len_of}
use Rattle.afr_object.specs.declared.entry.View.{View}
use Rattle.afr_rule.specs.declared.candidate.Candidate.{Candidate}
use Rattle.afr_heal_machine.specs.Source.{HasSource, candidates_of}
use Rattle.afr_heal_machine.proofs.ChoiceLemmas.{choose_same}
use Rattle.afr_law_picks.specs.Sources.Sources.{numbers_of}

-- ---- lists
-- tests that agree on a list leave the same of it
filter_same : (p q : ℕ → Bool) (xs : List ℕ) → ((x : ℕ) → member xs x ≡ true → p x ≡ q x) → filter p xs ≡ filter q xs
filter_same p q [] h = refl
filter_same p q (y ∷ ys) h = go (p y) refl (q y) refl (h y (grind (arith, nat_tests))) (filter_same p q ys (λ x m. h x (or_right (y == x) (member ys x) m)))
  where
    go : (a : Bool) → p y ≡ a → (c : Bool) → q y ≡ c → p y ≡ q y → filter p ys ≡ filter q ys → filter p (y ∷ ys) ≡ filter q (y ∷ ys)
    go true e true f h ih = rw (e, f) (ap (λ (zs : List ℕ). y ∷ zs) ih)
    go false e false f h ih = rw (e, f) ih
    go true e false f h ih = absurd (cc (sym e ∙ h ∙ f))
    go false e true f h ih = absurd (cc (sym e ∙ h ∙ f))

below_is : (n : ℕ) → filter (λ b. nat_lt b n) all_five ≡ below n
unfolding below
below_is n = refl

-- ---- the candidates by their numbers
len_is : (view : Option View) → len_of view ≡ len_in view
len_is None = refl
len_is (Some view) = refl

abbrev copy_of : Looked → ℕ → Candidate
copy_of seen x = record { brick = record { 0 = x }; len = len_of (view_at x seen) }

numbers_in : (seen : Looked) (xs : List ℕ) → map numbers_of (map (copy_of seen) xs) ≡ map (λ b. (b, len_in (view_at b seen))) xs
numbers_in seen [] = refl
numbers_in seen (x ∷ xs) =
    let here = len_is (view_at x seen) in
    let rest = numbers_in seen xs in
    λ i. (x, here i) ∷ rest i

module _ (shape : Shape) (kind : Kind) (seen : Looked) (few : shape.n ≤ 5) (low : (x : ℕ) → member seen.reached x ≡ true → x < shape.n) (shown : IsReached seen) (numbers : ViewsAreWhole seen) where
  abbrev is_source : ℕ → Bool
  is_source x = good shape.n (keeps_in shape) kind (λ x. view_at x seen) x

  good_same : (x : ℕ) → x < 5 → is_good shape seen kind x ≡ (nat_lt x shape.n && is_source x)
  good_same x small = same_test (is_good shape seen kind x) (nat_lt x shape.n && is_source x) there here
    where
      within : x < shape.n → nat_lt x shape.n ≡ true
      within l = grind (arith, nat_tests, l)

      under : nat_lt x shape.n ≡ true → x < shape.n
      under e = grind (arith, nat_tests, e)

      there : is_good shape seen kind x ≡ true → (nat_lt x shape.n && is_source x) ≡ true
      there h = let two = good_seen shape kind seen few low shown numbers x (member_good shape seen kind x small ∙ h) in pair (nat_lt x shape.n) (is_source x) (within two.0) two.1

      here : (nat_lt x shape.n && is_source x) ≡ true → is_good shape seen kind x ≡ true
      here h =
          let two = both (nat_lt x shape.n) (is_source x) h in
          sym (member_good shape seen kind x small) ∙ good_there shape seen few low shown kind x (under two.0) two.1

  -- the good copies are those below n that pass the register's test
  pub good_are : (q : ℕ → Bool) → ((x : ℕ) → x < shape.n → q x ≡ is_source x) → filter (is_good shape seen kind) all_five ≡ filter q (below shape.n)
  good_are q same =
      filter_same (is_good shape seen kind) (λ x. nat_lt x shape.n && is_source x) all_five (λ x m. good_same x (in_five x m))
      ∙ choose_same shape.n is_source q same all_five ∙ ap (filter q) (below_is shape.n)

-- what the rule chose from is what the model lets it choose from
pub candidates_are : (p : Register) (kind : Kind) → p.shape.n ≤ 5 → ((x : ℕ) → member p.seen.reached x ≡ true → x < p.shape.n) → IsReached p.seen → ViewsAreWhole p.seen → HasSource kind p
    → map numbers_of (candidates_of p) ≡ model.candidates_of p.shape kind p.seen
candidates_are p kind few low shown numbers has =
    numbers_in p.seen (filter (candidate p.shape.n (keeps_in p.shape) (seen_as p)) (below p.shape.n))
    ∙ ap (map (λ b. (b, len_in (view_at b p.seen)))) (sym (good_are p.shape kind p.seen few low shown numbers (candidate p.shape.n (keeps_in p.shape) (seen_as p)) has.copies))
