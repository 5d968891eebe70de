-- The verdict on a look by who was reached and that by its views alone are the same, where only bricks of the volume answered, and only who answered shows anything.
use Rattle.std.proofs.Common.{◌≡◌, ℕ, zero, suc, ◌<◌, ◌≤◌, ◌&&◌, ◌==◌, not, nat_lt, Bool, true, false, List, refl, sym, ◌∙◌, ap, arith, Option, None, Some, is_some}
use Rattle.std.specs.List.{list_any}
use Rattle.std.proofs.lemmas.Bool.Decides.{nat_tests}
use Rattle.std.proofs.lemmas.Bool.{not-true, not-false}
use Rattle.afr_base.specs.Bricks.{all_five, member}
use Rattle.afr_base.specs.Keeping.{keeps}
use Rattle.afr_base.specs.declared.ids.Kind.{Kind}
use Rattle.afr_base.specs.declared.ids.Kind.TheVariants.{Attrs, Bytes, Names}
use Rattle.afr_base.specs.declared.ids.Shape.{Shape}
use Rattle.afr_base.proofs.OfFive.{chosen_same, member_chosen, some_passes}
use Rattle.afr_object.specs.declared.entry.View.{View}
use Rattle.afr_model_moves.proofs.Tests.{all_yes}
use Rattle.afr_model_moves.specs.Keeps.{keeps_in}
use Rattle.afr_model_moves.specs.Register.{accuses, all, good, holder, unaccused}
use Rattle.afr_model_moves.specs.Rules.{is_none}
use Rattle.afr_choice.specs.Looks.{view_at, views_of}
use Rattle.afr_choice.specs.Shown.{good_shown}
use Rattle.afr_choice.specs.Verdict.{accuses_at, good_copies, holders_of, is_accused, is_good, is_holder, shown_missed}
use Rattle.afr_choice.specs.VerdictLemmas.{good_are_holders, holders_are_reached, member_holders}
use Rattle.afr_choice.specs.declared.looked.Looked.{Looked}

-- ---- tests of the first n bricks
-- one of them fails
pub one_is_missing : (n : ℕ) (p : ℕ → Bool) (x : ℕ) → x < n → p x ≡ false → all n p ≡ false
one_is_missing n p x l h = go (all n p) refl
  where
    go : (f : Bool) → all n p ≡ f → f ≡ false
    go true e = let yes = all_yes n p e x l in cc
    go false e = refl

one_fails : (n : ℕ) (p : ℕ → Bool) → all n p ≡ false → (x : ℕ) × (x < n) × (p x ≡ false)
one_fails zero p h = absurd (cc h)
one_fails (suc n) p h = go (p n) refl h (one_fails n p)
  where
    go : (f : Bool) → p n ≡ f → (f && all n p) ≡ false → (all n p ≡ false → (x : ℕ) × (x < n) × (p x ≡ false)) → (x : ℕ) × (x < suc n) × (p x ≡ false)
    go false e h rest = (n, omega arith, e)
    go true e h rest = let w = rest h in (w.0, omega (arith, w.1), w.2)

pub none_of_five : (p : ℕ → Bool) → ((x : ℕ) → x < 5 → p x ≡ false) → list_any p all_five ≡ false
none_of_five p h = rw (h 0 (omega arith), h 1 (omega arith), h 2 (omega arith), h 3 (omega arith), h 4 (omega arith)) refl

no_no : (x : Bool) → not (not x) ≡ x
no_no true = refl
no_no false = refl

-- ---- one view
above_zero : (k : ℕ) → nat_lt 0 k ≡ not (k == 0)
above_zero k = grind (arith, nat_tests)

-- a view accuses by the one test where it does by the other
pub accuses_same : (kind : Kind) (c : ℕ) (view : Option View) → shown_missed kind c view ≡ accuses kind view c
accuses_same kind c None = refl
accuses_same Bytes c (Some view) = above_zero _
accuses_same Attrs c (Some view) = above_zero _
accuses_same Names c (Some view) = above_zero _

-- ---- a look
-- only bricks below n were reached, and only who was reached shows anything
pub record IsAnswered (n : ℕ) (looked : Looked) : Type 0 where
  pub low : (x : ℕ) → member looked.reached x ≡ true → x < n
  pub shown : (x : ℕ) → is_some (view_at x looked) ≡ true → member looked.reached x ≡ true

module _ (n : ℕ) (looked : Looked) (few : n ≤ 5) (answered : IsAnswered n looked) where
  -- who shows a view is a holder
  pub holder_same : (b : ℕ) → is_holder looked b ≡ holder (views_of looked) b
  holder_same b = go (view_at b looked) (answered.shown b) (member looked.reached b) refl
    where
      go : (v : Option View) → (is_some v ≡ true → member looked.reached b ≡ true) → (m : Bool) → member looked.reached b ≡ m → (m && is_some v) ≡ not (is_none v)
      go None f true e = refl
      go None f false e = refl
      go (Some v) f true e = refl
      go (Some v) f false e = let there = f refl in cc

  -- who accuses was reached
  pub accuses_at_same : (kind : Kind) (x s : ℕ) → accuses_at kind x s looked ≡ accuses kind (views_of looked x) s
  accuses_at_same kind x s = go (view_at x looked) (answered.shown x) (member looked.reached x) refl
    where
      go : (v : Option View) → (is_some v ≡ true → member looked.reached x ≡ true) → (m : Bool) → member looked.reached x ≡ m → (m && shown_missed kind s v) ≡ accuses kind v s
      go None f true e = refl
      go None f false e = refl
      go (Some v) f true e = accuses_same kind s (Some v)
      go (Some v) f false e = absurd (let there = f refl in cc)

  -- no view below n accuses the copy exactly where nobody does
  pub accused_same : (kind : Kind) (s : ℕ) → is_accused kind looked s ≡ not (unaccused n kind (views_of looked) s)
  accused_same kind s = go (unaccused n kind (views_of looked) s) refl
    where
      nobody : unaccused n kind (views_of looked) s ≡ true → (x : ℕ) → x < 5 → (m : Bool) → member looked.reached x ≡ m → accuses_at kind x s looked ≡ false
      nobody e x l false g = rw g refl
      nobody e x l true g = accuses_at_same kind x s ∙ not-true (accuses kind (views_of looked x) s) (all_yes n (λ y. not (accuses kind (views_of looked y) s)) e x (answered.low x g))

      go : (f : Bool) → unaccused n kind (views_of looked) s ≡ f → is_accused kind looked s ≡ not f
      go true e = none_of_five (λ x. accuses_at kind x s looked) (λ x l. nobody e x l (member looked.reached x) refl)
      go false e =
          let one = one_fails n (λ y. not (accuses kind (views_of looked y) s)) e in
          some_passes (λ x. accuses_at kind x s looked) one.0 (omega (arith, one.1, few)) (accuses_at_same kind one.0 s ∙ not-false (accuses kind (views_of looked one.0) s) one.2)

  pub holders_tell : (b : ℕ) → b < 5 → member (holders_of looked) b ≡ holder (views_of looked) b
  holders_tell b l = member_holders looked b l ∙ holder_same b

-- the good copies by who was reached are those by the views
pub good_same : (shape : Shape) (looked : Looked) (kind : Kind) → shape.n ≤ 5 → IsAnswered shape.n looked → good_copies shape looked kind ≡ good_shown shape looked kind
good_same shape looked kind few answered = chosen_same (is_good shape looked kind) (good shape.n (keeps_in shape) kind (views_of looked)) each
  where
    each : (b : ℕ) → b < 5 → is_good shape looked kind b ≡ good shape.n (keeps_in shape) kind (views_of looked) b
    each b l =
        let five : nat_lt b 5 ≡ true = grind (arith, nat_tests, l) in
        let kept : keeps shape kind b ≡ keeps_in shape b kind = ap (λ (f : Bool). f && keeps shape kind b) (sym five) in
        let free : not (is_accused kind looked b) ≡ unaccused shape.n kind (views_of looked) b = ap not (accused_same shape.n looked few answered kind b) ∙ no_no (unaccused shape.n kind (views_of looked) b) in
        λ i. (holder_same shape.n looked few answered b i && kept i) && free i

-- so each of the five bricks is in the one set where it passes the other's test
pub good_tells : (shape : Shape) (looked : Looked) (kind : Kind) → shape.n ≤ 5 → IsAnswered shape.n looked → (b : ℕ) → b < 5
    → member (good_copies shape looked kind) b ≡ good shape.n (keeps_in shape) kind (views_of looked) b
good_tells shape looked kind few answered b l =
    ap (λ (s : List ℕ). member s b) (good_same shape looked kind few answered) ∙ member_chosen (good shape.n (keeps_in shape) kind (views_of looked)) b l

-- a good copy is on a brick of the volume
pub good_low : (shape : Shape) (looked : Looked) (kind : Kind) → IsAnswered shape.n looked → (b : ℕ) → member (good_copies shape looked kind) b ≡ true → b < shape.n
good_low shape looked kind answered b m = answered.low b (holders_are_reached looked b (good_are_holders shape looked kind b m))
