-- A request that one of the possible sources allows is allowed by each of them, where all are alike or one is left.
use Rattle.std.proofs.Common.{◌≡◌, ℕ, zero, suc, ◌+◌, ◌<◌, ◌≤◌, ◌&&◌, ◌⊎◌, inl, inr, Bool, true, false, [], nat_le, if◌then◌else◌, refl, sym, ap, subst, ◌∙◌, arith}
use Rattle.std.proofs.lemmas.Bool.{cases_lt}
use Rattle.std.proofs.Math.Bool.{and-false, and-true}
use Rattle.afr_base.proofs.OfFive.{picked_same}
use Rattle.afr_base.specs.Bricks.{member}
use Rattle.afr_base.specs.Majority.{count_below}
use Rattle.afr_base.specs.declared.ids.Kind.{Kind}
use Rattle.afr_base.proofs.TestLemmas.{below_or_last}
use Rattle.afr_lines.specs.declared.lock.Domain.TheVariants.{Heal, Work}
use Rattle.afr_lines.specs.declared.request.Request.{Request}
use Rattle.afr_lines.specs.declared.request.Request.TheVariants as asks
use Rattle.afr_model_moves.proofs.Tests.{both, some_yes}
use Rattle.afr_model_moves.specs.Keeps.{keeps_in}
use Rattle.afr_model_moves.specs.Register.{Exact, rank}
use Rattle.afr_model_moves.specs.Sets.{any}
use Rattle.afr_model_moves.specs.Steps.{goes_on, may_heal}
use Rattle.afr_discipline.specs.Alike.{IsAlike}
use Rattle.afr_discipline.specs.Inside.{allows, is_unlock}
use Rattle.afr_discipline.specs.Notes.{possible_now, still_possible}
use Rattle.afr_discipline.specs.Stands.{seen_as}
use Rattle.afr_discipline.specs.declared.register.Register.{Register}

-- ---- sets of one brick
-- a set with a brick counts one at least
count_one : (n : ℕ) (p : ℕ → Bool) (s : ℕ) → s < n → p s ≡ true → 1 ≤ count_below n p
count_one zero p s l h = absurd (omega arith)
count_one (suc n) p s l h = elim (below_or_last s n l) [ inl before ↦ more (p n) (count_one n p s before h) | inr here ↦ now (p n) (subst (λ (k : ℕ). p k ≡ true) here h) ]
  where
    more : (b : Bool) → 1 ≤ count_below n p → 1 ≤ (if b then 1 else 0) + count_below n p
    more true c = omega arith
    more false c = omega arith

    now : (b : Bool) → b ≡ true → 1 ≤ (if b then 1 else 0) + count_below n p
    now true e = omega arith
    now false e = absurd (cc)

-- a set with two bricks counts two at least
count_two : (n : ℕ) (p : ℕ → Bool) (s t : ℕ) → s < t → t < n → p s ≡ true → p t ≡ true → 2 ≤ count_below n p
count_two zero p s t less l hs ht = absurd (omega arith)
count_two (suc n) p s t less l hs ht =
    elim (below_or_last t n l) [
      | inl before ↦ more (p n) (count_two n p s t less before hs ht)
      | inr here ↦ now (p n) (subst (λ (k : ℕ). p k ≡ true) here ht) (count_one n p s (omega (arith, less, here)) hs)
    ]
  where
    more : (b : Bool) → 2 ≤ count_below n p → 2 ≤ (if b then 1 else 0) + count_below n p
    more true c = omega arith
    more false c = omega arith

    now : (b : Bool) → b ≡ true → 1 ≤ count_below n p → 2 ≤ (if b then 1 else 0) + count_below n p
    now true e c = omega arith
    now false e c = absurd (cc)

-- the bricks of a set that counts one are the same
one_member : (p : ℕ → Bool) → count_below 5 p ≡ 1 → (s t : ℕ) → s < 5 → t < 5 → p s ≡ true → p t ≡ true → t ≡ s
one_member p one s t small low hs ht =
    elim (cases_lt s t) [
      | inl less ↦ absurd (omega (arith, one, count_two 5 p s t less low hs ht))
      | inr most ↦ elim (cases_lt t s) [ inl less ↦ absurd (omega (arith, one, count_two 5 p t s less small ht hs)) | inr least ↦ omega (arith, most, least) ]
    ]

-- ---- who allows a request
module _ (n : ℕ) (keeps : ℕ → Kind → Bool) (r : Exact) (b : ℕ) (request : Request) where
  -- each source that is possible, where all are alike
  alike_allows : IsAlike keeps r request → any n (allows n keeps r b request) ≡ true → (s : ℕ) → allows n keeps r b request s ≡ r.possible s
  alike_allows alike some s =
      let t = some_yes n (allows n keeps r b request) some in
      let may : may_heal n keeps r s b request ≡ true = alike n s b ∙ sym (alike n t.0 b) ∙ (both (r.possible t.0) (may_heal n keeps r t.0 b request) t.2).1 in
      ap (λ (m : Bool). r.possible s && m) may ∙ and-true (r.possible s)

  -- the one that is left
  left_allows : count_below 5 r.possible ≡ 1 → (s t : ℕ) → s < 5 → t < 5 → allows n keeps r b request t ≡ true → allows n keeps r b request s ≡ r.possible s
  left_allows one s t small low this = go (r.possible s) refl
    where
      is : r.possible t ≡ true
      is = (both (r.possible t) (may_heal n keeps r t b request) this).0

      go : (x : Bool) → r.possible s ≡ x → allows n keeps r b request s ≡ r.possible s
      go true e = subst (λ (x : ℕ). allows n keeps r b request x ≡ r.possible x) (one_member r.possible one s t small low e is) (this ∙ sym is)
      go false e = ap (λ (m : Bool). m && may_heal n keeps r s b request) e ∙ sym e

-- what might be the source still may, where all are alike
pub alike_left : (p : Register) (b : ℕ) (request : Request) → IsAlike (keeps_in p.shape) (seen_as p) request → any p.shape.n (allows p.shape.n (keeps_in p.shape) (seen_as p) b request) ≡ true
    → possible_now p ≡ still_possible p b request
alike_left p b request alike some =
    sym (picked_same (allows p.shape.n (keeps_in p.shape) (seen_as p) b request) (member p.possible) (λ s small. alike_allows p.shape.n (keeps_in p.shape) (seen_as p) b request alike some s))

-- and so it may, where it is the one that is left
pub one_left : (p : Register) (b : ℕ) (request : Request) → p.shape.n ≤ 5 → count_below 5 (member p.possible) ≡ 1 → any p.shape.n (allows p.shape.n (keeps_in p.shape) (seen_as p) b request) ≡ true
    → possible_now p ≡ still_possible p b request
one_left p b request few one some =
    let t = some_yes p.shape.n (allows p.shape.n (keeps_in p.shape) (seen_as p) b request) some in
    sym (picked_same (allows p.shape.n (keeps_in p.shape) (seen_as p) b request) (member p.possible)
    (λ s small. left_allows p.shape.n (keeps_in p.shape) (seen_as p) b request one s t.0 small (omega (arith, few, t.1)) t.2))

-- ---- an unlock before any look
module _ (n : ℕ) (keeps : ℕ → Kind → Bool) (r : Exact) (s b : ℕ) where
  -- no source allows it
  pub early_unlock : (request : Request) → is_unlock request ≡ true → nat_le 7 (rank r.step) ≡ false → may_heal n keeps r s b request ≡ false
  early_unlock (asks.Unlock Work area) u e = go (goes_on n keeps r s) refl
    where
      go : (g : Bool) → goes_on n keeps r s ≡ g → may_heal n keeps r s b (asks.Unlock Work area) ≡ false
      go true h = rw (h, e) refl
      go false h = rw h refl
  early_unlock (asks.Unlock Heal area) u e = go (goes_on n keeps r s) refl
    where
      go : (g : Bool) → goes_on n keeps r s ≡ g → may_heal n keeps r s b (asks.Unlock Heal area) ≡ false
      go true h = rw (h, e) refl
      go false h = rw h refl
  early_unlock request u e = absurd (cc u)

-- what no source allows leaves none
pub none_left : (p : Register) (b : ℕ) (request : Request) → ((n s c : ℕ) → may_heal n (keeps_in p.shape) (seen_as p) s c request ≡ false) → [] ≡ still_possible p b request
none_left p b request never =
    sym (picked_same (allows p.shape.n (keeps_in p.shape) (seen_as p) b request) (λ (s : ℕ). false) (λ s small. ap (λ (m : Bool). member p.possible s && m) (never p.shape.n s b) ∙ and-false (member p.possible s)))
