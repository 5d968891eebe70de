-- In a finite list not each element can have a greater one in it.
use Rattle.std.proofs.Common.{◌≡◌, ◌∙◌, ℕ, zero, suc, ◌<◌, ◌≤◌, ◌⊎◌, Bool, true, false, inl, inr, refl, sym, subst, arith, List, [], ◌∷◌, true≢false}
use Rattle.afr_law.proofs.Safety.Locks.{min_both}
use Rattle.afr_base.proofs.TestLemmas.{below_or_last}

-- an element of a list
abbrev pub In : {A : Type 0} → A → List A → Type 0
In x [] = ⊥
In x (y ∷ ys) = (x ≡ y) ⊎ In x ys

-- one that none passes
pub record Greatest {A : Type 0} (m : A → ℕ) (xs : List A) : Type 0 where
  pub one : A
  pub among : In one xs
  pub most : (y : A) → In y xs → m y ≤ m one

pub greatest : {A : Type 0} (m : A → ℕ) (x : A) (xs : List A) → Greatest m (x ∷ xs)
greatest m x [] = record { one = x; among = inl refl; most = λ y h. elim h [ inl e ↦ subst (λ z. m z ≤ m x) (sym e) (omega arith) | inr none ↦ absurd none ] }
greatest m x (y ∷ ys) = (
    let g = greatest m y ys in
    elim (min_both (m x) (m g.one)) [
      | inl low ↦ record { one = g.one; among = inr g.among; most = λ z h. elim h [ inl e ↦ subst (λ k. m k ≤ m g.one) (sym e) low | inr rest ↦ g.most z rest ] }
      | inr high ↦ record {
        one = x;
        among = inl refl;
        most = λ z h. elim h [ inl e ↦ subst (λ k. m k ≤ m x) (sym e) (omega arith) | inr rest ↦ (let k = g.most z rest in omega (arith, k, high)) ];
      }
    ]
    )

-- so nobody can wait only for a greater one
pub no_rise : {A : Type 0} (m : A → ℕ) (xs : List A) → ((x : A) → In x xs → (y : A) × In y xs × (m x < m y)) → (x : A) → In x xs → ⊥
no_rise m [] next x h = h
no_rise m (z ∷ zs) next x h = (
    let g = greatest m z zs in
    let w = next g.one g.among in
    let k = g.most w.0 w.1 in
    omega (arith, k, w.2)
    )

-- what each number below k that passes a test has, in a list
pub record Gathered (P : ℕ → Type 0) (test : ℕ → Bool) (k : ℕ) : Type 0 where
  pub all : List ((a : ℕ) × P a)
  pub each : (a : ℕ) → a < k → test a ≡ true → (x : (b : ℕ) × P b) × In x all × (x.0 ≡ a)

below_self : (k : ℕ) → k < suc k
below_self k = omega arith

pub gather : (P : ℕ → Type 0) (test : ℕ → Bool) (k : ℕ) → ((a : ℕ) → a < k → test a ≡ true → P a) → Gathered P test k
gather P test zero has = record { all = []; each = λ a low. absurd (omega (arith, low)) }
gather P test (suc k) has = go (test k) refl (gather P test k (λ a low. has a (omega (arith, low))))
  where
    go : (pass : Bool) → test k ≡ pass → Gathered P test k → Gathered P test (suc k)
    go true e g = record {
      all = (k, has k (below_self k) e) ∷ g.all;
      each = λ a low h. elim (below_or_last a k low) [
        | inl less ↦ (let w = g.each a less h in (w.0, inr w.1, w.2))
        | inr last ↦ ((k, has k (below_self k) e), inl refl, sym last)
      ];
    }
    go false e g = record { all = g.all; each = λ a low h. elim (below_or_last a k low) [ inl less ↦ g.each a less h | inr last ↦ absurd (true≢false (sym h ∙ (subst (λ x. test x ≡ false) (sym last) e))) ] }
