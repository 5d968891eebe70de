-- What a loop over items has found so far, and what it says where it ends.
use Rattle.std.proofs.Common.{◌≡◌, ◌∙◌, ◌↔◌, ℕ, ◌+◌, ◌<◌, ◌≤◌, Bool, true, false, List, Some, Ok, Err, Result, IfOk, length, get_or, slice_get, refl, sym, subst, arith, below_more}
use Rattle.std.proofs.lemmas.Option.{same_Some, slice_get-get_or, slice_get_within}

-- one that failed
pub not_all : (one : Bool) (P Q : Type 0) → one ≡ false → (one ≡ true) ↔ P → (Q → P) → (◌≡◌ {A = Bool} false true) ↔ Q
not_all one P Q e told from = (λ h. absurd (cc h), λ q. let passed : one ≡ true = told.1 (from q) in absurd (cc (e, passed)))

-- none did
pub for_all : (Q : Type 0) → Q → (◌≡◌ {A = Bool} true true) ↔ Q
for_all Q q = (λ h. q, λ h. refl)

-- a test of one fact is a test of another that is the same
pub same_fact : {E : Type 0} (r : Result Bool E) (P Q : Type 0) → (P → Q) → (Q → P) → IfOk r (λ flag. (flag ≡ true) ↔ P) → IfOk r (λ flag. (flag ≡ true) ↔ Q)
same_fact (Ok flag) P Q to from h = (λ e. to (h.0 e), λ q. h.1 (from q))
same_fact (Err e) P Q to from h = tt

-- the items before a place have a fact
abbrev pub HaveSoFar : {A : Type 0} → (A → Type 0) → List A → ℕ → Type 0
HaveSoFar {A} Q xs i = (j : ℕ) → j < i → (x : A) → slice_get xs j ≡ Some x → Q x

-- all items have it
abbrev pub HaveAll : {A : Type 0} → (A → Type 0) → List A → Type 0
HaveAll {A} Q xs = (j : ℕ) (x : A) → slice_get xs j ≡ Some x → Q x

pub one_has : {A : Type 0} (Q : A → Type 0) (xs : List A) (i : ℕ) (d : A) → i < length xs → HaveAll Q xs → Q (get_or xs i d)
one_has Q xs i d low all = all i (get_or xs i d) (slice_get-get_or xs i d low)

pub one_more_has : {A : Type 0} (Q : A → Type 0) (xs : List A) (i : ℕ) (d : A) → i < length xs → HaveSoFar Q xs i → Q (get_or xs i d) → HaveSoFar Q xs (i + 1)
one_more_has {A} Q xs i d low so here = below_more (λ j. (x : A) → slice_get xs j ≡ Some x → Q x) i so (λ x e. subst Q (same_Some (get_or xs i d) x (sym (slice_get-get_or xs i d low) ∙ e)) here)

pub all_have : {A : Type 0} (Q : A → Type 0) (xs : List A) (i : ℕ) → length xs ≤ i → HaveSoFar Q xs i → HaveAll Q xs
all_have Q xs i high so j x e = so j (omega (arith, high, slice_get_within xs j x e)) x e
