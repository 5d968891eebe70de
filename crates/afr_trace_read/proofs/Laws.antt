-- What is read is the text of its value, and the text of a value is read.
use Rattle.std.proofs.Common.{false, ◌≡◌, ◌∷◌, inl, inr, ℕ, List, [], ◌++◌, Option, Some, None, refl, sym, ap, subst, ◌∙◌, Bool, true, append_assoc}
use Rattle.std.proofs.lemmas.List.{append-nil}
use Rattle.afr_plan.specs.Reading.{after, Reader, give, give_as, as_a, all_used, whole, pair, then_pair, word, word_then, both, or_else, either}
use Rattle.afr_trace_read.specs.Forms.{skip_then, then_word, that_passes, such_that}
use Rattle.afr_plan_read.proofs.Laws.{Stops, Any, bind_some, checked_some, after_takes, after_again, joined, or_some, used_all}

-- what a reader takes has a good value, and is its text
pub record Takes {A : Type 0} (r : Reader A) (T : A → List ℕ) (Ok : A → Type 0) : Type 0 where
  pub read : (xs : List ℕ) (x : A) (rest : List ℕ) → r xs ≡ Some (x, rest) → Ok x × (xs ≡ T x ++ rest)

-- the text of a good value is taken, where what follows may follow
pub record Again {A : Type 0} (r : Reader A) (T : A → List ℕ) (Ok : A → Type 0) (Next : List ℕ → Type 0) : Type 0 where
  pub read : (x : A) (rest : List ℕ) → Ok x → Next rest → r (T x ++ rest) ≡ Some (x, rest)

-- a space follows
abbrev pub IsSpaced : List ℕ → Type 0
IsSpaced [] = ⊥
IsSpaced (x ∷ xs) = x ≡ 32

pub spaced_stops : (p : ℕ → Bool) → p 32 ≡ false → (rest : List ℕ) → IsSpaced rest → Stops p rest
spaced_stops p e [] n = absurd n
spaced_stops p e (x ∷ xs) n = subst (λ (y : ℕ). p y ≡ false) (sym n) e

-- ---- a fixed value
pub give-takes : {A : Type 0} (a : A) (T : A → List ℕ) (Ok : A → Type 0) → Ok a → T a ≡ [] → Takes (give a) T Ok
give-takes {A} a T Ok ok text = record {
  read = λ xs x rest e.
      let f : ◌≡◌ {A = A × List ℕ} (a, xs) (x, rest) = cc in
      let P : A × List ℕ → Type 0 = λ z. Ok z.0 × (xs ≡ T z.0 ++ z.1) in
      subst P f (ok, ap (λ (t : List ℕ). t ++ xs) (sym text));
}

-- ---- a fixed word
pub word-takes : {A : Type 0} (ws : List ℕ) (a : A) (T : A → List ℕ) (Ok : A → Type 0) → Ok a → T a ≡ ws → Takes (word ws a) T Ok
word-takes {A} ws a T Ok ok text = record {
  read = λ xs x rest e.
      let s = bind_some (after ws xs) (give a) (x, rest) e in
      let f : ◌≡◌ {A = A × List ℕ} (a, s.0) (x, rest) = cc in
      let here : xs ≡ T a ++ s.0 = after_takes ws xs s.0 s.1 ∙ ap (λ (t : List ℕ). t ++ s.0) (sym text) in
      let P : A × List ℕ → Type 0 = λ t. Ok t.0 × (xs ≡ T t.0 ++ t.1) in
      subst P f (ok, here);
}

-- ---- a word, and then a reader
pub word_then-takes : {A : Type 0} (ws : List ℕ) (q : Reader A) (T : A → List ℕ) (Ok : A → Type 0) → Takes q T Ok → Takes (word_then ws q) (λ x. ws ++ T x) Ok
word_then-takes ws q T Ok t = record {
  read = λ xs x rest e.
      let s = bind_some (after ws xs) q (x, rest) e in
      let u = t.read s.0 x rest s.2 in
      (u.0, joined xs ws s.0 (T x) rest (after_takes ws xs s.0 s.1) u.1);
}

pub word_then-again : {A : Type 0} (ws : List ℕ) (q : Reader A) (T : A → List ℕ) (Ok : A → Type 0) (Next : List ℕ → Type 0) → Again q T Ok Next → Again (word_then ws q) (λ x. ws ++ T x) Ok Next
word_then-again ws q T Ok Next t = record {
  read = λ x rest ok n. rw (append_assoc ws (T x) rest, after_again ws (T x ++ rest)) (t.read x rest ok n);
}

-- ---- a reader, and then a word
pub then_word-takes : {A : Type 0} (r : Reader A) (ws : List ℕ) (T : A → List ℕ) (Ok : A → Type 0) → Takes r T Ok → Takes (then_word r ws) (λ x. T x ++ ws) Ok
then_word-takes {A} r ws T Ok t = record {
  read = λ xs x rest e.
      let s = bind_some (r xs) (skip_then ws) (x, rest) e in
      let s2 = bind_some (after ws s.0.1) (give s.0.0) (x, rest) s.2 in
      let f : ◌≡◌ {A = A × List ℕ} (s.0.0, s2.0) (x, rest) = cc in
      let u = t.read xs s.0.0 s.0.1 s.1 in
      let here : xs ≡ (T s.0.0 ++ ws) ++ s2.0 = joined xs (T s.0.0) s.0.1 ws s2.0 u.1 (after_takes ws s.0.1 s2.0 s2.1) in
      let P : A × List ℕ → Type 0 = λ z. Ok z.0 × (xs ≡ (T z.0 ++ ws) ++ z.1) in
      subst P f (u.0, here);
}

pub then_word-again : {A : Type 0} (r : Reader A) (ws : List ℕ) (T : A → List ℕ) (Ok : A → Type 0) (Next : List ℕ → Type 0) → Again r T Ok Next → ((rest : List ℕ) → Next (ws ++ rest)) → Again (then_word r ws) (λ x. T x ++ ws) Ok Any
then_word-again r ws T Ok Next t may = record {
  read = λ x rest ok n. rw (append_assoc (T x) ws rest, t.read x (ws ++ rest) ok (may rest), after_again ws rest) refl;
}

-- ---- one reader after another
pub both-takes : {A B : Type 0} (r : Reader A) (q : Reader B) (S : A → List ℕ) (T : B → List ℕ) (OkS : A → Type 0) (OkT : B → Type 0) → Takes r S OkS → Takes q T OkT → Takes (both r q) (λ z. S z.0 ++ T z.1) (λ z. OkS z.0 × OkT z.1)
both-takes {A} {B} r q S T OkS OkT first second = record {
  read = λ xs z rest e.
      let s = bind_some (r xs) (then_pair q) (z, rest) e in
      let s2 = bind_some (q s.0.1) (pair s.0.0) (z, rest) s.2 in
      let f : ◌≡◌ {A = (A × B) × List ℕ} ((s.0.0, s2.0.0), s2.0.1) (z, rest) = cc in
      let u = first.read xs s.0.0 s.0.1 s.1 in
      let v = second.read s.0.1 s2.0.0 s2.0.1 s2.1 in
      let here : xs ≡ (S s.0.0 ++ T s2.0.0) ++ s2.0.1 = joined xs (S s.0.0) s.0.1 (T s2.0.0) s2.0.1 u.1 v.1 in
      let P : (A × B) × List ℕ → Type 0 = λ t. (OkS t.0.0 × OkT t.0.1) × (xs ≡ (S t.0.0 ++ T t.0.1) ++ t.1) in
      subst P f ((u.0, v.0), here);
}

pub both-again : {A B : Type 0} (r : Reader A) (q : Reader B) (S : A → List ℕ) (T : B → List ℕ) (OkS : A → Type 0) (OkT : B → Type 0) (NextR Next : List ℕ → Type 0)
    → Again r S OkS NextR → Again q T OkT Next → ((y : B) (rest : List ℕ) → OkT y → Next rest → NextR (T y ++ rest)) → Again (both r q) (λ z. S z.0 ++ T z.1) (λ z. OkS z.0 × OkT z.1) Next
both-again r q S T OkS OkT NextR Next ar aq may = record {
  read = λ z rest ok n. rw (append_assoc (S z.0) (T z.1) rest, ar.read z.0 (T z.1 ++ rest) ok.0 (may z.1 rest ok.1 n), aq.read z.1 rest ok.1 n) refl;
}

-- ---- a reader with a test
pub such_that-takes : {A : Type 0} (r : Reader A) (p : A → Bool) (T : A → List ℕ) (Ok : A → Type 0) → Takes r T Ok → Takes (such_that r p) T (λ x. Ok x × (p x ≡ true))
such_that-takes {A} r p T Ok t = record {
  read = λ xs x rest e.
      let s = bind_some (r xs) (that_passes p) (x, rest) e in
      let c = checked_some (p s.0.0) s.0 (x, rest) s.2 in
      let u = t.read xs s.0.0 s.0.1 s.1 in
      let P : A × List ℕ → Type 0 = λ z. (Ok z.0 × (p z.0 ≡ true)) × (xs ≡ T z.0 ++ z.1) in
      subst P c.1 ((u.0, c.0), u.1);
}

pub such_that-again : {A : Type 0} (r : Reader A) (p : A → Bool) (T : A → List ℕ) (Ok : A → Type 0) (Next : List ℕ → Type 0) → Again r T Ok Next → Again (such_that r p) T (λ x. Ok x × (p x ≡ true)) Next
such_that-again r p T Ok Next t = record {
  read = λ x rest ok n. rw (t.read x rest ok.0 n, ok.1) refl;
}

-- ---- a value under another form
pub as-takes : {A B : Type 0} (f : A → B) (r : Reader A) (S : A → List ℕ) (OkS : A → Type 0) (T : B → List ℕ) (Ok : B → Type 0) → Takes r S OkS → ((x : A) → OkS x → Ok (f x) × (S x ≡ T (f x))) → Takes (as_a f r) T Ok
as-takes {A} {B} f r S OkS T Ok t g = record {
  read = λ xs y rest e.
      let s = bind_some (r xs) (give_as f) (y, rest) e in
      let p : ◌≡◌ {A = B × List ℕ} (f s.0.0, s.0.1) (y, rest) = cc in
      let u = t.read xs s.0.0 s.0.1 s.1 in
      let k = g s.0.0 u.0 in
      let P : B × List ℕ → Type 0 = λ z. Ok z.0 × (xs ≡ T z.0 ++ z.1) in
      subst P p (k.0, u.1 ∙ ap (λ (t : List ℕ). t ++ s.0.1) k.1);
}

pub as-again : {A B : Type 0} (f : A → B) (r : Reader A) (S : A → List ℕ) (OkS : A → Type 0) (Next : List ℕ → Type 0) → Again r S OkS Next → (x : A) (rest : List ℕ) → OkS x → Next rest → as_a f r (S x ++ rest) ≡ Some (f x, rest)
as-again f r S OkS Next t x rest ok n = rw (t.read x rest ok n) refl

-- ---- what is not read
pub as-none : {A B : Type 0} (f : A → B) (r : Reader A) (xs : List ℕ) → r xs ≡ None → as_a f r xs ≡ None
as-none f r xs e = rw e refl

pub both-none : {A B : Type 0} (r : Reader A) (q : Reader B) (xs : List ℕ) → r xs ≡ None → both r q xs ≡ None
both-none r q xs e = rw e refl

pub then_word-none : {A : Type 0} (r : Reader A) (ws xs : List ℕ) → r xs ≡ None → then_word r ws xs ≡ None
then_word-none r ws xs e = rw e refl

pub such_that-none : {A : Type 0} (r : Reader A) (p : A → Bool) (xs : List ℕ) → r xs ≡ None → such_that r p xs ≡ None
such_that-none r p xs e = rw e refl

pub second_of : {A : Type 0} (o q : Option A) (x : A) → o ≡ None → q ≡ Some x → or_else o q ≡ Some x
second_of o q x e f = rw e f

-- ---- one of two forms
pub either-takes : {A : Type 0} (r q : Reader A) (T : A → List ℕ) (Ok : A → Type 0) → Takes r T Ok → Takes q T Ok → Takes (either r q) T Ok
either-takes {A} r q T Ok tr tq = record {
  read = λ xs x rest e. elim (or_some (r xs) (q xs) (x, rest) e) [
    | inl h ↦ tr.read xs x rest h
    | inr h ↦ tq.read xs x rest h
  ];
}

-- ---- all of a line
pub whole-takes : {A : Type 0} (r : Reader A) (T : A → List ℕ) (Ok : A → Type 0) → Takes r T Ok → (line : List ℕ) (x : A) → whole r line ≡ Some x → Ok x × (line ≡ T x)
whole-takes {A} r T Ok t line x e =
    let s = bind_some (r line) all_used x e in
    let u = used_all s.0.0 x s.0.1 s.2 in
    let v = t.read line s.0.0 s.0.1 s.1 in
    let same : line ≡ T s.0.0 = v.1 ∙ ap (λ (z : List ℕ). T s.0.0 ++ z) u.1 ∙ append-nil (T s.0.0) in
    let P : A → Type 0 = λ y. Ok y × (line ≡ T y) in
    subst P u.0 (v.0, same)
