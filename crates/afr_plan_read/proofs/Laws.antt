-- What is read is spelled so, and what is spelled so is read.
use Rattle.std.proofs.Common.{◌≡◌, ◌⊎◌, inl, inr, ℕ, List, [], ◌∷◌, ◌++◌, length, drop, Option, Some, None, refl, sym, ap, subst, ◌∙◌, Bool, true, false, ◌==◌, cond, take_while, append_assoc}
use Rattle.std.specs.List.{list_all}
use Rattle.std.proofs.lemmas.List.{take-append-drop, append-nil, drop_at}
use Rattle.std.proofs.lemmas.List.Sums.{take_while-cons}
use Rattle.std.proofs.lemmas.Bool.{eqb-true, eq-eqb}
use Rattle.afr_plan.specs.Bytes.{digit, path_byte, key_byte, text_byte, is_numeral, is_key, is_text, value, small_value}
use Rattle.afr_plan.specs.Paths.{names_in, is_path, is_named_path}
use Rattle.afr_plan.specs.Reading.{◌>>=◌, after, front, checked, Reader, give, give_as, as_a, all_used, whole, pair, then_pair, word, word_then, both, run_of, or_else, either, key_at, path_at, named_path_at, number_at, small_at, text_at}
use Rattle.afr_plan.specs.Spelling.{IsRun, As, IsKey, IsPath, IsNamedPath, IsNumber, IsSmall, IsText, WordThen, Both, Word, Either}
use Rattle.afr_plan_line.proofs.Front.{front_take}
use Rattle.afr_base.specs.Bricks.{and_left, and_right}

-- the rest doesn't begin with a byte that passes
abbrev pub Stops : (ℕ → Bool) → List ℕ → Type 0
Stops p [] = Unit {0}
Stops p (x ∷ xs) = p x ≡ false

-- what a reader accepts is spelled so
pub record Takes {A : Type 0} (r : Reader A) (S : List ℕ → A → Type 0) : Type 0 where
  pub read : (xs : List ℕ) (x : A) (rest : List ℕ) → r xs ≡ Some (x, rest) → (w : List ℕ) × S w x × (xs ≡ w ++ rest)

-- what is spelled so is accepted, where what follows may follow
pub record Again {A : Type 0} (r : Reader A) (S : List ℕ → A → Type 0) (Next : List ℕ → Type 0) : Type 0 where
  pub read : (w : List ℕ) (x : A) (rest : List ℕ) → S w x → Next rest → r (w ++ rest) ≡ Some (x, rest)

abbrev pub Any : List ℕ → Type 0
Any rest = Unit {0}

pub bind_some : {A B : Type 0} (o : Option A) (f : A → Option B) (y : B) → (o >>= f) ≡ Some y → (x : A) × (o ≡ Some x) × (f x ≡ Some y)
bind_some None f y e = absurd (cc)
bind_some (Some x) f y e = (x, refl, e)

pub checked_some : {A : Type 0} (b : Bool) (x y : A) → checked b x ≡ Some y → (b ≡ true) × (x ≡ y)
checked_some true x y e = (refl, cc)
checked_some false x y e = absurd (cc)

pub after_takes : (ws xs rest : List ℕ) → after ws xs ≡ Some rest → xs ≡ ws ++ rest
after_takes [] xs rest e = cc
after_takes (w ∷ ws) [] rest e = absurd (cc)
after_takes (w ∷ ws) (x ∷ xs) rest e = step (w == x) refl e (after_takes ws xs rest)
  where
    step : (b : Bool) → (w == x) ≡ b → cond b (after ws xs) None ≡ Some rest → (after ws xs ≡ Some rest → xs ≡ ws ++ rest) → x ∷ xs ≡ w ∷ (ws ++ rest)
    step true t h more = let e1 : w ≡ x = eqb-true w x t in let e2 : xs ≡ ws ++ rest = more h in cc
    step false t h more = absurd (cc)

pub after_again : (ws rest : List ℕ) → after ws (ws ++ rest) ≡ Some rest
after_again [] rest = refl
after_again (w ∷ ws) rest = let e : (w == w) ≡ true = eq-eqb w w refl in rw e (after_again ws rest)

pub front_all : (p : ℕ → Bool) (xs : List ℕ) → list_all p (take_while p xs) ≡ true
front_all p [] = refl
front_all p (x ∷ xs) = rw (take_while-cons p x xs) (step (front_all p xs) (p x) refl)
  where
    step : list_all p (take_while p xs) ≡ true → (b : Bool) → p x ≡ b → list_all p (cond b (x ∷ take_while p xs) []) ≡ true
    step later true e = rw e later
    step later false e = refl

pub front_again : (p : ℕ → Bool) (a rest : List ℕ) → list_all p a ≡ true → Stops p rest → take_while p (a ++ rest) ≡ a
front_again p [] [] h s = refl
front_again p [] (x ∷ rest) h s = rw (take_while-cons p x rest, s) refl
front_again p (y ∷ a) rest h s =
    let here : p y ≡ true = and_left (p y) (list_all p a) h in
    let more : list_all p a ≡ true = and_right (p y) (list_all p a) h in
    rw (take_while-cons p y (a ++ rest), here) (ap (λ t. y ∷ t) (front_again p a rest more s))

-- two fronts, one after the other
pub joined : (xs u r v q : List ℕ) → xs ≡ u ++ r → r ≡ v ++ q → xs ≡ (u ++ v) ++ q
joined xs u r v q e f = e ∙ ap (λ (t : List ℕ). u ++ t) f ∙ sym (append_assoc u v q)

followed : (xs u r q : List ℕ) → xs ≡ u ++ r → r ≡ q → xs ≡ u ++ q
followed xs u r q e f = e ∙ ap (λ (t : List ℕ). u ++ t) f

pub word-takes : {A : Type 0} (ws : List ℕ) (a : A) → Takes (word ws a) (Word ws a)
word-takes {A} ws a = record {
  read = λ xs x rest e.
      let s = bind_some (after ws xs) (give a) (x, rest) e in
      let f : ◌≡◌ {A = A × List ℕ} (a, s.0) (x, rest) = cc in
      (ws, (refl, ap (λ (t : A × List ℕ). t.0) f), followed xs ws s.0 rest (after_takes ws xs s.0 s.1) (ap (λ (t : A × List ℕ). t.1) f));
}

pub word-again : {A : Type 0} (ws : List ℕ) (a : A) → Again (word ws a) (Word ws a) Any
word-again ws a = record {
  read = λ w x rest s n. rw (s.0, after_again ws rest, s.1) refl;
}

pub word_then-takes : {A : Type 0} (ws : List ℕ) (q : Reader A) (T : List ℕ → A → Type 0) → Takes q T → Takes (word_then ws q) (WordThen ws T)
word_then-takes ws q T t = record {
  read = λ xs x rest e.
      let s = bind_some (after ws xs) q (x, rest) e in
      let u = t.read s.0 x rest s.2 in
      (ws ++ u.0, (u.0, u.1, refl), joined xs ws s.0 u.0 rest (after_takes ws xs s.0 s.1) u.2);
}

pub word_then-again : {A : Type 0} (ws : List ℕ) (q : Reader A) (T : List ℕ → A → Type 0) (Next : List ℕ → Type 0) → Again q T Next → Again (word_then ws q) (WordThen ws T) Next
word_then-again ws q T Next t = record {
  read = λ w x rest s n. rw (s.2, append_assoc ws s.0 rest, after_again ws (s.0 ++ rest)) (t.read s.0 x rest s.1 n);
}

pub both-takes : {A B : Type 0} (r : Reader A) (q : Reader B) (S : List ℕ → A → Type 0) (T : List ℕ → B → Type 0) → Takes r S → Takes q T → Takes (both r q) (Both S T)
both-takes {A} {B} r q S T first second = record {
  read = λ xs z rest e.
      let s = bind_some (r xs) (then_pair q) (z, rest) e in
      let s2 = bind_some (q s.0.1) (pair s.0.0) (z, rest) s.2 in
      let f : ◌≡◌ {A = (A × B) × List ℕ} ((s.0.0, s2.0.0), s2.0.1) (z, rest) = cc in
      let u = first.read xs s.0.0 s.0.1 s.1 in
      let v = second.read s.0.1 s2.0.0 s2.0.1 s2.1 in
      let whole : xs ≡ (u.0 ++ v.0) ++ s2.0.1 = joined xs u.0 s.0.1 v.0 s2.0.1 u.2 v.2 in
      let P : (A × B) × List ℕ → Type 0 = λ t. (w : List ℕ) × Both S T w t.0 × (xs ≡ w ++ t.1) in
      subst P f (u.0 ++ v.0, (u.0, v.0, u.1, v.1, refl), whole);
}

pub both-again : {A B : Type 0} (r : Reader A) (q : Reader B) (S : List ℕ → A → Type 0) (T : List ℕ → B → Type 0) (NextR Next : List ℕ → Type 0)
    → Again r S NextR → Again q T Next → ((v : List ℕ) (y : B) (rest : List ℕ) → T v y → NextR (v ++ rest)) → Again (both r q) (Both S T) Next
both-again r q S T NextR Next ar aq may = record {
  read = λ w z rest s n.
      rw (s.4, append_assoc s.0 s.1 rest, ar.read s.0 z.0 (s.1 ++ rest) s.2 (may s.1 z.1 rest s.3), aq.read s.1 z.1 rest s.3 n) refl;
}

pub run-takes : (p : ℕ → Bool) (ok : List ℕ → Bool) → Takes (run_of p ok) (IsRun p ok)
run-takes p ok = record {
  read = λ xs x rest e.
      let c = checked_some (ok (take_while p xs)) (front p xs) (x, rest) e in
      let a : take_while p xs ≡ x = ap (λ (t : List ℕ × List ℕ). t.0) c.1 in
      let b : drop (length (take_while p xs)) xs ≡ rest = ap (λ (t : List ℕ × List ℕ). t.1) c.1 in
      let whole : xs ≡ take_while p xs ++ drop (length (take_while p xs)) xs = sym (take-append-drop (length (take_while p xs)) xs) ∙ ap (λ (t : List ℕ). t ++ drop (length (take_while p xs)) xs) (front_take p xs) in
      (take_while p xs, (a, front_all p xs, c.0), whole ∙ ap (λ (t : List ℕ). take_while p xs ++ t) b);
}

pub run-again : (p : ℕ → Bool) (ok : List ℕ → Bool) → Again (run_of p ok) (IsRun p ok) (Stops p)
run-again p ok = record {
  read = λ w x rest s n. rw (front_again p w rest s.1 n, s.2) (ap (λ (t : List ℕ). Some (w, t)) (drop_at w rest (length w) refl) ∙ ap (λ (t : List ℕ). Some (t, rest)) s.0);
}

pub as-takes : {A B : Type 0} (f : A → B) (r : Reader A) (S : List ℕ → A → Type 0) → Takes r S → Takes (as_a f r) (As f S)
as-takes {A} {B} f r S t = record {
  read = λ xs y rest e.
      let s = bind_some (r xs) (give_as f) (y, rest) e in
      let p : ◌≡◌ {A = B × List ℕ} (f s.0.0, s.0.1) (y, rest) = cc in
      let u = t.read xs s.0.0 s.0.1 s.1 in
      (u.0, (s.0.0, u.1, ap (λ (z : B × List ℕ). z.0) p), followed xs u.0 s.0.1 rest u.2 (ap (λ (z : B × List ℕ). z.1) p));
}

pub as-again : {A B : Type 0} (f : A → B) (r : Reader A) (S : List ℕ → A → Type 0) (Next : List ℕ → Type 0) → Again r S Next → Again (as_a f r) (As f S) Next
as-again {A} {B} f r S Next t = record {
  read = λ w y rest s n. rw (t.read w s.0 rest s.1 n) (ap (λ (z : B). Some (z, rest)) s.2);
}

pub takes-so : {A : Type 0} (r : Reader A) (S T : List ℕ → A → Type 0) → Takes r S → ((w : List ℕ) (x : A) → S w x → T w x) → Takes r T
takes-so r S T t f = record {
  read = λ xs x rest e. let u = t.read xs x rest e in (u.0, f u.0 x u.1, u.2);
}

-- a reader whose value is another form of another's, for any relation that it keeps
pub as-so : {A B : Type 0} (f : A → B) (r : Reader A) (S : List ℕ → A → Type 0) (T : List ℕ → B → Type 0) → Takes r S → ((w : List ℕ) (x : A) → S w x → T w (f x)) → Takes (as_a f r) T
as-so f r S T t g = takes-so _ _ _ (as-takes f r S t) (λ w y h. let P : _ → Type 0 = λ s. T w s in subst P h.2 (g w h.0 h.1))

pub again-after : {A : Type 0} (r : Reader A) (S : List ℕ → A → Type 0) (Next Later : List ℕ → Type 0) → Again r S Next → ((rest : List ℕ) → Later rest → Next rest) → Again r S Later
again-after r S Next Later t f = record {
  read = λ w x rest s n. t.read w x rest s (f rest n);
}

-- ---- one of two forms
pub or_some : {A : Type 0} (o q : Option A) (x : A) → or_else o q ≡ Some x → (o ≡ Some x) ⊎ (q ≡ Some x)
or_some None q x e = inr e
or_some (Some t) q x e = inl e

pub first_of : {A : Type 0} (o q : Option A) (x : A) → o ≡ Some x → or_else o q ≡ Some x
first_of o q x e = rw e refl

pub either-so : {A : Type 0} (r q : Reader A) (S : List ℕ → A → Type 0) → Takes r S → Takes q S → Takes (either r q) S
either-so {A} r q S tr tq = record {
  read = λ xs x rest e. elim (or_some (r xs) (q xs) (x, rest) e) [
    | inl h ↦ tr.read xs x rest h
    | inr h ↦ tq.read xs x rest h
  ];
}

pub either-takes : {A : Type 0} (r q : Reader A) (S T : List ℕ → A → Type 0) → Takes r S → Takes q T → Takes (either r q) (Either S T)
either-takes r q S T tr tq = either-so r q (Either S T) (takes-so r S (Either S T) tr (λ w x h. inl h)) (takes-so q T (Either S T) tq (λ w x h. inr h))

pub either-again : {A : Type 0} (r q : Reader A) (S T : List ℕ → A → Type 0) (Next : List ℕ → Type 0)
    → Again r S Next → Again q T Next → ((w : List ℕ) (x : A) (rest : List ℕ) → T w x → r (w ++ rest) ≡ None) → Again (either r q) (Either S T) Next
either-again r q S T Next ar aq other = record {
  read = λ w x rest s n. elim s [
    | inl h ↦ first_of (r (w ++ rest)) (q (w ++ rest)) (x, rest) (ar.read w x rest h n)
    | inr h ↦ rw (other w x rest h) (aq.read w x rest h n)
  ];
}

pub used_all : {A : Type 0} (a x : A) (rest : List ℕ) → all_used (a, rest) ≡ Some x → (a ≡ x) × (rest ≡ [])
used_all a x [] e = (cc, refl)
used_all a x (b ∷ bs) e = absurd (cc)

pub whole-takes : {A : Type 0} (r : Reader A) (S : List ℕ → A → Type 0) → Takes r S → (line : List ℕ) (x : A) → whole r line ≡ Some x → S line x
whole-takes {A} r S t line x e =
    let s = bind_some (r line) all_used x e in
    let u = used_all s.0.0 x s.0.1 s.2 in
    let v = t.read line s.0.0 s.0.1 s.1 in
    let same : line ≡ v.0 = followed line v.0 s.0.1 [] v.2 u.1 ∙ append-nil v.0 in
    let P : List ℕ → Type 0 = λ w. S w x in
    let Q : A → Type 0 = λ y. S v.0 y in
    subst P (sym same) (subst Q u.0 v.1)

pub whole-again : {A : Type 0} (r : Reader A) (S : List ℕ → A → Type 0) (Next : List ℕ → Type 0) → Again r S Next → Next [] → (line : List ℕ) (x : A) → S line x → whole r line ≡ Some x
whole-again {A} r S Next t n line x s =
    let e : r line ≡ Some (x, []) = ap r (sym (append-nil line)) ∙ t.read line x [] s n in
    rw e refl

-- ---- words
pub key-takes : Takes key_at IsKey
unfolding key_at
key-takes = run-takes key_byte is_key

pub key-again : Again key_at IsKey (Stops key_byte)
unfolding key_at
key-again = run-again key_byte is_key

pub path-takes : Takes path_at IsPath
unfolding path_at
path-takes = as-takes names_in _ _ (run-takes path_byte is_path)

pub path-again : Again path_at IsPath (Stops path_byte)
unfolding path_at
path-again = as-again names_in _ _ _ (run-again path_byte is_path)

pub named_path-takes : Takes named_path_at IsNamedPath
unfolding named_path_at
named_path-takes = as-takes names_in _ _ (run-takes path_byte is_named_path)

pub named_path-again : Again named_path_at IsNamedPath (Stops path_byte)
unfolding named_path_at
named_path-again = as-again names_in _ _ _ (run-again path_byte is_named_path)

pub number-takes : Takes number_at IsNumber
unfolding number_at
number-takes = as-takes value _ _ (run-takes digit is_numeral)

pub number-again : Again number_at IsNumber (Stops digit)
unfolding number_at
number-again = as-again value _ _ _ (run-again digit is_numeral)

pub small-takes : Takes small_at IsSmall
unfolding small_at
small-takes = as-takes small_value _ _ (run-takes digit is_numeral)

pub small-again : Again small_at IsSmall (Stops digit)
unfolding small_at
small-again = as-again small_value _ _ _ (run-again digit is_numeral)

pub text-takes : Takes text_at IsText
unfolding text_at
text-takes = run-takes text_byte is_text

pub text-again : Again text_at IsText (Stops text_byte)
unfolding text_at
text-again = run-again text_byte is_text
