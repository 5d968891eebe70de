-- The words of a plan by their places: what is read is what is printed.
use Rattle.std.proofs.Common.{◌≡◌, ℕ, List, [], ◌∷◌, ◌++◌, Some, None, refl, sym, subst, arith, Bool, true, false}
use Rattle.std.specs.Prelude.{slice_index_or}
use Rattle.std.specs.List.{list_all}
use Rattle.std.proofs.lemmas.List.Sums.{take_while-cons}
use Rattle.std.proofs.lemmas.Bool.Decides.{nat_tests}
use Rattle.afr_plan.specs.Bytes.{digit, name_byte, key_byte}
use Rattle.afr_plan.specs.Reading.{run_of}
use Rattle.std.specs.Str.{bytes_eq}
use Rattle.std.proofs.lemmas.List.Quantifiers.{position-Some}
use Rattle.std.proofs.lemmas.Slice.Eq.{bytes_eq-Decides}
use Rattle.afr_plan_read.proofs.Laws.{bind_some, Stops}
use Rattle.afr_trace_read.specs.Fit.{IsWordAt}
use Rattle.afr_trace_read.specs.Forms.{place_in, before, find_in, word_among}
use Rattle.afr_trace_read.proofs.Laws.{Takes, Again}
use Rattle.afr_trace_read.proofs.NumberLaws.{run-takes, run-again}

pub same_bytes : (xs ys : List ℕ) → bytes_eq xs ys ≡ true → xs ≡ ys
same_bytes xs ys e = (bytes_eq-Decides xs ys).0 e

place_is : (words : List (List ℕ)) (w : List ℕ) (i : ℕ) → place_in words w ≡ Some i → slice_index_or words i [] ≡ w
place_is words w i e = sym (same_bytes w (slice_index_or words i []) (position-Some (bytes_eq w) words i [] e).1)

pub word-takes-among : (p : ℕ → Bool) (ok : List ℕ → Bool) (words : List (List ℕ)) → Takes (word_among p ok words) (λ i. slice_index_or words i []) (IsWordAt p ok words)
unfolding word_among
word-takes-among p ok words = record {
  read = λ xs i rest e.
      let s = bind_some (run_of p ok xs) (find_in words) (i, rest) e in
      let s2 = bind_some (place_in words s.0.0) (before s.0.1) (i, rest) s.2 in
      let f : ◌≡◌ {A = ℕ × List ℕ} (s2.0, s.0.1) (i, rest) = cc in
      let u = (run-takes p ok).read xs s.0.0 s.0.1 s.1 in
      let same : slice_index_or words s2.0 [] ≡ s.0.0 = place_is words s.0.0 s2.0 s2.1 in
      let Q : List ℕ → Type 0 = λ w. ((place_in words w ≡ Some s2.0) × (list_all p w ≡ true) × (ok w ≡ true)) × (xs ≡ w ++ s.0.1) in
      let here : Q (slice_index_or words s2.0 []) = subst Q (sym same) ((s2.1, u.0.0, u.0.1), u.1) in
      let P : ℕ × List ℕ → Type 0 = λ z. IsWordAt p ok words z.0 × (xs ≡ slice_index_or words z.0 [] ++ z.1) in
      subst P f here;
}

pub word-again-among : (p : ℕ → Bool) (ok : List ℕ → Bool) (words : List (List ℕ)) → Again (word_among p ok words) (λ i. slice_index_or words i []) (IsWordAt p ok words) (Stops p)
unfolding word_among
word-again-among p ok words = record {
  read = λ i rest h stops. rw ((run-again p ok).read (slice_index_or words i []) rest (h.1, h.2) stops, h.0) refl;
}

-- what doesn't begin with a byte of a word is no word
pub no_word : (p : ℕ → Bool) (ok : List ℕ → Bool) (words : List (List ℕ)) (x : ℕ) (xs : List ℕ) → p x ≡ false → ok [] ≡ false → word_among p ok words (x ∷ xs) ≡ None
unfolding word_among
no_word p ok words x xs e f = rw (take_while-cons p x xs, e, f) refl

pub name_then_digit : (rest : List ℕ) → Stops name_byte rest → Stops digit rest
name_then_digit [] n = tt
name_then_digit (x ∷ xs) n = grind (arith, nat_tests, n)

pub name_then_key : (rest : List ℕ) → Stops name_byte rest → Stops key_byte rest
name_then_key [] n = tt
name_then_key (x ∷ xs) n = grind (arith, nat_tests, n)
