-- The positions of the reads of merged names, both ways.
use Rattle.std.proofs.Common.{◌≡◌, ℕ, ◌^◌, ◌<◌, ◌==◌, List, [], ◌∷◌, ◌++◌, Option, Some, None, refl, sym, ap, subst, ◌∙◌, codes, false}
use Rattle.std.specs.Prelude.{decimal}
use Rattle.std.proofs.lemmas.List.{append-nil}
use Rattle.afr_plan.specs.Bytes.{digit}
use Rattle.afr_plan.specs.Reading.{Reader, both}
use Rattle.afr_plan_read.proofs.Laws.{Stops, first_of}
use Rattle.afr_report_trace.specs.Numbers.{commas_from, given, with_commas}
use Rattle.afr_trace_read.specs.Fit.{AreFirst, AreReads}
use Rattle.afr_trace_read.specs.Lists.{next_at, some_front, maybe_then, one_more, two_more, three_more, four_more, reads_of, reads_at}
use Rattle.afr_trace_read.proofs.Laws.{Takes, Again, IsSpaced, spaced_stops, give-takes, word_then-takes, word_then-again, both-takes, both-again, either-takes, as-takes, as-again, as-none, both-none, second_of}
use Rattle.afr_trace_read.proofs.NumberLaws.{small-takes, small-again}

abbrev next_text : ℕ → List ℕ
next_text n = codes "," ++ decimal n

abbrev IsSmall : ℕ → Type 0
IsSmall n = n < 2 ^ 32

next-takes : Takes next_at next_text IsSmall
unfolding next_at
next-takes = word_then-takes (codes ",") _ _ _ small-takes

next-again : Again next_at next_text IsSmall (Stops digit)
unfolding next_at
next-again = word_then-again (codes ",") _ _ _ _ small-again

no_next : (rest : List ℕ) → IsSpaced rest → next_at rest ≡ None
unfolding next_at
no_next [] n = absurd n
no_next (x ∷ xs) n = let e : (44 == x) ≡ false = subst (λ (y : ℕ). (44 == y) ≡ false) (sym n) refl in rw e refl

-- ---- one more, or none
abbrev one_text : Option ℕ → List ℕ
one_text None = []
one_text (Some n) = next_text n

abbrev IsOne : Option ℕ → Type 0
IsOne o = AreFirst (o ∷ [])

one-takes : Takes one_more one_text IsOne
unfolding one_more
one-takes = either-takes _ _ _ _ (as-takes Some _ _ _ _ _ next-takes (λ n l. ((l, tt), refl))) (give-takes None _ _ tt refl)

read_one : (o : Option ℕ) (rest : List ℕ) → IsOne o → IsSpaced rest → one_more (one_text o ++ rest) ≡ Some (o, rest)
unfolding one_more
read_one None rest ok n = second_of _ _ _ (as-none Some next_at rest (no_next rest n)) refl
read_one (Some m) rest ok n = first_of _ _ _ (as-again Some _ _ _ _ next-again m rest ok.0 (spaced_stops digit refl rest n))

one_stops : (o : Option ℕ) (rest : List ℕ) → IsOne o → IsSpaced rest → Stops digit (one_text o ++ rest)
one_stops None rest ok n = spaced_stops digit refl rest n
one_stops (Some m) rest ok n = refl

-- ---- a number and what follows it, or neither
maybe-takes : {A : Type 0} (none : A) (q : Reader A) (T : A → List ℕ) (Ok : A → Type 0) (Both : Option ℕ × A → Type 0) → T none ≡ [] → Both (None, none) → ((m : ℕ) (y : A) → IsSmall m → Ok y → Both (Some m, y)) → Takes q T Ok
    → Takes (maybe_then none q) (λ x. one_text x.0 ++ T x.1) Both
maybe-takes none q T Ok Both text neither there t = either-takes _ _ _ _ (as-takes some_front _ _ _ _ _ (both-takes _ _ _ _ _ _ next-takes t) (λ x ok. (there x.0 x.1 ok.0 ok.1, refl))) (give-takes (None, none) _ _ neither text)

some_again : {A : Type 0} (none : A) (q : Reader A) (T : A → List ℕ) (Ok : A → Type 0) → Again q T Ok IsSpaced → ((y : A) (rest : List ℕ) → Ok y → IsSpaced rest → Stops digit (T y ++ rest))
    → (m : ℕ) (y : A) (rest : List ℕ) → IsSmall m → Ok y → IsSpaced rest → maybe_then none q ((next_text m ++ T y) ++ rest) ≡ Some ((Some m, y), rest)
some_again none q T Ok t may m y rest l ok n = first_of _ _ _ (as-again some_front _ _ _ _ (both-again _ _ _ _ _ _ (Stops digit) IsSpaced next-again t may) (m, y) rest (l, ok) n)

none_again : {A : Type 0} (none : A) (q : Reader A) (rest : List ℕ) → IsSpaced rest → maybe_then none q rest ≡ Some ((None, none), rest)
none_again none q rest n = second_of _ _ _ (as-none some_front (both next_at q) rest (both-none next_at q rest (no_next rest n))) refl

-- ---- up to two, three and four
abbrev AreTwo : Option ℕ × Option ℕ → Type 0
AreTwo x = AreFirst (x.0 ∷ x.1 ∷ [])

abbrev two_text : Option ℕ × Option ℕ → List ℕ
two_text x = one_text x.0 ++ one_text x.1

two-takes : Takes two_more two_text AreTwo
unfolding two_more
two-takes = maybe-takes None one_more one_text IsOne AreTwo refl tt (λ m y l ok. (l, ok)) one-takes

read_two : (x : Option ℕ × Option ℕ) (rest : List ℕ) → AreTwo x → IsSpaced rest → two_more (two_text x ++ rest) ≡ Some (x, rest)
unfolding two_more
read_two (Some m, y) rest ok n = some_again None one_more one_text IsOne (record { read = read_one }) one_stops m y rest ok.0 ok.1 n
read_two (None, None) rest ok n = none_again None one_more rest n
read_two (None, Some m) rest ok n = absurd ok

two_stops : (x : Option ℕ × Option ℕ) (rest : List ℕ) → AreTwo x → IsSpaced rest → Stops digit (two_text x ++ rest)
two_stops (Some m, y) rest ok n = refl
two_stops (None, None) rest ok n = spaced_stops digit refl rest n
two_stops (None, Some m) rest ok n = absurd ok

abbrev AreThree : Option ℕ × (Option ℕ × Option ℕ) → Type 0
AreThree x = AreFirst (x.0 ∷ x.1.0 ∷ x.1.1 ∷ [])

abbrev three_text : Option ℕ × (Option ℕ × Option ℕ) → List ℕ
three_text x = one_text x.0 ++ two_text x.1

three-takes : Takes three_more three_text AreThree
unfolding three_more
three-takes = maybe-takes (None, None) two_more two_text AreTwo AreThree refl tt (λ m y l ok. (l, ok)) two-takes

read_three : (x : Option ℕ × (Option ℕ × Option ℕ)) (rest : List ℕ) → AreThree x → IsSpaced rest → three_more (three_text x ++ rest) ≡ Some (x, rest)
unfolding three_more
read_three (Some m, y) rest ok n = some_again (None, None) two_more two_text AreTwo (record { read = read_two }) two_stops m y rest ok.0 ok.1 n
read_three (None, (None, None)) rest ok n = none_again (None, None) two_more rest n
read_three (None, (None, Some m)) rest ok n = absurd ok
read_three (None, (Some m, y)) rest ok n = absurd ok

three_stops : (x : Option ℕ × (Option ℕ × Option ℕ)) (rest : List ℕ) → AreThree x → IsSpaced rest → Stops digit (three_text x ++ rest)
three_stops (Some m, y) rest ok n = refl
three_stops (None, (None, None)) rest ok n = spaced_stops digit refl rest n
three_stops (None, (None, Some m)) rest ok n = absurd ok
three_stops (None, (Some m, y)) rest ok n = absurd ok

abbrev AreFour : Option ℕ × (Option ℕ × (Option ℕ × Option ℕ)) → Type 0
AreFour x = AreFirst (x.0 ∷ x.1.0 ∷ x.1.1.0 ∷ x.1.1.1 ∷ [])

abbrev four_text : Option ℕ × (Option ℕ × (Option ℕ × Option ℕ)) → List ℕ
four_text x = one_text x.0 ++ three_text x.1

four-takes : Takes four_more four_text AreFour
unfolding four_more
four-takes = maybe-takes (None, (None, None)) three_more three_text AreThree AreFour refl tt (λ m y l ok. (l, ok)) three-takes

read_four : (x : Option ℕ × (Option ℕ × (Option ℕ × Option ℕ))) (rest : List ℕ) → AreFour x → IsSpaced rest → four_more (four_text x ++ rest) ≡ Some (x, rest)
unfolding four_more
read_four (Some m, y) rest ok n = some_again (None, (None, None)) three_more three_text AreThree (record { read = read_three }) three_stops m y rest ok.0 ok.1 n
read_four (None, (None, (None, None))) rest ok n = none_again (None, (None, None)) three_more rest n
read_four (None, (None, (None, Some m))) rest ok n = absurd ok
read_four (None, (None, (Some m, y))) rest ok n = absurd ok
read_four (None, (Some m, y)) rest ok n = absurd ok

four_stops : (x : Option ℕ × (Option ℕ × (Option ℕ × Option ℕ))) (rest : List ℕ) → AreFour x → IsSpaced rest → Stops digit (four_text x ++ rest)
four_stops (Some m, y) rest ok n = refl
four_stops (None, (None, (None, None))) rest ok n = spaced_stops digit refl rest n
four_stops (None, (None, (None, Some m))) rest ok n = absurd ok
four_stops (None, (None, (Some m, y))) rest ok n = absurd ok
four_stops (None, (Some m, y)) rest ok n = absurd ok

-- ---- one to five
front_text : (o : Option ℕ) (more : List (Option ℕ)) → commas_from false (given (o ∷ more)) ≡ one_text o ++ commas_from false (given more)
front_text None more = refl
front_text (Some n) more = refl

end_text : (o : Option ℕ) → commas_from false (given (o ∷ [])) ≡ one_text o
end_text None = refl
end_text (Some n) = append-nil (next_text n)

more_text : (a b c d : Option ℕ) → commas_from false (given (a ∷ b ∷ c ∷ d ∷ [])) ≡ four_text (a, (b, (c, d)))
more_text a b c d =
    front_text a (b ∷ c ∷ d ∷ []) ∙ ap (λ (t : List ℕ). one_text a ++ t)
    (front_text b (c ∷ d ∷ []) ∙ ap (λ (t : List ℕ). one_text b ++ t)
    (front_text c (d ∷ []) ∙ ap (λ (t : List ℕ). one_text c ++ t) (end_text d)))

abbrev Five : Type 0
Five = ℕ × (Option ℕ × (Option ℕ × (Option ℕ × Option ℕ)))

reads_form : (x : Five) → IsSmall x.0 × AreFour x.1 → AreReads (reads_of x) × (decimal x.0 ++ four_text x.1 ≡ with_commas (given (reads_of x)))
reads_form x ok = ((ok.0, ok.1), ap (λ (t : List ℕ). decimal x.0 ++ t) (sym (more_text x.1.0 x.1.1.0 x.1.1.1.0 x.1.1.1.1)))

pub reads-takes : Takes reads_at (λ r. with_commas (given r)) AreReads
unfolding reads_at
reads-takes = as-takes reads_of _ _ _ _ _ (both-takes _ _ _ _ _ _ small-takes four-takes) reads_form

parts_again : (x : Five) (rest : List ℕ) → IsSmall x.0 × AreFour x.1 → IsSpaced rest → reads_at ((decimal x.0 ++ four_text x.1) ++ rest) ≡ Some (reads_of x, rest)
unfolding reads_at
parts_again x rest ok n = as-again reads_of _ _ _ _ (both-again _ _ _ _ _ _ (Stops digit) IsSpaced small-again (record { read = read_four }) four_stops) x rest ok n

read_reads : (r : List (Option ℕ)) (rest : List ℕ) → AreReads r → IsSpaced rest → reads_at (with_commas (given r) ++ rest) ≡ Some (r, rest)
read_reads (Some n ∷ a ∷ b ∷ c ∷ d ∷ []) rest ok s =
    let x : Five = (n, (a, (b, (c, d)))) in
    ap (λ (t : List ℕ). reads_at (t ++ rest)) (sym (reads_form x (ok.0, ok.1)).1) ∙ parts_again x rest (ok.0, ok.1) s
read_reads [] rest ok s = absurd ok
read_reads (None ∷ more) rest ok s = absurd ok
read_reads (Some n ∷ []) rest ok s = absurd ok
read_reads (Some n ∷ a ∷ []) rest ok s = absurd ok
read_reads (Some n ∷ a ∷ b ∷ []) rest ok s = absurd ok
read_reads (Some n ∷ a ∷ b ∷ c ∷ []) rest ok s = absurd ok
read_reads (Some n ∷ a ∷ b ∷ c ∷ d ∷ e ∷ more) rest ok s = absurd ok

pub reads-again : Again reads_at (λ r. with_commas (given r)) AreReads IsSpaced
reads-again = record { read = read_reads }
