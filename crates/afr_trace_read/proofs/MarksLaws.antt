-- Changelog numbers, both ways.
use Rattle.std.proofs.Common.{◌≡◌, inl, inr, ℕ, ◌^◌, ◌<◌, ◌==◌, List, [], ◌∷◌, ◌++◌, take, Some, None, refl, sym, ap, subst, ◌∙◌, codes, Bool, true, false, cond, append_assoc}
use Rattle.std.specs.Prelude.{decimal, flat_map}
use Rattle.std.proofs.lemmas.List.{append-nil}
use Rattle.std.proofs.lemmas.Bool.{eqb-true}
use Rattle.afr_plan.specs.declared.plan.Plan.{Plan}
use Rattle.afr_plan.specs.Bytes.{digit}
use Rattle.afr_plan.specs.Reading.{both}
use Rattle.afr_plan_read.proofs.Laws.{Stops}
use Rattle.afr_report_trace.specs.Repairs.{marks_text}
use Rattle.afr_trace_read.specs.Fit.{AreLast, ArePending, AreMarks}
use Rattle.afr_trace_read.specs.Lists.{spaced_at, three_at, last_at, marks_of, marks_at}
use Rattle.afr_trace_read.proofs.Laws.{Takes, Again, IsSpaced, spaced_stops, word_then-takes, word_then-again, both-takes, both-again, as-takes, as-again}
use Rattle.afr_trace_read.proofs.NumberLaws.{small-takes, small-again}

abbrev spaced_text : ℕ → List ℕ
spaced_text n = codes " " ++ decimal n

abbrev IsSmall : ℕ → Type 0
IsSmall n = n < 2 ^ 32

spaced-takes : Takes spaced_at spaced_text IsSmall
unfolding spaced_at
spaced-takes = word_then-takes (codes " ") _ _ _ small-takes

spaced-again : Again spaced_at spaced_text IsSmall (Stops digit)
unfolding spaced_at
spaced-again = word_then-again (codes " ") _ _ _ _ small-again

abbrev three_text : (ℕ × ℕ) × ℕ → List ℕ
three_text x = spaced_text x.0.0 ++ spaced_text x.0.1 ++ spaced_text x.1

abbrev AreThree : (ℕ × ℕ) × ℕ → Type 0
AreThree x = (IsSmall x.0.0 × IsSmall x.0.1) × IsSmall x.1

three-takes : Takes three_at three_text AreThree
unfolding three_at
three-takes = both-takes _ _ _ _ _ _ (both-takes _ _ _ _ _ _ spaced-takes spaced-takes) spaced-takes

three-again : Again three_at three_text AreThree (Stops digit)
unfolding three_at
three-again = both-again _ _ _ _ _ _ (Stops digit) (Stops digit) (both-again _ _ _ _ _ _ (Stops digit) (Stops digit) spaced-again spaced-again (λ y rest ok n. refl)) spaced-again (λ y rest ok n. refl)

-- ---- the last two
abbrev two_text : ℕ × ℕ → List ℕ
two_text x = spaced_text x.0 ++ spaced_text x.1

abbrev last_text : ℕ → ℕ × ℕ → List ℕ
last_text n x = cond (n == 5) (two_text x) []

two-takes : Takes (both spaced_at spaced_at) two_text (λ x. IsSmall x.0 × IsSmall x.1)
two-takes = both-takes _ _ _ _ _ _ spaced-takes spaced-takes

two-again : Again (both spaced_at spaced_at) two_text (λ x. IsSmall x.0 × IsSmall x.1) (Stops digit)
two-again = both-again _ _ _ _ _ _ (Stops digit) (Stops digit) spaced-again spaced-again (λ y rest ok n. refl)

read_last : (n : ℕ) (xs : List ℕ) (x : ℕ × ℕ) (rest : List ℕ) (b c : Bool) → (n == 5) ≡ b → (n == 3) ≡ c
    → cond b (both spaced_at spaced_at xs) (cond c (Some ((0, 0), xs)) None) ≡ Some (x, rest) → AreLast n x × (xs ≡ cond b (two_text x) [] ++ rest)
read_last n xs x rest true c h k e = let u = two-takes.read xs x rest e in (inl (eqb-true n 5 h, u.0.0, u.0.1), u.1)
read_last n xs x rest false true h k e =
    let f : ◌≡◌ {A = (ℕ × ℕ) × List ℕ} ((0, 0), xs) (x, rest) = cc in
    let P : (ℕ × ℕ) × List ℕ → Type 0 = λ z. AreLast n z.0 × (xs ≡ z.1) in
    subst P f (inr (eqb-true n 3 k, refl, refl), refl)
read_last n xs x rest false false h k e = absurd (cc)

last-takes : (n : ℕ) → Takes (last_at n) (last_text n) (AreLast n)
unfolding last_at
last-takes n = record { read = λ xs x rest e. read_last n xs x rest (n == 5) (n == 3) refl refl e }

five_again : (x : ℕ × ℕ) (rest : List ℕ) → IsSmall x.0 × IsSmall x.1 → Stops digit rest → last_at 5 (last_text 5 x ++ rest) ≡ Some (x, rest)
unfolding last_at
five_again x rest ok s = two-again.read x rest ok s

none_again : (d e : ℕ) (rest : List ℕ) → d ≡ 0 → e ≡ 0 → last_at 3 (last_text 3 (d, e) ++ rest) ≡ Some ((d, e), rest)
unfolding last_at
none_again d e rest h k = rw (h, k) refl

last_again : (n : ℕ) (x : ℕ × ℕ) (rest : List ℕ) → AreLast n x → IsSpaced rest → last_at n (last_text n x ++ rest) ≡ Some (x, rest)
last_again n x rest (inl h) s = subst (λ (m : ℕ). last_at m (last_text m x ++ rest) ≡ Some (x, rest)) (sym h.0) (five_again x rest (h.1, h.2) (spaced_stops digit refl rest s))
last_again n x rest (inr h) s = subst (λ (m : ℕ). last_at m (last_text m x ++ rest) ≡ Some (x, rest)) (sym h.0) (none_again x.0 x.1 rest h.1 h.2)

last_stops : (n : ℕ) (x : ℕ × ℕ) (rest : List ℕ) → IsSpaced rest → Stops digit (last_text n x ++ rest)
last_stops n x rest s = step (n == 5)
  where
    step : (b : Bool) → Stops digit (cond b (two_text x) [] ++ rest)
    step true = refl
    step false = spaced_stops digit refl rest s

-- ---- all of them
five_parts : (a b c d e : List ℕ) → a ++ (b ++ (c ++ (d ++ (e ++ [])))) ≡ a ++ b ++ c ++ (d ++ e)
five_parts a b c d e = rw (append-nil e, append_assoc a b c, append_assoc a (b ++ c) (d ++ e), append_assoc b c (d ++ e)) refl

three_parts : (a b c : List ℕ) → a ++ (b ++ (c ++ [])) ≡ a ++ b ++ c ++ []
three_parts a b c = rw (append-nil c, append-nil (a ++ b ++ c), append_assoc a b c) refl

pending_text : (n a b c : ℕ) (x : ℕ × ℕ) → AreLast n x → flat_map spaced_text (take n (a ∷ b ∷ c ∷ x.0 ∷ x.1 ∷ [])) ≡ three_text ((a, b), c) ++ last_text n x
pending_text n a b c x (inl h) = subst (λ (m : ℕ). flat_map spaced_text (take m (a ∷ b ∷ c ∷ x.0 ∷ x.1 ∷ [])) ≡ three_text ((a, b), c) ++ last_text m x) (sym h.0) (five_parts (spaced_text a) (spaced_text b) (spaced_text c) (spaced_text x.0) (spaced_text x.1))
pending_text n a b c x (inr h) = subst (λ (m : ℕ). flat_map spaced_text (take m (a ∷ b ∷ c ∷ x.0 ∷ x.1 ∷ [])) ≡ three_text ((a, b), c) ++ last_text m x) (sym h.0) (three_parts (spaced_text a) (spaced_text b) (spaced_text c))

marks_form : (p : Plan) (x : (ℕ × ((ℕ × ℕ) × ℕ)) × (ℕ × ℕ)) → (IsSmall x.0.0 × AreThree x.0.1) × AreLast p.shape.n x.1
    → AreMarks p.shape.n (marks_of x) × (decimal x.0.0 ++ three_text x.0.1 ++ last_text p.shape.n x.1 ≡ marks_text p (marks_of x))
marks_form p x ok = (
  (ok.0.0, (ok.0.1, ok.1)),
  append_assoc (decimal x.0.0) (three_text x.0.1) (last_text p.shape.n x.1) ∙ ap (λ (t : List ℕ). decimal x.0.0 ++ t) (sym (pending_text p.shape.n x.0.1.0.0 x.0.1.0.1 x.0.1.1 x.1 ok.1)),
)

pub marks-takes : (p : Plan) → Takes (marks_at p.shape.n) (marks_text p) (AreMarks p.shape.n)
unfolding marks_at
marks-takes p = as-takes marks_of _ _ _ _ _ (both-takes _ _ _ _ _ _ (both-takes _ _ _ _ _ _ small-takes three-takes) (last-takes p.shape.n)) (marks_form p)

parts_again : (p : Plan) (x : (ℕ × ((ℕ × ℕ) × ℕ)) × (ℕ × ℕ)) (rest : List ℕ) → (IsSmall x.0.0 × AreThree x.0.1) × AreLast p.shape.n x.1 → IsSpaced rest
    → marks_at p.shape.n ((decimal x.0.0 ++ three_text x.0.1 ++ last_text p.shape.n x.1) ++ rest) ≡ Some (marks_of x, rest)
unfolding marks_at
parts_again p x rest ok s = as-again marks_of _ _ _ _ (both-again _ _ _ _ _ _ (Stops digit) IsSpaced (both-again _ _ _ _ _ _ (Stops digit) (Stops digit) small-again three-again (λ y rest ok n. refl))
    (record { read = last_again p.shape.n }) (λ y rest ok n. last_stops p.shape.n y rest n)) x rest ok s

read_marks : (p : Plan) (dirty : ℕ) (pending : List ℕ) (rest : List ℕ) → IsSmall dirty → ArePending p.shape.n pending → IsSpaced rest
    → marks_at p.shape.n (marks_text p (record { dirty = dirty; pending = pending }) ++ rest) ≡ Some (record { dirty = dirty; pending = pending }, rest)
read_marks p dirty (a ∷ b ∷ c ∷ d ∷ e ∷ []) rest l ok s =
    let x : (ℕ × ((ℕ × ℕ) × ℕ)) × (ℕ × ℕ) = ((dirty, ((a, b), c)), (d, e)) in
    ap (λ (t : List ℕ). marks_at p.shape.n (t ++ rest)) (sym (marks_form p x ((l, ok.0), ok.1)).1) ∙ parts_again p x rest ((l, ok.0), ok.1) s
read_marks p dirty [] rest l ok s = absurd ok
read_marks p dirty (a ∷ []) rest l ok s = absurd ok
read_marks p dirty (a ∷ b ∷ []) rest l ok s = absurd ok
read_marks p dirty (a ∷ b ∷ c ∷ []) rest l ok s = absurd ok
read_marks p dirty (a ∷ b ∷ c ∷ d ∷ []) rest l ok s = absurd ok
read_marks p dirty (a ∷ b ∷ c ∷ d ∷ e ∷ f ∷ more) rest l ok s = absurd ok

pub marks-again : (p : Plan) → Again (marks_at p.shape.n) (marks_text p) (AreMarks p.shape.n) IsSpaced
marks-again p = record { read = λ m rest ok s. read_marks p m.dirty m.pending rest ok.0 ok.1 s }
