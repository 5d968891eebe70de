-- The positions of merged lists, placed by their bricks, are printed in the order in which they stood.
use Rattle.std.proofs.Common.{◌≡◌, ℕ, zero, suc, ◌+◌, ◌<◌, ◌≤◌, ◌&&◌, ◌∷◌, [], ◌++◌, List, length, Option, Some, None, refl, sym, ap, subst, ◌∙◌, arith, Bool, true, false, append_assoc}
use Rattle.std.specs.Prelude.{nat_le, nat_lt, option_map, slice_set, if◌then◌else◌}
use Rattle.std.proofs.lemmas.Bool.Decides.{nat_tests}
use Rattle.std.proofs.lemmas.List.{append-nil, length-set}
use Rattle.afr_base.specs.declared.ids.Gfid.{Gfid}
use Rattle.afr_lines.specs.Log.{from_oldest}
use Rattle.afr_lines.specs.declared.line.Line.{Line}
use Rattle.afr_lines.specs.declared.request.Request.{Request}
use Rattle.afr_lines.specs.declared.request.Request.TheVariants as request
use Rattle.afr_object.specs.declared.change.Repair.TheVariants as repair
use Rattle.afr_plan.specs.declared.plan.Plan.{Plan}
use Rattle.afr_report_trace.specs.Numbers.{given}
use Rattle.afr_trace_build.specs.Requests.{listed_brick, no_slots, placed_reads, with_brick}
use Rattle.afr_trace_read.specs.Fit.{AreFirst, AreNone, AreReads}
use Rattle.afr_trace_read.specs.Stands.{asked_of, filled, reads_from}
use Rattle.afr_trace_read.specs.declared.kinds.SpelledRequest.TheVariants as asked

-- ---- places from one on are free
abbrev AreFree : ℕ → List (Option ℕ) → Type 0
AreFree n [] = Unit {0}
AreFree zero (s ∷ slots) = (s ≡ None) × AreFree zero slots
AreFree (suc n) (s ∷ slots) = AreFree n slots

none_given : (slots : List (Option ℕ)) → AreFree 0 slots → given slots ≡ []
none_given [] h = refl
none_given (s ∷ slots) h = ap (λ (o : Option ℕ). given (o ∷ slots)) h.0 ∙ none_given slots h.1

put_given : (n b k : ℕ) (slots : List (Option ℕ)) → n ≤ b → b < length slots → AreFree n slots → given (slice_set slots b (Some k)) ≡ given slots ++ k ∷ []
put_given n b k [] l m h = absurd (omega (arith, m))
put_given zero zero k (s ∷ slots) l m h = ap (λ (t : List ℕ). k ∷ t) (none_given slots h.1) ∙ ap (λ (t : List ℕ). t ++ k ∷ []) (sym (none_given (s ∷ slots) h))
put_given zero (suc b) k (None ∷ slots) l m h = put_given zero b k slots (omega arith) (omega (arith, m)) h.1
put_given zero (suc b) k (Some x ∷ slots) l m h = absurd (let e : Some x ≡ None = h.0 in cc e)
put_given (suc n) zero k (s ∷ slots) l m h = absurd (omega (arith, l))
put_given (suc n) (suc b) k (None ∷ slots) l m h = put_given n b k slots (omega (arith, l)) (omega (arith, m)) h
put_given (suc n) (suc b) k (Some x ∷ slots) l m h = ap (λ (t : List ℕ). x ∷ t) (put_given n b k slots (omega (arith, l)) (omega (arith, m)) h)

put_free : (n b k : ℕ) (slots : List (Option ℕ)) → n ≤ b → b < length slots → AreFree n slots → AreFree (suc b) (slice_set slots b (Some k))
put_free n b k [] l m h = absurd (omega (arith, m))
put_free zero zero k (s ∷ slots) l m h = h.1
put_free zero (suc b) k (s ∷ slots) l m h = put_free zero b k slots (omega arith) (omega (arith, m)) h.1
put_free (suc n) zero k (s ∷ slots) l m h = absurd (omega (arith, l))
put_free (suc n) (suc b) k (s ∷ slots) l m h = put_free n b k slots (omega (arith, l)) (omega (arith, m)) h

-- ---- placed
one_placed : (older : List Line) (n k : ℕ) (slots slots' reads : List (Option ℕ)) (o : Option ℕ) → AreFree n slots → length slots ≡ 5
    → ((m : ℕ) (more : List (Option ℕ)) → AreFree m more → length more ≡ 5 → placed_reads older m more reads ≡ Some slots' → given slots' ≡ given more ++ given reads)
    → with_brick n k slots o (λ b more. placed_reads older (b + 1) more reads) ≡ Some slots' → given slots' ≡ given slots ++ k ∷ given reads
one_placed older n k slots slots' reads None h long rec e = absurd (cc e)
one_placed older n k slots slots' reads (Some b) h long rec e = step (nat_le n b && nat_lt b 5) refl e
  where
    step : (ok : Bool) → (nat_le n b && nat_lt b 5) ≡ ok → (if ok then placed_reads older (b + 1) (slice_set slots b (Some k)) reads else None) ≡ Some slots' → given slots' ≡ given slots ++ k ∷ given reads
    step false t f = absurd (cc f)
    step true t f =
        let low : n ≤ b = grind (arith, nat_tests, t) in
        let high : b < 5 = grind (arith, nat_tests, t) in
        let next : suc b ≡ b + 1 = omega arith in
        let free : AreFree (b + 1) (slice_set slots b (Some k)) = subst (λ (m : ℕ). AreFree m (slice_set slots b (Some k))) next (put_free n b k slots low (omega (arith, high, long)) h) in
        let same : length (slice_set slots b (Some k)) ≡ 5 = omega (arith, length-set slots b (Some k), long) in
        rec (b + 1) (slice_set slots b (Some k)) free same f ∙ ap (λ (t : List ℕ). t ++ given reads) (put_given n b k slots low (omega (arith, high, long)) h) ∙ append_assoc (given slots) (k ∷ []) (given reads)

placed_given : (older : List Line) (slots' reads : List (Option ℕ)) (n : ℕ) (slots : List (Option ℕ)) → AreFree n slots → length slots ≡ 5 → placed_reads older n slots reads ≡ Some slots' → given slots' ≡ given slots ++ given reads
placed_given older slots' [] n slots h long e = let f : slots' ≡ slots = cc in ap given f ∙ sym (append-nil (given slots))
placed_given older slots' (None ∷ reads) n slots h long e = placed_given older slots' reads n slots h long e
placed_given older slots' (Some k ∷ reads) n slots h long e = one_placed older n k slots slots' reads (listed_brick (from_oldest k older)) h long (placed_given older slots' reads) e

-- ---- printed again
none_back : (xs : List (Option ℕ)) → AreNone xs → (given xs ≡ []) × (filled (length xs) [] ≡ xs)
none_back [] h = (refl, refl)
none_back (None ∷ xs) h = let u = none_back xs h in (u.0, ap (λ (t : List (Option ℕ)). None ∷ t) u.1)
none_back (Some n ∷ xs) h = absurd h

first_back : (xs : List (Option ℕ)) → AreFirst xs → filled (length xs) (given xs) ≡ xs
first_back [] h = refl
first_back (None ∷ xs) h =
    let u = none_back xs h in
    ap (filled (suc (length xs))) u.0 ∙ ap (λ (t : List (Option ℕ)). None ∷ t) u.1
first_back (Some n ∷ xs) h = ap (λ (t : List (Option ℕ)). Some n ∷ t) (first_back xs h.1)

few_given : (xs : List (Option ℕ)) → length (given xs) ≤ length xs
few_given [] = omega arith
few_given (None ∷ xs) = omega (arith, few_given xs)
few_given (Some n ∷ xs) = omega (arith, few_given xs)

reads_back : (reads : List (Option ℕ)) → AreReads reads → reads_from (given reads) ≡ Some reads
reads_back (Some n ∷ a ∷ b ∷ c ∷ d ∷ []) ok =
    let xs : List (Option ℕ) = a ∷ b ∷ c ∷ d ∷ [] in
    let few : length (given xs) ≤ length xs = few_given xs in
    let t : nat_le (length (given xs)) 4 ≡ true = grind (arith, nat_tests, few) in
    rw t (ap (λ (l : List (Option ℕ)). Some (Some n ∷ l)) (first_back xs ok.1))
reads_back other ok = absurd ok

pub merged_so : (p : Plan) (older : List Line) (g : Gfid) (reads : List (Option ℕ)) (r : Request) → AreReads reads → option_map (λ (slots : List (Option ℕ)). request.Mend (repair.PutNames g slots)) (placed_reads older 0 no_slots reads) ≡ Some r → asked_of p r ≡ Some (asked.PutNames g reads)
merged_so p older g reads r ok e = step (placed_reads older 0 no_slots reads) refl e
  where
    step : (o : Option (List (Option ℕ))) → placed_reads older 0 no_slots reads ≡ o → option_map (λ (slots : List (Option ℕ)). request.Mend (repair.PutNames g slots)) o ≡ Some r → asked_of p r ≡ Some (asked.PutNames g reads)
    step None s f = absurd (cc f)
    step (Some slots) s f =
        let same : request.Mend (repair.PutNames g slots) ≡ r = cc in
        let again : given slots ≡ given reads = placed_given older slots reads 0 no_slots (refl, (refl, (refl, (refl, (refl, tt))))) refl s in
        let back : reads_from (given slots) ≡ Some reads = ap reads_from again ∙ reads_back reads ok in
        subst (λ (z : Request). asked_of p z ≡ Some (asked.PutNames g reads)) same (ap (option_map (asked.PutNames g)) back)
