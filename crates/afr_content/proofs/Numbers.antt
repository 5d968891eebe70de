-- Which pages are there after each call.
use Rattle.std.proofs.Common.{◌≡◌, ℕ, zero, suc, ◌+◌, ◌-◌, ◌*◌, ◌/◌, ◌%◌, ◌<◌, ◌≤◌, ◌↔◌, max, Bool, true, false, ◌&&◌, ◌||◌, List, [], length, refl, ap, sym, ◌∙◌, ◌⊎◌, inl, inr, arith, ltb, if◌then◌else◌}
use Rattle.std.proofs.lemmas.Bool.{cases_lt, cases_eq, lt-ltb, le-ltb, eq-eqb, ne_eqb, ltb-false}
use Rattle.std.proofs.lemmas.Bool.Decides.{nat_tests}
use Rattle.std.proofs.lemmas.List.{length-take, get_or_past}
use Rattle.std.specs.Cmp.{nat_cmp_total, unsigned_tied}
use Rattle.std.specs.FinSet.{contains, empty, insert, contains-empty, contains-insert}
use Rattle.std.specs.Ordering.{nat_cmp}
use Rattle.afr_object.specs.BytesLemmas.{length-written, length-zeroed}
use Rattle.afr_content.specs.FileContent.{reaches}
use Rattle.afr_content.specs.Kept.{IsFile, byte_in, is_there, numbers_below, start_in, end_in, part, overlaid, cleared, shortened}
use Rattle.afr_content.proofs.Places.{length-part, overlaid_none}

-- Another number than n is below n if it is below the next.
later : (q n : ℕ) → (q ≡ n → ⊥) → ltb q n ≡ ltb q (suc n)
later q n other = grind (arith, nat_tests)

-- A number is among those below n of the pages that are there if it is below n and its page is there.
contains-numbers_below : (n : ℕ) (pages : ℕ → List ℕ) (q : ℕ) → contains (numbers_below n pages) q ≡ (ltb q n && is_there pages q)
unfolding numbers_below
contains-numbers_below zero pages q = contains-empty nat_cmp q ∙ ap (λ (b : Bool). b && is_there pages q) (sym (le-ltb q 0 (omega arith)))
contains-numbers_below (suc n) pages q = by_case (is_there pages n) refl (cases_eq q n) (contains-numbers_below n pages q)
  where
    by_case : (there : Bool) → is_there pages n ≡ there → (q ≡ n) ⊎ (q ≡ n → ⊥) → contains (numbers_below n pages) q ≡ (ltb q n && is_there pages q)
        → contains (if there then insert (numbers_below n pages) n else numbers_below n pages) q ≡ (ltb q (suc n) && is_there pages q)
    by_case true e (inl same) below = rw (contains-insert nat_cmp_total (numbers_below n pages) n q, unsigned_tied q n, same, e, eq-eqb n n refl, lt-ltb n (suc n) (omega arith)) refl
    by_case true e (inr other) below = rw (contains-insert nat_cmp_total (numbers_below n pages) n q, unsigned_tied q n, ne_eqb q n other, below) (ap (λ (b : Bool). b && is_there pages q) (later q n other))
    by_case false e (inl same) below = rw below (rw (same, e, le-ltb n n (omega arith), lt-ltb n (suc n) (omega arith)) refl)
    by_case false e (inr other) below = rw below (ap (λ (b : Bool). b && is_there pages q) (later q n other))

-- Which pages are there decides which numbers are.
pub numbers_below-same : (n : ℕ) (pages others : ℕ → List ℕ) → ((q : ℕ) → is_there others q ≡ is_there pages q) → numbers_below n others ≡ numbers_below n pages
unfolding numbers_below
numbers_below-same zero pages others same = refl
numbers_below-same (suc n) pages others same = rw (same n, numbers_below-same n pages others same) refl

-- No page is there where none keeps a byte.
pub numbers_below-none : (n : ℕ) (pages : ℕ → List ℕ) → ((q : ℕ) → pages q ≡ []) → numbers_below n pages ≡ empty
unfolding numbers_below
numbers_below-none zero pages none = refl
numbers_below-none (suc n) pages none = rw (none n) (numbers_below-none n pages none)

-- Every page of a file has a number below 256.
pub contains-numbers : (len : ℕ) (pages : ℕ → List ℕ) → IsFile len pages → (q : ℕ) → contains (numbers_below 256 pages) q ≡ is_there pages q
contains-numbers len pages file q = contains-numbers_below 256 pages q ∙ by_case (cases_lt q 256) (cases_lt 0 (length (pages q)))
  where
    by_case : (q < 256) ⊎ (256 ≤ q) → (0 < length (pages q)) ⊎ (length (pages q) ≤ 0) → (ltb q 256 && is_there pages q) ≡ is_there pages q
    by_case (inl h) k = rw (lt-ltb q 256 h) refl
    by_case (inr h) (inl k) = absurd (omega (arith, file.few, file.within q k))
    by_case (inr h) (inr k) = rw (le-ltb q 256 h, le-ltb 0 (length (pages q)) k) refl

-- Each byte of a page that isn't there is 0.
pub byte_in_absent : (pages : ℕ → List ℕ) (q i : ℕ) → is_there pages q ≡ false → i / 4096 ≡ q → byte_in pages i ≡ 0
byte_in_absent pages q i none e = get_or_past (pages (i / 4096)) (i % 4096) 0 (rw e (let small : length (pages q) ≤ 0 = ltb-false 0 (length (pages q)) none in omega arith))

-- A write adds the pages that it reaches.
pub is_there-overlaid : (at : ℕ) (bytes : List ℕ) (pages : ℕ → List ℕ) (q : ℕ) → is_there (overlaid at bytes pages) q ≡ (is_there pages q || reaches at (at + length bytes) q)
is_there-overlaid at bytes pages q = by_case (cases_lt (start_in at q) (end_in (at + length bytes) q))
  where
    by_case : (start_in at q < end_in (at + length bytes) q) ⊎ (end_in (at + length bytes) q ≤ start_in at q) → is_there (overlaid at bytes pages) q ≡ (is_there pages q || reaches at (at + length bytes) q)
    by_case (inl h) =
        let some : 0 < length (overlaid at bytes pages q) = omega (arith, length-written (start_in at q - q * 4096) (part at bytes q) (pages q) (omega (arith, length-part at bytes q)), length-part at bytes q) in
        rw (lt-ltb 0 (length (overlaid at bytes pages q)) some)
        (reached (is_there pages q) (lt-ltb at (at + length bytes) (omega arith)) (lt-ltb at (q * 4096 + 4096) (omega arith)) (lt-ltb (q * 4096) (at + length bytes) (omega arith)))
      where
        reached : (b : Bool) → ltb at (at + length bytes) ≡ true → ltb at (q * 4096 + 4096) ≡ true → ltb (q * 4096) (at + length bytes) ≡ true → true ≡ (b || reaches at (at + length bytes) q)
        reached true e f g = refl
        reached false e f g = rw (e, f, g) refl
    by_case (inr h) = rw (overlaid_none at bytes pages q h) (missed (is_there pages q) (reaches at (at + length bytes) q) (apart (cases_lt at (at + length bytes)) (cases_lt at (q * 4096 + 4096))))
      where
        missed : (b r : Bool) → r ≡ false → b ≡ (b || r)
        missed true r e = refl
        missed false r e = sym e

        apart : (at < at + length bytes) ⊎ (at + length bytes ≤ at) → (at < q * 4096 + 4096) ⊎ (q * 4096 + 4096 ≤ at) → reaches at (at + length bytes) q ≡ false
        apart (inr k) l = rw (le-ltb at (at + length bytes) k) refl
        apart (inl k) (inr l) = rw (lt-ltb at (at + length bytes) k, le-ltb at (q * 4096 + 4096) l) refl
        apart (inl k) (inl l) = rw (lt-ltb at (at + length bytes) k, lt-ltb at (q * 4096 + 4096) l) (le-ltb (q * 4096) (at + length bytes) (omega arith))

-- Zeros neither add a page nor drop one.
pub is_there-cleared : (from to : ℕ) (pages : ℕ → List ℕ) (q : ℕ) → is_there (cleared from to pages) q ≡ is_there pages q
is_there-cleared from to pages q = ap (λ (n : ℕ). ltb 0 n) (length-zeroed (from - q * 4096) (to - q * 4096) (pages q))

-- A cut keeps the pages that begin before the new end.
pub is_there-shortened : (len : ℕ) (pages : ℕ → List ℕ) (q : ℕ) → is_there (shortened len pages) q ≡ (is_there pages q && ltb (q * 4096) len)
is_there-shortened len pages q = by_case (cases_lt (q * 4096) len) (cases_lt 0 (length (pages q)))
  where
    by_case : (q * 4096 < len) ⊎ (len ≤ q * 4096) → (0 < length (pages q)) ⊎ (length (pages q) ≤ 0) → is_there (shortened len pages) q ≡ (is_there pages q && ltb (q * 4096) len)
    by_case (inl h) (inl k) = rw (lt-ltb (q * 4096) len h, lt-ltb 0 (length (pages q)) k) (lt-ltb 0 (length (shortened len pages q)) (omega (arith, length-take (len - q * 4096) (pages q))))
    by_case (inl h) (inr k) = rw (lt-ltb (q * 4096) len h, le-ltb 0 (length (pages q)) k) (le-ltb 0 (length (shortened len pages q)) (omega (arith, length-take (len - q * 4096) (pages q))))
    by_case (inr h) (inl k) = rw (le-ltb (q * 4096) len h, lt-ltb 0 (length (pages q)) k) (le-ltb 0 (length (shortened len pages q)) (omega (arith, length-take (len - q * 4096) (pages q))))
    by_case (inr h) (inr k) = rw (le-ltb (q * 4096) len h, le-ltb 0 (length (pages q)) k) (le-ltb 0 (length (shortened len pages q)) (omega (arith, length-take (len - q * 4096) (pages q))))

-- A span reaches a page exactly where one of its bytes lies there.
pub reaches_a_byte : (from to number : ℕ) → (reaches from to number ≡ true) ↔ ((i : ℕ) × (from ≤ i) × (i < to) × (i / 4096 ≡ number))
reaches_a_byte from to number = (there, back)
  where
    there : reaches from to number ≡ true → (i : ℕ) × (from ≤ i) × (i < to) × (i / 4096 ≡ number)
    there e =
        let some : from < to = grind (arith, nat_tests, e) in
        let before : from < number * 4096 + 4096 = grind (arith, nat_tests, e) in
        let after : number * 4096 < to = grind (arith, nat_tests, e) in
        (max from (number * 4096), omega arith, omega arith, omega arith)

    back : (i : ℕ) × (from ≤ i) × (i < to) × (i / 4096 ≡ number) → reaches from to number ≡ true
    back n =
        let some : from < to = omega arith in
        let before : from < number * 4096 + 4096 = omega arith in
        let after : number * 4096 < to = omega arith in
        rw (lt-ltb from to some, lt-ltb from (number * 4096 + 4096) before, lt-ltb (number * 4096) to after) refl
