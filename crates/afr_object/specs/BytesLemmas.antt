-- What a byte of a file is after each call, in lemmas that the proofs of other crates can cite.
use Rattle.std.proofs.Common.{◌≡◌, ℕ, suc, ◌+◌, ◌-◌, ◌<◌, ◌≤◌, min, max, true, false, List, [], ◌∷◌, ◌++◌, length, get_or, take, drop, refl, append_assoc, ap, sym, ◌∙◌, ◌⊎◌, inl, inr, arith, leb, ltb, if◌then◌else◌}
use Rattle.std.proofs.lemmas.List.{length-take, length-drop, length-append, length-replicate, get_or-replicate, get_or_append_left, get_or-append_right, get_or-take, get_or-drop, get_or_past}
use Rattle.std.proofs.lemmas.Bool.{cases_lt}
use Rattle.std.proofs.lemmas.Bool.Decides.{leb_tells, nat_tests}
use Rattle.afr_object.specs.Bytes.{zeros, padded, written, zeroed, copied_in, byte_at, is_within}

-- So many zeros are a list of that length.
length-zeros : (n : ℕ) → length (zeros n) ≡ n
length-zeros n = length-replicate {A = ℕ} n 0

-- A list of zeros reads as 0 everywhere.
byte_at-zeros : (i n : ℕ) → byte_at i (zeros n) ≡ 0
byte_at-zeros i n = elim (cases_lt i n) [ inl h ↦ get_or-replicate {A = ℕ} n i 0 0 h | inr h ↦ get_or_past (zeros n) i 0 (omega (arith, length-zeros n)) ]

-- Of three parts in a row, the first being the list's own, the first keeps the list's bytes.
front : (xs ms ys : List ℕ) (at i : ℕ) → i < at → i < length xs → byte_at i (take at xs ++ ms ++ ys) ≡ byte_at i xs
front xs ms ys at i h k =
    rw (append_assoc (take at xs) ms ys)
    (get_or_append_left (take at xs) (ms ++ ys) 0 i (omega (arith, length-take at xs)) ∙ get_or-take at xs i 0 h)

-- The middle part gives its own bytes.
middle : (xs ms ys : List ℕ) (at i : ℕ) → at ≤ i → i < at + length ms → at ≤ length xs → byte_at i (take at xs ++ ms ++ ys) ≡ byte_at (i - at) ms
middle xs ms ys at i h k l =
    rw (append_assoc (take at xs) ms ys)
    (get_or-append_right (take at xs) (ms ++ ys) at i 0 (omega (arith, length-take at xs)) h ∙ get_or_append_left ms ys 0 (i - at) (omega arith))

-- The last part, if it is the list's own in its place, keeps the list's bytes.
back : (xs ms : List ℕ) (at e i : ℕ) → at + length ms ≡ e → e ≤ i → at ≤ length xs → byte_at i (take at xs ++ ms ++ drop e xs) ≡ byte_at i xs
back xs ms at e i m h l =
    get_or-append_right (take at xs ++ ms) (drop e xs) e i 0 (omega (arith, length-append (take at xs) ms, length-take at xs)) h
    ∙ get_or-drop e xs (i - e) 0
    ∙ ap (λ (k : ℕ). get_or xs k 0) (let same : e + (i - e) ≡ i = omega arith in same)

-- The length of the three parts.
length-joined : (xs ms : List ℕ) (at e : ℕ) → length (take at xs ++ ms ++ drop e xs) ≡ min at (length xs) + length ms + (length xs - e)
length-joined xs ms at e = omega (arith, length-append (take at xs ++ ms) (drop e xs), length-append (take at xs) ms, length-take at xs, length-drop e xs)

-- Zeros behind a file change no byte, since a byte past the end counts as 0.
pub byte_at-padded : (i n : ℕ) (old : List ℕ) → byte_at i (padded n old) ≡ byte_at i old
byte_at-padded i n old = elim (cases_lt i (length old)) [
  | inl h ↦ get_or_append_left old (zeros (n - length old)) 0 i h
  | inr h ↦ get_or-append_right old (zeros (n - length old)) (length old) i 0 refl h ∙ byte_at-zeros (i - length old) (n - length old) ∙ sym (get_or_past old i 0 h)
]

-- Padding lengthens a file to the length asked for, and never shortens it.
pub length-padded : (n : ℕ) (old : List ℕ) → length (padded n old) ≡ max (length old) n
length-padded n old = omega (arith, length-append old (zeros (n - length old)), length-zeros (n - length old))

-- A write leaves its bytes in its range.
pub byte_at-written_inside : (i at : ℕ) (bytes old : List ℕ) → at ≤ i → i < at + length bytes → byte_at i (written at bytes old) ≡ byte_at (i - at) bytes
byte_at-written_inside i at [] old h k = absurd (omega arith)
byte_at-written_inside i at (b ∷ bs) old h k =
    let e : ℕ = at + length (b ∷ bs) in
    middle (padded e old) (b ∷ bs) (drop e (padded e old)) at i h k (omega (arith, length-padded (at + length (b ∷ bs)) old))

-- Before its range a write changes no byte.
pub byte_at-written_before : (i at : ℕ) (bytes old : List ℕ) → i < at → byte_at i (written at bytes old) ≡ byte_at i old
byte_at-written_before i at [] old h = refl
byte_at-written_before i at (b ∷ bs) old h =
    let e : ℕ = at + length (b ∷ bs) in
    front (padded e old) (b ∷ bs) (drop e (padded e old)) at i h (omega (arith, length-padded (at + length (b ∷ bs)) old)) ∙ byte_at-padded i e old

-- Past its range a write changes no byte.
pub byte_at-written_after : (i at : ℕ) (bytes old : List ℕ) → at + length bytes ≤ i → byte_at i (written at bytes old) ≡ byte_at i old
byte_at-written_after i at [] old h = refl
byte_at-written_after i at (b ∷ bs) old h =
    let e : ℕ = at + length (b ∷ bs) in
    back (padded e old) (b ∷ bs) at e i refl h (omega (arith, length-padded (at + length (b ∷ bs)) old)) ∙ byte_at-padded i e old

-- A write of some bytes reaches at least their end.
pub length-written : (at : ℕ) (bytes old : List ℕ) → 0 < length bytes → length (written at bytes old) ≡ max (length old) (at + length bytes)
length-written at [] old h = absurd (omega arith)
length-written at (b ∷ bs) old h =
    let e : ℕ = at + length (b ∷ bs) in
    length-joined (padded e old) (b ∷ bs) at e ∙ omega (arith, length-padded (at + length (b ∷ bs)) old)

-- Zeroing keeps the length.
pub length-zeroed : (from to : ℕ) (bytes : List ℕ) → length (zeroed from to bytes) ≡ length bytes
length-zeroed from to bytes = length-joined bytes (zeros (min to (length bytes) - from)) from (max from to) ∙ omega (arith, length-zeros (min to (length bytes) - from))

-- Copying in reaches as far as the write of its bytes does.
pub length-copied_in : (at span : ℕ) (bytes old : List ℕ) → length (copied_in at span bytes old) ≡ length (written at bytes old)
length-copied_in at span bytes old = length-zeroed (at + length bytes) (at + span) (written at bytes old)

-- In its range zeroing leaves zeros.
pub byte_at-zeroed_inside : (i from to : ℕ) (bytes : List ℕ) → from ≤ i → i < to → byte_at i (zeroed from to bytes) ≡ 0
byte_at-zeroed_inside i from to bytes h k = elim (cases_lt i (length bytes)) [
  | inl l ↦ middle bytes (zeros (min to (length bytes) - from)) (drop (max from to) bytes) from i h (omega (arith, length-zeros (min to (length bytes) - from))) (omega arith) ∙ byte_at-zeros (i - from) (min to (length bytes) - from)
  | inr l ↦ get_or_past (zeroed from to bytes) i 0 (omega (arith, length-zeroed from to bytes))
]

-- Before its range zeroing changes no byte.
pub byte_at-zeroed_before : (i from to : ℕ) (bytes : List ℕ) → i < from → byte_at i (zeroed from to bytes) ≡ byte_at i bytes
byte_at-zeroed_before i from to bytes h = elim (cases_lt i (length bytes)) [
  | inl l ↦ front bytes (zeros (min to (length bytes) - from)) (drop (max from to) bytes) from i h l
  | inr l ↦ get_or_past (zeroed from to bytes) i 0 (omega (arith, length-zeroed from to bytes)) ∙ sym (get_or_past bytes i 0 l)
]

-- Past its range zeroing changes no byte.
pub byte_at-zeroed_after : (i from to : ℕ) (bytes : List ℕ) → from ≤ i → to ≤ i → byte_at i (zeroed from to bytes) ≡ byte_at i bytes
byte_at-zeroed_after i from to bytes h k = elim (cases_lt i (length bytes)) [
  | inl l ↦ back bytes (zeros (min to (length bytes) - from)) from (max from to) i (omega (arith, length-zeros (min to (length bytes) - from))) (omega arith) (omega arith)
  | inr l ↦ get_or_past (zeroed from to bytes) i 0 (omega (arith, length-zeroed from to bytes)) ∙ sym (get_or_past bytes i 0 l)
]

-- A test for a range says on which side a place lies.
pub is_within_tells : (at n i : ℕ) → ((is_within at n i ≡ true) × (at ≤ i) × (i < at + n)) ⊎ ((is_within at n i ≡ false) × ((i < at) ⊎ (at + n ≤ i)))
is_within_tells at n i = grind (arith, nat_tests)

-- After a write each byte of its range is one of its bytes, and each other byte is what it was.
pub byte_at-written : (i at : ℕ) (bytes old : List ℕ) → byte_at i (written at bytes old) ≡ if is_within at (length bytes) i then byte_at (i - at) bytes else byte_at i old
byte_at-written i at bytes old = by_side (is_within_tells at (length bytes) i)
  where
    by_side : ((is_within at (length bytes) i ≡ true) × (at ≤ i) × (i < at + length bytes)) ⊎ ((is_within at (length bytes) i ≡ false) × ((i < at) ⊎ (at + length bytes ≤ i))) → byte_at i (written at bytes old) ≡ if is_within at (length bytes) i then byte_at (i - at) bytes else byte_at i old
    by_side (inl (e, h, k)) = rw e (byte_at-written_inside i at bytes old h k)
    by_side (inr (e, inl h)) = rw e (byte_at-written_before i at bytes old h)
    by_side (inr (e, inr h)) = rw e (byte_at-written_after i at bytes old h)

-- A cut leaves each byte below the length, and no other.
pub byte_at-take : (i len : ℕ) (old : List ℕ) → byte_at i (take len old) ≡ if ltb i len then byte_at i old else 0
byte_at-take i len old = by_side (leb_tells (suc i) len)
  where
    by_side : ((leb (suc i) len ≡ true) × (suc i ≤ len)) ⊎ ((leb (suc i) len ≡ false) × (len < suc i)) → byte_at i (take len old) ≡ if ltb i len then byte_at i old else 0
    by_side (inl (e, h)) = rw e (get_or-take len old i 0 h)
    by_side (inr (e, h)) = rw e (get_or_past (take len old) i 0 (omega (arith, length-take len old)))

-- After copying in, each byte of the range is one of the bytes, the rest of the span is 0, and each other byte is what it was.
pub byte_at-copied_in : (i at span : ℕ) (bytes old : List ℕ) → byte_at i (copied_in at span bytes old) ≡ if is_within at (length bytes) i then byte_at (i - at) bytes else if is_within at span i then 0 else byte_at i old
byte_at-copied_in i at span bytes old = by_side (is_within_tells at (length bytes) i) (is_within_tells at span i)
  where
    by_side : ((is_within at (length bytes) i ≡ true) × (at ≤ i) × (i < at + length bytes)) ⊎ ((is_within at (length bytes) i ≡ false) × ((i < at) ⊎ (at + length bytes ≤ i)))
        → ((is_within at span i ≡ true) × (at ≤ i) × (i < at + span)) ⊎ ((is_within at span i ≡ false) × ((i < at) ⊎ (at + span ≤ i)))
        → byte_at i (copied_in at span bytes old) ≡ if is_within at (length bytes) i then byte_at (i - at) bytes else if is_within at span i then 0 else byte_at i old
    by_side (inl (e, h, k)) t = rw e (byte_at-zeroed_before i (at + length bytes) (at + span) (written at bytes old) k ∙ byte_at-written_inside i at bytes old h k)
    by_side (inr (e, inl h)) (inl (f, k, l)) = absurd (omega arith)
    by_side (inr (e, inr h)) (inl (f, k, l)) = rw (e, f) (byte_at-zeroed_inside i (at + length bytes) (at + span) (written at bytes old) h l)
    by_side (inr (e, inl h)) (inr (f, k)) = rw (e, f) (byte_at-zeroed_before i (at + length bytes) (at + span) (written at bytes old) (omega arith) ∙ byte_at-written_before i at bytes old h)
    by_side (inr (e, inr h)) (inr (f, inl k)) = absurd (omega arith)
    by_side (inr (e, inr h)) (inr (f, inr k)) = rw (e, f) (byte_at-zeroed_after i (at + length bytes) (at + span) (written at bytes old) h k ∙ byte_at-written_after i at bytes old h)
