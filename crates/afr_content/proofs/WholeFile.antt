-- A file's bytes as a whole after each call, and that its pages stay those of a file.
use Rattle.std.proofs.Common.{◌≡◌, ℕ, ◌+◌, ◌-◌, ◌*◌, ◌/◌, ◌%◌, ◌<◌, ◌≤◌, max, List, [], length, take, ap, sym, ◌∙◌, ◌⊎◌, inl, inr, arith, ltb, if◌then◌else◌}
use Rattle.std.proofs.lemmas.Bool.{cases_lt}
use Rattle.std.proofs.lemmas.List.{length-take, get_or_past}
use Rattle.std.proofs.lemmas.List.FromFn.{fill_by_all, length-map-range_with_len, get_or-map-range_with_len}
use Rattle.afr_object.specs.Bytes.{written, zeroed, byte_at, is_within}
use Rattle.afr_object.specs.BytesLemmas.{byte_at-written, byte_at-take, byte_at-zeroed_inside, byte_at-zeroed_before, byte_at-zeroed_after, length-written, length-zeroed}
use Rattle.afr_content.specs.Kept.{IsFile, PageBytes, kept, byte_in, bytes_below, start_in, end_in, part, overlaid, cleared, shortened}
use Rattle.afr_content.proofs.Places.{length-part, overlaid_none, byte_in-overlaid, byte_in-cleared_inside, byte_in-cleared_before, byte_in-cleared_after, byte_in-shortened}

-- Past a file's end its pages read as 0.
byte_in_past : (len : ℕ) (pages : ℕ → List ℕ) → IsFile len pages → (i : ℕ) → len ≤ i → byte_in pages i ≡ 0
byte_in_past len pages file i h = get_or_past (pages (i / 4096)) (i % 4096) 0 (by_side (cases_lt 0 (length (pages (i / 4096)))))
  where
    by_side : (0 < length (pages (i / 4096))) ⊎ (length (pages (i / 4096)) ≤ 0) → length (pages (i / 4096)) ≤ i % 4096
    by_side (inl k) = omega (arith, file.within (i / 4096) k)
    by_side (inr k) = omega arith

pub length-bytes_below : (len : ℕ) (pages : ℕ → List ℕ) → length (bytes_below len pages) ≡ len
length-bytes_below len pages = length-map-range_with_len (byte_in pages) 0 len

-- Each byte of a file is the byte in its pages.
pub byte_at-bytes_below : (len : ℕ) (pages : ℕ → List ℕ) → IsFile len pages → (i : ℕ) → byte_at i (bytes_below len pages) ≡ byte_in pages i
byte_at-bytes_below len pages file i = by_side (cases_lt i len)
  where
    by_side : (i < len) ⊎ (len ≤ i) → byte_at i (bytes_below len pages) ≡ byte_in pages i
    by_side (inl h) = get_or-map-range_with_len (byte_in pages) 0 len i i 0 h (let same : 0 + i ≡ i = omega arith in same)
    by_side (inr h) = get_or_past (bytes_below len pages) i 0 (omega (arith, length-bytes_below len pages)) ∙ sym (byte_in_past len pages file i h)

-- Bytes of that length, each of which is the byte in the pages, are the file's.
pub bytes_below-is : (len : ℕ) (pages : ℕ → List ℕ) (xs : List ℕ) → length xs ≡ len → ((i : ℕ) → i < len → byte_at i xs ≡ byte_in pages i) → bytes_below len pages ≡ xs
bytes_below-is len pages xs e each = sym (fill_by_all (byte_in pages) xs len 0 e each)

-- Pages that keep what those of a file keep are those of a file.
pub IsFile-same : (len : ℕ) (pages others : ℕ → List ℕ) → others ≡ pages → IsFile len pages → IsFile len others
IsFile-same len pages others same file = rw same file

module _ (len : ℕ) (pages : ℕ → List ℕ) (file : IsFile len pages) where
  pub bytes-written : (at : ℕ) (bytes : List ℕ) → 0 < length bytes → bytes_below (max len (at + length bytes)) (overlaid at bytes pages) ≡ written at bytes (bytes_below len pages)
  bytes-written at bytes some =
      bytes_below-is (max len (at + length bytes)) (overlaid at bytes pages) (written at bytes (bytes_below len pages))
      (length-written at bytes (bytes_below len pages) some ∙ ap (λ (n : ℕ). max n (at + length bytes)) (length-bytes_below len pages))
      (λ i h. byte_at-written i at bytes (bytes_below len pages) ∙ ap (λ (b : ℕ). if is_within at (length bytes) i then byte_at (i - at) bytes else b) (byte_at-bytes_below len pages file i) ∙ sym (byte_in-overlaid at bytes pages i))

  pub bytes-zeroed : (from to : ℕ) → bytes_below len (cleared from to pages) ≡ zeroed from to (bytes_below len pages)
  bytes-zeroed from to =
      bytes_below-is len (cleared from to pages) (zeroed from to (bytes_below len pages))
      (length-zeroed from to (bytes_below len pages) ∙ length-bytes_below len pages)
      (λ i h. each i (cases_lt i from) (cases_lt i to))
    where
      each : (i : ℕ) → (i < from) ⊎ (from ≤ i) → (i < to) ⊎ (to ≤ i) → byte_at i (zeroed from to (bytes_below len pages)) ≡ byte_in (cleared from to pages) i
      each i (inl h) k = byte_at-zeroed_before i from to (bytes_below len pages) h ∙ byte_at-bytes_below len pages file i ∙ sym (byte_in-cleared_before from to pages i h)
      each i (inr h) (inl k) = byte_at-zeroed_inside i from to (bytes_below len pages) h k ∙ sym (byte_in-cleared_inside from to pages i h k)
      each i (inr h) (inr k) = byte_at-zeroed_after i from to (bytes_below len pages) h k ∙ byte_at-bytes_below len pages file i ∙ sym (byte_in-cleared_after from to pages i h k)

  pub bytes-cut : (n : ℕ) → n ≤ len → bytes_below n (shortened n pages) ≡ take n (bytes_below len pages)
  bytes-cut n le =
      bytes_below-is n (shortened n pages) (take n (bytes_below len pages)) (omega (arith, length-take n (bytes_below len pages), length-bytes_below len pages))
      (λ i h. byte_at-take i n (bytes_below len pages) ∙ ap (λ (b : ℕ). if ltb i n then b else 0) (byte_at-bytes_below len pages file i) ∙ sym (byte_in-shortened n pages i))

  -- What a page keeps after a write that reaches it.
  length-overlaid : (at : ℕ) (bytes : List ℕ) (q : ℕ) → start_in at q < end_in (at + length bytes) q → length (overlaid at bytes pages q) ≡ max (length (pages q)) (end_in (at + length bytes) q - q * 4096)
  length-overlaid at bytes q h =
      length-written (start_in at q - q * 4096) (part at bytes q) (pages q) (omega (arith, length-part at bytes q)) ∙ omega (arith, length-part at bytes q)

  pub IsFile-written : (at : ℕ) (bytes : List ℕ) → at + length bytes ≤ 1048576 → IsFile (max len (at + length bytes)) (overlaid at bytes pages)
  IsFile-written at bytes few = record {
    few = omega (arith, file.few);
    short = λ q. short q (cases_lt (start_in at q) (end_in (at + length bytes) q));
    within = λ q. within q (cases_lt (start_in at q) (end_in (at + length bytes) q)) (cases_lt 0 (length (pages q)));
  }
    where
      short : (q : ℕ) → (start_in at q < end_in (at + length bytes) q) ⊎ (end_in (at + length bytes) q ≤ start_in at q) → length (overlaid at bytes pages q) ≤ 4096
      short q (inl h) = omega (arith, length-overlaid at bytes q h, file.short q)
      short q (inr h) = rw (overlaid_none at bytes pages q h) (file.short q)

      within : (q : ℕ) → (start_in at q < end_in (at + length bytes) q) ⊎ (end_in (at + length bytes) q ≤ start_in at q) → (0 < length (pages q)) ⊎ (length (pages q) ≤ 0) → 0 < length (overlaid at bytes pages q) → q * 4096 + length (overlaid at bytes pages q) ≤ max len (at + length bytes)
      within q (inl h) (inl k) l = omega (arith, length-overlaid at bytes q h, file.within q k)
      within q (inl h) (inr k) l = omega (arith, length-overlaid at bytes q h)
      within q (inr h) (inl k) l = omega (arith, ap length (overlaid_none at bytes pages q h), file.within q k)
      within q (inr h) (inr k) l = omega (arith, ap length (overlaid_none at bytes pages q h))

  pub IsFile-zeroed : (from to : ℕ) → IsFile len (cleared from to pages)
  IsFile-zeroed from to = record {
    few = file.few;
    short = λ q. rw (length-zeroed (from - q * 4096) (to - q * 4096) (pages q)) (file.short q);
    within = λ q. rw (length-zeroed (from - q * 4096) (to - q * 4096) (pages q)) (file.within q);
  }

  pub IsFile-cut : (n : ℕ) → n ≤ len → IsFile n (shortened n pages)
  IsFile-cut n le = record {
    few = omega (arith, file.few);
    short = λ q. omega (arith, file.short q, length-take (n - q * 4096) (pages q));
    within = λ q h. omega (arith, file.within q (omega (arith, length-take (n - q * 4096) (pages q))), length-take (n - q * 4096) (pages q));
  }

-- No pages are those of an empty file.
pub no_file : (pages : List (ℕ × PageBytes)) → pages ≡ [] → IsFile 0 (kept pages)
no_file pages none = rw none (record { few = omega arith; short = λ q. omega arith; within = λ q h. absurd (omega arith) })
