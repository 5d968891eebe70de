-- What a caller sees of a file after each call, by what the call leaves in its pages.
use Rattle.std.proofs.Common.{◌≡◌, ℕ, ◌+◌, ◌-◌, ◌*◌, ◌/◌, ◌<◌, ◌≤◌, max, min, Bool, false, ◌&&◌, ◌||◌, List, [], ◌++◌, length, drop, take, refl, ap, sym, ◌∙◌, ◌⊎◌, inl, inr, arith, ltb}
use Rattle.std.proofs.lemmas.Bool.{cases_lt, lt-ltb, le-ltb}
use Rattle.std.proofs.lemmas.List.{append-nil, drop_all, ext_get_or, get_or-drop, get_or-take, length-drop, length-take, take_all}
use Rattle.std.specs.FinSet.{contains}
use Rattle.std.specs.Prelude.{Err, Ok, OnErr, Result}
use Rattle.afr_object.specs.Bytes.{written, zeroed, byte_at}
use Rattle.afr_content.specs.FileContent.{reaches}
use Rattle.afr_content.specs.Kept.{IsFile, bytes_below, byte_in, is_there, numbers_below, overlaid, cleared, shortened}
use Rattle.afr_content.proofs.Numbers.{contains-numbers, numbers_below-same, byte_in_absent, is_there-overlaid, is_there-cleared, is_there-shortened}
use Rattle.afr_content.proofs.WholeFile.{IsFile-same, IsFile-written, IsFile-zeroed, IsFile-cut, bytes-written, bytes-zeroed, bytes-cut, byte_at-bytes_below, length-bytes_below}

-- What holds whatever a call gives holds where it fails.
pub on_err : {T E P : Type 0} (r : Result T E) → P → OnErr r P
on_err (Ok x) p = tt
on_err (Err e) p = p

-- A write.
module _ (len : ℕ) (old new : ℕ → List ℕ) (file : IsFile len old) (at : ℕ) (bytes : List ℕ) (few : at + length bytes ≤ 1048576) (done : (q : ℕ) → new q ≡ overlaid at bytes old q) where
  pages_after_write : new ≡ overlaid at bytes old
  pages_after_write = λ i q. done q i

  pub file_after_write : IsFile (max len (at + length bytes)) new
  file_after_write = IsFile-same (max len (at + length bytes)) (overlaid at bytes old) new pages_after_write (IsFile-written len old file at bytes few)

  pub bytes_after_write : 0 < length bytes → bytes_below (max len (at + length bytes)) new ≡ written at bytes (bytes_below len old)
  bytes_after_write some = ap (bytes_below (max len (at + length bytes))) pages_after_write ∙ bytes-written len old file at bytes some

  pub numbers_after_write : (q : ℕ) → contains (numbers_below 256 new) q ≡ (contains (numbers_below 256 old) q || reaches at (at + length bytes) q)
  numbers_after_write q =
      contains-numbers (max len (at + length bytes)) new file_after_write q
      ∙ ap (λ (f : ℕ → List ℕ). is_there f q) pages_after_write
      ∙ is_there-overlaid at bytes old q
      ∙ ap (λ (b : Bool). b || reaches at (at + length bytes) q) (sym (contains-numbers len old file q))

-- Zeros past the file's end change nothing.
pub zeroed_past : (from to : ℕ) (bytes : List ℕ) → length bytes ≤ from → zeroed from to bytes ≡ bytes
zeroed_past from to bytes past =
    let none : min to (length bytes) - from ≡ 0 = omega (arith, past) in
    rw (take_all from bytes past, none, drop_all (max from to) bytes (omega (arith, past))) (append-nil (bytes ++ []) ∙ append-nil bytes)

-- Zeros.
module _ (len : ℕ) (old new : ℕ → List ℕ) (from to : ℕ) (done : (q : ℕ) → new q ≡ cleared from to old q) where
  pages_after_zero : new ≡ cleared from to old
  pages_after_zero = λ i q. done q i

  pub file_after_zero : IsFile len old → IsFile len new
  file_after_zero file = IsFile-same len (cleared from to old) new pages_after_zero (IsFile-zeroed len old file from to)

  pub bytes_after_zero : IsFile len old → bytes_below len new ≡ zeroed from to (bytes_below len old)
  bytes_after_zero file = ap (bytes_below len) pages_after_zero ∙ bytes-zeroed len old file from to

  pub numbers_after_zero : numbers_below 256 new ≡ numbers_below 256 old
  numbers_after_zero = numbers_below-same 256 old new (λ q. ap (λ (f : ℕ → List ℕ). is_there f q) pages_after_zero ∙ is_there-cleared from to old q)

-- A cut below the file's end.
module _ (len : ℕ) (old new : ℕ → List ℕ) (file : IsFile len old) (n : ℕ) (le : n ≤ len) (done : (q : ℕ) → new q ≡ shortened n old q) where
  pages_after_cut : new ≡ shortened n old
  pages_after_cut = λ i q. done q i

  pub file_after_cut : IsFile n new
  file_after_cut = IsFile-same n (shortened n old) new pages_after_cut (IsFile-cut len old file n le)

  pub bytes_after_cut : bytes_below n new ≡ take n (bytes_below len old)
  bytes_after_cut = ap (bytes_below n) pages_after_cut ∙ bytes-cut len old file n le

  pub numbers_after_cut : (q : ℕ) → contains (numbers_below 256 new) q ≡ (contains (numbers_below 256 old) q && ltb (q * 4096) n)
  numbers_after_cut q =
      contains-numbers n new file_after_cut q
      ∙ ap (λ (f : ℕ → List ℕ). is_there f q) pages_after_cut
      ∙ is_there-shortened n old q
      ∙ ap (λ (b : Bool). b && ltb (q * 4096) n) (sym (contains-numbers len old file q))

module _ (len : ℕ) (pages : ℕ → List ℕ) (file : IsFile len pages) where
  -- A cut at or past the file's end changes no byte.
  pub bytes_after_no_cut : (n : ℕ) → len ≤ n → bytes_below len pages ≡ take n (bytes_below len pages)
  bytes_after_no_cut n le = sym (take_all n (bytes_below len pages) (omega (arith, length-bytes_below len pages)))

  -- It drops no page.
  pub numbers_after_no_cut : (n : ℕ) → len ≤ n → (q : ℕ) → contains (numbers_below 256 pages) q ≡ (contains (numbers_below 256 pages) q && ltb (q * 4096) n)
  numbers_after_no_cut n le q = rw (contains-numbers len pages file q) (by_case (cases_lt 0 (length (pages q))))
    where
      by_case : (0 < length (pages q)) ⊎ (length (pages q) ≤ 0) → is_there pages q ≡ (is_there pages q && ltb (q * 4096) n)
      by_case (inl h) = rw (lt-ltb 0 (length (pages q)) h) (sym (lt-ltb (q * 4096) n (omega (arith, file.within q h))))
      by_case (inr h) = rw (le-ltb 0 (length (pages q)) h) refl

  -- Each byte of a page that isn't there is 0.
  pub zeros_where_absent : (q : ℕ) → is_there pages q ≡ false → (i : ℕ) → i / 4096 ≡ q → byte_at i (bytes_below len pages) ≡ 0
  zeros_where_absent q absent i e = byte_at-bytes_below len pages file i ∙ byte_in_absent pages q i absent e

  -- What a read of that many bytes shows.
  pub bytes_read : (at count : ℕ) (ys : List ℕ) → length ys ≡ count → count ≤ len - at → ((k : ℕ) → k < count → byte_at k ys ≡ byte_in pages (at + k)) → ys ≡ take count (drop at (bytes_below len pages))
  bytes_read at count ys size fits each =
      ext_get_or 0 ys (take count (drop at (bytes_below len pages))) (omega (arith, length-take count (drop at (bytes_below len pages)), length-drop at (bytes_below len pages), length-bytes_below len pages))
      (λ k h. each k (omega arith) ∙ sym (get_or-take count (drop at (bytes_below len pages)) k 0 (omega arith) ∙ get_or-drop at (bytes_below len pages) k 0 ∙ byte_at-bytes_below len pages file (at + k)))
