-- The value of the numbers that were read in twelve bytes is these bytes.
use Rattle.std.proofs.Common.{◌≡◌, ℕ, ◌+◌, ◌<◌, ◌≤◌, List, [], ◌∷◌, ◌++◌, ◌⊎◌, inl, inr, drop, get_or, length, take, sym, ap, ◌∙◌, arith}
use Rattle.std.proofs.Math.ListN.{get_or-eq_default}
use Rattle.std.proofs.lemmas.Bool.{cases_lt}
use Rattle.std.proofs.lemmas.List.{append-nil, drop-drop, get_or-take, get_or-drop, length-drop, length-take, take-append-drop, take_all}
use Rattle.std.proofs.lemmas.Nat.{be_bytes_4}
use Rattle.byteorder.specs.Endian.{big_bytes, big_number}
use Rattle.byteorder.specs.Numbers.{big_from-take}
use Rattle.afr_marks.specs.Values.{value}

-- each byte is below 256
abbrev pub AreBytes : List ℕ → Type 0
AreBytes bytes = (i : ℕ) → get_or bytes i 0 < 256

-- Some bytes of bytes are bytes.
are_bytes-part : (k : ℕ) (bytes : List ℕ) → AreBytes bytes → AreBytes (take 4 (drop k bytes))
are_bytes-part k bytes small i = inside (cases_lt i 4)
  where
    inside : (i < 4) ⊎ (4 ≤ i) → get_or (take 4 (drop k bytes)) i 0 < 256
    inside (inl l) = omega (arith, get_or-take 4 (drop k bytes) i 0 l, get_or-drop k bytes i 0, small (k + i))
    inside (inr l) = omega (arith, get_or-eq_default (take 4 (drop k bytes)) 0 {n = i} (omega (arith, l, length-take 4 (drop k bytes))))

-- A number that was read in four bytes has these as its bytes.
four_again : (k : ℕ) (bytes : List ℕ) (n : ℕ) → k ≤ 8 → length bytes ≡ 12 → AreBytes bytes → n ≡ big_number 4 (drop k bytes) → big_bytes 4 n ≡ take 4 (drop k bytes)
four_again k bytes n within len small is =
    let four : length (take 4 (drop k bytes)) ≡ 4 = omega (arith, length-take 4 (drop k bytes), length-drop k bytes, len, within) in
    let read : n ≡ big_number 4 (take 4 (drop k bytes)) = is ∙ sym (big_from-take 0 4 4 (drop k bytes) (omega arith)) in
    be_bytes_4 (take 4 (drop k bytes)) n four (are_bytes-part k bytes small) (omega (arith, read))

-- Twelve bytes are three parts of four.
three_parts : (bytes : List ℕ) → length bytes ≡ 12 → take 4 bytes ++ (take 4 (drop 4 bytes) ++ (take 4 (drop 8 bytes) ++ [])) ≡ bytes
three_parts bytes len =
    let last : take 4 (drop 8 bytes) ≡ drop 8 bytes = take_all 4 (drop 8 bytes) (omega (arith, length-drop 8 bytes, len)) in
    let rest : take 4 (drop 4 bytes) ++ drop 8 bytes ≡ drop 4 bytes = ap (λ (xs : List ℕ). take 4 (drop 4 bytes) ++ xs) (sym (drop-drop 4 4 bytes)) ∙ take-append-drop 4 (drop 4 bytes) in
    ap (λ (xs : List ℕ). take 4 bytes ++ (take 4 (drop 4 bytes) ++ xs)) (append-nil (take 4 (drop 8 bytes)) ∙ last) ∙ ap (λ (xs : List ℕ). take 4 bytes ++ xs) rest ∙ take-append-drop 4 bytes

-- The numbers read from twelve bytes, four by four, have these bytes as their value.
pub value_of_read : (bytes : List ℕ) (x y z : ℕ) → length bytes ≡ 12 → AreBytes bytes → x ≡ big_number 4 bytes → y ≡ big_number 4 (drop 4 bytes) → z ≡ big_number 4 (drop 8 bytes) → value (x ∷ y ∷ z ∷ []) ≡ bytes
value_of_read bytes x y z len small is_x is_y is_z =
    ap (λ (xs : List ℕ). xs ++ (big_bytes 4 y ++ (big_bytes 4 z ++ []))) (four_again 0 bytes x (omega arith) len small is_x)
    ∙ ap (λ (xs : List ℕ). take 4 bytes ++ (xs ++ (big_bytes 4 z ++ []))) (four_again 4 bytes y (omega arith) len small is_y)
    ∙ ap (λ (xs : List ℕ). take 4 bytes ++ (take 4 (drop 4 bytes) ++ (xs ++ []))) (four_again 8 bytes z (omega arith) len small is_z)
    ∙ three_parts bytes len
