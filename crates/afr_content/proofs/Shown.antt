-- What is shown of a list of bytes and of the zeros past its end.
use Rattle.std.proofs.Common.{◌≡◌, ℕ, ◌+◌, ◌-◌, ◌<◌, ◌≤◌, min, List, ◌++◌, length, get_or, take, drop, replicate, ap, sym, ◌∙◌, ◌⊎◌, inl, inr, arith}
use Rattle.std.proofs.lemmas.Bool.{cases_lt}
use Rattle.std.proofs.lemmas.List.{length-append, length-take, length-drop, length-replicate, get_or-take, get_or-drop, get_or-replicate, get_or_past, get_or_append_left, get_or-append_right}
use Rattle.afr_object.specs.Bytes.{byte_at}

-- Behind the bytes that there are from an offset on come zeros.
pub shown : (at count n : ℕ) (bytes into xs ys rest : List ℕ) → at < length bytes → count ≡ min (length into) (length bytes - at) → xs ≡ take (at + count - at) (drop at bytes)
    → length ys ≡ length into - count → ys ≡ replicate n 0 → (k : ℕ) → k < length into → get_or (take count (xs ++ drop count into) ++ (ys ++ rest)) k 0 ≡ byte_at (at + k) bytes
shown at count n bytes into xs ys rest some size copied fill zeros k l = by_side (cases_lt k count)
  where
    xs_length : length xs ≡ count
    xs_length = ap length copied ∙ omega (arith, length-take (at + count - at) (drop at bytes), length-drop at bytes)

    front : length (take count (xs ++ drop count into)) ≡ count
    front = omega (arith, length-take count (xs ++ drop count into), length-append xs (drop count into), xs_length)

    by_side : (k < count) ⊎ (count ≤ k) → get_or (take count (xs ++ drop count into) ++ (ys ++ rest)) k 0 ≡ byte_at (at + k) bytes
    by_side (inl h) =
        get_or_append_left (take count (xs ++ drop count into)) (ys ++ rest) 0 k (omega (arith, front))
        ∙ get_or-take count (xs ++ drop count into) k 0 h
        ∙ get_or_append_left xs (drop count into) 0 k (omega (arith, xs_length))
        ∙ ap (λ (zs : List ℕ). get_or zs k 0) copied
        ∙ get_or-take (at + count - at) (drop at bytes) k 0 (omega arith)
        ∙ get_or-drop at bytes k 0
    by_side (inr h) =
        get_or-append_right (take count (xs ++ drop count into)) (ys ++ rest) count k 0 front h
        ∙ get_or_append_left ys rest 0 (k - count) (omega arith)
        ∙ ap (λ (zs : List ℕ). get_or zs (k - count) 0) zeros
        ∙ get_or-replicate n (k - count) 0 0 (omega (arith, ap length zeros, length-replicate {A = ℕ} n 0))
        ∙ sym (get_or_past bytes (at + k) 0 (omega arith))
