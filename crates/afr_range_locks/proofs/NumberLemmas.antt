-- Two ranges share a number exactly where each has one and begins before the other ends.
use Rattle.std.proofs.Common.{◌≡◌, ℕ, ◌<◌, ◌≤◌, ◌↔◌, true, ◌⊎◌, inl, inr, arith}
use Rattle.std.proofs.lemmas.Bool.{cases_lt}
use Rattle.std.proofs.lemmas.Bool.Decides.{nat_tests}
use Rattle.afr_lines.specs.Locks.{share_number, IsInBoth}

pub begins : (from to start end : ℕ) → share_number from to start end ≡ true → (from < end) × (start < to)
begins from to start end e = (grind (arith, nat_tests, e), grind (arith, nat_tests, e))

have : (from to start end : ℕ) → share_number from to start end ≡ true → (from < to) × (start < end)
have from to start end e = (grind (arith, nat_tests, e), grind (arith, nat_tests, e))

share : (from to start end n : ℕ) → from ≤ n → n < to → start ≤ n → n < end → share_number from to start end ≡ true
share from to start end n p q r s = grind (arith, nat_tests, p, q, r, s)

-- the greater of the two beginnings is in both
greater : (from to start end : ℕ) → from < to → start < end → from < end → start < to → IsInBoth from to start end
greater from to start end some other before after = go (cases_lt from start)
  where
    go : (from < start) ⊎ (start ≤ from) → IsInBoth from to start end
    go (inl e) = (start, omega (arith, e), after, omega arith, other)
    go (inr e) = (from, omega arith, some, e, before)

pub in_both : (from to start end : ℕ) → (share_number from to start end ≡ true) ↔ IsInBoth from to start end
in_both from to start end =
    (λ e. greater from to start end (have from to start end e).0 (have from to start end e).1 (begins from to start end e).0 (begins from to start end e).1, λ n. share from to start end n.0 n.1 n.2 n.3 n.4)
