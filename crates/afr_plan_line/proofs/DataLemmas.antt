-- Pairs of hexadecimal digits.
use Rattle.std.proofs.Common.{◌≡◌, ℕ, ◌+◌, ◌*◌, ◌/◌, ◌%◌, ◌<◌, ◌≤◌, List, [], ◌∷◌, length, refl, ◌∙◌, ap, arith, ◌==◌}
use Rattle.afr_plan.specs.Data.{hex_bytes, is_paired}

-- two digits a byte, and perhaps one more digit
halves : (ds : List ℕ) → (2 * length (hex_bytes ds) ≤ length ds) × (length ds < 2 * length (hex_bytes ds) + 2)
halves [] = (omega arith, omega arith)
halves (high ∷ []) = (omega arith, omega arith)
halves (high ∷ low ∷ more) = let h = halves more in (omega (arith, h.0), omega (arith, h.1))

pub half : (ds : List ℕ) → length ds / 2 ≡ length (hex_bytes ds)
half ds = let h = halves ds in omega (arith, h.0, h.1)

pub paired-even : (ds : List ℕ) → is_paired ds ≡ (length ds % 2 == 0)
paired-even [] = refl
paired-even (high ∷ []) = refl
paired-even (high ∷ low ∷ more) =
    let same : length more % 2 ≡ length (high ∷ low ∷ more) % 2 = omega arith in
    paired-even more ∙ ap (λ (n : ℕ). n == 0) same
