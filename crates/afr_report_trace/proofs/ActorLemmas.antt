-- The digits of the numbers from 10 to 19.
use Rattle.std.proofs.Common.{◌≡◌, ℕ, ◌+◌, ◌/◌, ◌%◌, ◌<◌, List, [], ◌∷◌, ◌++◌, ap, ◌∙◌, arith}
use Rattle.std.specs.Prelude.{decimal}
use Rattle.std.proofs.lemmas.Fmt.{decimal_digit, decimal_step}

pub teen : (d : ℕ) → d < 10 → decimal (10 + d) ≡ 49 ∷ (48 + d) ∷ []
teen d l =
    let tens : (10 + d) / 10 ≡ 1 = omega (arith, l) in
    let units : (10 + d) % 10 ≡ d = omega (arith, l) in
    decimal_step (10 + d) (omega arith) (omega (arith, l))
    ∙ (λ i. decimal (tens i) ++ ((48 + units i) ∷ []))
    ∙ ap (λ (first : List ℕ). first ++ ((48 + d) ∷ [])) (decimal_digit 1 (omega arith))
