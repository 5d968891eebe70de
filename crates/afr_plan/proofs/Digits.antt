-- What digits are worth.
use Rattle.std.proofs.Common.{◌≡◌, ℕ, ◌<◌, true, arith}
use Rattle.std.specs.Char.{digit_value}
use Rattle.std.specs.Int.{IsInRange}
use Rattle.std.proofs.lemmas.Bool.Decides.{nat_tests}
use Rattle.std.proofs.lemmas.Str.{digit_value_digit}
use Rattle.afr_plan.specs.Bytes.{digit}

pub digit_value_of : (b : ℕ) → digit b ≡ true → digit_value b < 10
digit_value_of b h = let r : IsInRange 48 57 b = (grind (arith, nat_tests, h), grind (arith, nat_tests, h)) in omega (arith, digit_value_digit b r, r.1)
