-- The digits of numbers.
use Rattle.std.proofs.Common.{◌≡◌, ℕ, ◌+◌, ◌/◌, ◌%◌, ◌<◌, ◌≤◌, ◌++◌, ◌∙◌, List, [], ◌∷◌, arith, sym, ap, take, drop}
use Rattle.std.specs.Prelude.{decimal}
use Rattle.std.proofs.lemmas.Fmt.{decimal_digit, decimal_step}
use Rattle.std.proofs.lemmas.List.{take-append-drop}
use Rattle.std.proofs.lemmas.List.Concat.{flat_map-append}
use Rattle.afr_model.specs.ReportReplies.{hex_pair, hex_text}

pub one_digit : (n : ℕ) → n < 10 → decimal n ≡ (48 + n) ∷ []
one_digit n h = decimal_digit n h

pub two_digits : (n : ℕ) → 10 ≤ n → n < 100 → decimal n ≡ decimal (n / 10) ++ decimal (n % 10)
two_digits n some few = decimal_step n some (omega (arith, few)) ∙ ap (λ (last : List ℕ). decimal (n / 10) ++ last) (sym (one_digit (n % 10) (omega arith)))

-- ---- bytes as digits
pub hex_parts : (bytes : List ℕ) (k : ℕ) → hex_text (take k bytes) ++ hex_text (drop k bytes) ≡ hex_text bytes
hex_parts bytes k = sym (flat_map-append hex_pair (take k bytes) (drop k bytes)) ∙ ap hex_text (take-append-drop k bytes)
