use Rattle.std.specs.Prelude.{ℕ, List, ◌++◌, codes, decimal}
use Rattle.std.proofs.Common.{ap, sym, ◌∙◌, arith}
use Rattle.std.proofs.lemmas.Fmt.{decimal_digit}
use Rattle.afr_report_trace.proofs.askers.brick_word.Goals as goal

pub returns-in-0 : goal.returns-in-0
returns-in-0 c = ap (λ (t : List ℕ). codes " b" ++ t ++ codes " ") (sym (decimal_digit 0 (omega arith))) ∙ ap (λ (n : ℕ). codes " b" ++ decimal n ++ codes " ") (sym c.in-0.is)

pub returns-in-1 : goal.returns-in-1
returns-in-1 c = ap (λ (t : List ℕ). codes " b" ++ t ++ codes " ") (sym (decimal_digit 1 (omega arith))) ∙ ap (λ (n : ℕ). codes " b" ++ decimal n ++ codes " ") (sym c.in-1.is)

pub returns-in-2 : goal.returns-in-2
returns-in-2 c = ap (λ (t : List ℕ). codes " b" ++ t ++ codes " ") (sym (decimal_digit 2 (omega arith))) ∙ ap (λ (n : ℕ). codes " b" ++ decimal n ++ codes " ") (sym c.in-2.is)

pub returns-in-3 : goal.returns-in-3
returns-in-3 c = ap (λ (t : List ℕ). codes " b" ++ t ++ codes " ") (sym (decimal_digit 3 (omega arith))) ∙ ap (λ (n : ℕ). codes " b" ++ decimal n ++ codes " ") (sym c.in-3.is)

pub returns-in-4 : goal.returns-in-4
returns-in-4 c = ap (λ (t : List ℕ). codes " b" ++ t ++ codes " ") (sym (decimal_digit 4 (omega arith))) ∙ ap (λ (n : ℕ). codes " b" ++ decimal n ++ codes " ") (sym c.in-4.is)
