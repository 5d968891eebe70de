use Rattle.std.specs.Prelude.{ℕ, List, ◌++◌, codes}
use Rattle.std.proofs.Common.{ap, sym, ◌∙◌, arith}
use Rattle.std.proofs.lemmas.Fmt.{decimal_digit}
use Rattle.afr_model.specs.ReportReplies.{actor_text}
use Rattle.afr_report_trace.proofs.ActorLemmas.{teen}
use Rattle.afr_report_trace.proofs.askers.actor_word.Goals as goal

pub returns-in-1 : goal.returns-in-1
returns-in-1 c = ap (λ (t : List ℕ). codes " c" ++ t) (sym (decimal_digit 1 (omega arith))) ∙ ap (λ (n : ℕ). codes " " ++ actor_text (record { 0 = n })) (sym c.in-1.is)

pub returns-in-2 : goal.returns-in-2
returns-in-2 c = ap (λ (t : List ℕ). codes " c" ++ t) (sym (decimal_digit 2 (omega arith))) ∙ ap (λ (n : ℕ). codes " " ++ actor_text (record { 0 = n })) (sym c.in-2.is)

pub returns-in-3 : goal.returns-in-3
returns-in-3 c = ap (λ (t : List ℕ). codes " c" ++ t) (sym (decimal_digit 3 (omega arith))) ∙ ap (λ (n : ℕ). codes " " ++ actor_text (record { 0 = n })) (sym c.in-3.is)

pub returns-in-4 : goal.returns-in-4
returns-in-4 c = ap (λ (t : List ℕ). codes " c" ++ t) (sym (decimal_digit 4 (omega arith))) ∙ ap (λ (n : ℕ). codes " " ++ actor_text (record { 0 = n })) (sym c.in-4.is)

pub returns-in-5 : goal.returns-in-5
returns-in-5 c = ap (λ (t : List ℕ). codes " c" ++ t) (sym (decimal_digit 5 (omega arith))) ∙ ap (λ (n : ℕ). codes " " ++ actor_text (record { 0 = n })) (sym c.in-5.is)

pub returns-in-6 : goal.returns-in-6
returns-in-6 c = ap (λ (t : List ℕ). codes " c" ++ t) (sym (decimal_digit 6 (omega arith))) ∙ ap (λ (n : ℕ). codes " " ++ actor_text (record { 0 = n })) (sym c.in-6.is)

pub returns-in-7 : goal.returns-in-7
returns-in-7 c = ap (λ (t : List ℕ). codes " c" ++ t) (sym (decimal_digit 7 (omega arith))) ∙ ap (λ (n : ℕ). codes " " ++ actor_text (record { 0 = n })) (sym c.in-7.is)

pub returns-in-8 : goal.returns-in-8
returns-in-8 c = ap (λ (t : List ℕ). codes " c" ++ t) (sym (decimal_digit 8 (omega arith))) ∙ ap (λ (n : ℕ). codes " " ++ actor_text (record { 0 = n })) (sym c.in-8.is)

pub returns-in-9 : goal.returns-in-9
returns-in-9 c = ap (λ (t : List ℕ). codes " c" ++ t) (sym (decimal_digit 9 (omega arith))) ∙ ap (λ (n : ℕ). codes " " ++ actor_text (record { 0 = n })) (sym c.in-9.is)

pub returns-in-10 : goal.returns-in-10
returns-in-10 c = ap (λ (t : List ℕ). codes " c" ++ t) (sym (teen 0 (omega arith))) ∙ ap (λ (n : ℕ). codes " " ++ actor_text (record { 0 = n })) (sym c.in-10.is)

pub returns-in-11 : goal.returns-in-11
returns-in-11 c = ap (λ (t : List ℕ). codes " c" ++ t) (sym (teen 1 (omega arith))) ∙ ap (λ (n : ℕ). codes " " ++ actor_text (record { 0 = n })) (sym c.in-11.is)

pub returns-in-12 : goal.returns-in-12
returns-in-12 c = ap (λ (t : List ℕ). codes " c" ++ t) (sym (teen 2 (omega arith))) ∙ ap (λ (n : ℕ). codes " " ++ actor_text (record { 0 = n })) (sym c.in-12.is)

pub returns-in-13 : goal.returns-in-13
returns-in-13 c = ap (λ (t : List ℕ). codes " c" ++ t) (sym (teen 3 (omega arith))) ∙ ap (λ (n : ℕ). codes " " ++ actor_text (record { 0 = n })) (sym c.in-13.is)

pub returns-in-14 : goal.returns-in-14
returns-in-14 c = ap (λ (t : List ℕ). codes " c" ++ t) (sym (teen 4 (omega arith))) ∙ ap (λ (n : ℕ). codes " " ++ actor_text (record { 0 = n })) (sym c.in-14.is)

pub returns-in-15 : goal.returns-in-15
returns-in-15 c = ap (λ (t : List ℕ). codes " c" ++ t) (sym (teen 5 (omega arith))) ∙ ap (λ (n : ℕ). codes " " ++ actor_text (record { 0 = n })) (sym c.in-15.is)

pub returns-in-16 : goal.returns-in-16
returns-in-16 c = ap (λ (t : List ℕ). codes " c" ++ t) (sym (teen 6 (omega arith))) ∙ ap (λ (n : ℕ). codes " " ++ actor_text (record { 0 = n })) (sym c.in-16.is)

pub returns-in-17 : goal.returns-in-17
returns-in-17 c = ap (λ (t : List ℕ). codes " h" ++ t) (sym (decimal_digit 1 (omega arith))) ∙ ap (λ (n : ℕ). codes " " ++ actor_text (record { 0 = n })) (sym c.in-17.is)

pub returns-in-18 : goal.returns-in-18
returns-in-18 c = ap (λ (t : List ℕ). codes " h" ++ t) (sym (decimal_digit 2 (omega arith))) ∙ ap (λ (n : ℕ). codes " " ++ actor_text (record { 0 = n })) (sym c.in-18.is)

pub returns-in-19 : goal.returns-in-19
returns-in-19 c = ap (λ (t : List ℕ). codes " h" ++ t) (sym (decimal_digit 3 (omega arith))) ∙ ap (λ (n : ℕ). codes " " ++ actor_text (record { 0 = n })) (sym c.in-19.is)
