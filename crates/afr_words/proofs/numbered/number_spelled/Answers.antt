-- A text is taken exactly where it is the digits of a number in range.
use Rattle.std.proofs.Common.{◌≡◌, rules, arith}
use Rattle.afr_words.proofs.FormLemmas.{untold}
use Rattle.afr_words.proofs.NumberLemmas.{decimal_begins, decimal_parses, parsed_is_decimal}
use Rattle.afr_words.proofs.numbered.number_spelled.Goals as goal

pub returns-in-Ok-clause-some : goal.returns-in-Ok-clause-some
returns-in-Ok-clause-some c =
    let begins = c.begins_above_zero.ensures.0 c.if-begins_above_zero.true in
    let (digits, low) = parsed_is_decimal c.args.text.now c.in-Ok.number _ begins c.parse.ensures.value.0 c.in-Ok.is in
    (digits, low, search rules)

pub returns-in_default-clause-none : goal.returns-in_default-clause-none
returns-in_default-clause-none c = λ e n digits low high.
    untold _ c.begins_above_zero.ensures.1 c.if-begins_above_zero.false (decimal_begins c.args.text.now n digits low (omega (arith, high, c.ranges.most)))

pub returns-in_default-2-clause-none : goal.returns-in_default-2-clause-none
returns-in_default-2-clause-none c = λ e n digits low high.
    let parsed = decimal_parses c.args.text.now n _ digits (omega (arith, high, c.ranges.most)) c.parse.ensures.value.0 in
    let same : c.in-Ok.number ≡ n = cc in omega (arith, same, c.if-number-most.false)

pub returns-in_default-3-clause-none : goal.returns-in_default-3-clause-none
returns-in_default-3-clause-none c = λ e n digits low high.
    let parsed = decimal_parses c.args.text.now n _ digits (omega (arith, high, c.ranges.most)) c.parse.ensures.value.0 in cc
