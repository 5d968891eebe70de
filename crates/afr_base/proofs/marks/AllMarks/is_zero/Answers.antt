use Rattle.std.proofs.Common.{bit_or, refl}
use Rattle.std.proofs.lemmas.Bool.{eqb-true}
use Rattle.afr_base.proofs.ZeroLemmas.{both_zero, two_zero}
use Rattle.afr_base.proofs.marks.AllMarks.is_zero.Goals as goal

pub returns-clause-test : goal.returns-clause-test
returns-clause-test c =
    rw (two_zero (bit_or c.together.result c.together-2.result) c.together-3.result, two_zero c.together.result c.together-2.result, c.together.ensures.test, c.together-2.ensures.test, c.together-3.ensures.test)
    refl

pub returns-clause-none : goal.returns-clause-none
returns-clause-none c = λ yes.
    let last = both_zero (bit_or c.together.result c.together-2.result) c.together-3.result (eqb-true _ 0 yes) in
    let first = both_zero c.together.result c.together-2.result last.0 in
    (λ i. record { bytes = c.together.ensures.none first.0 i; attrs = c.together-2.ensures.none first.1 i; names = c.together-3.ensures.none last.1 i })
