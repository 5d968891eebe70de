use Rattle.std.proofs.Common.{refl}
use Rattle.afr_base.proofs.ZeroLemmas.{both_zero, two_zero}
use Rattle.afr_base.proofs.marks.Marks.together.Goals as goal

pub returns-clause-test : goal.returns-clause-test
returns-clause-test c = rw (two_zero c.args.self.now.dirty c.laid_over.result, c.laid_over.ensures.test) refl

pub returns-clause-none : goal.returns-clause-none
returns-clause-none c = λ none.
    let both = both_zero c.args.self.now.dirty c.laid_over.result none in
    (λ i. record { dirty = both.0 i; pending = c.laid_over.ensures.none both.1 i })
