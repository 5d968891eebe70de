use Rattle.std.proofs.Common.{sym, ap, ◌∙◌, ◌==◌}
use Rattle.afr_base.proofs.ZeroLemmas.{are_zero, five_zero}
use Rattle.afr_base.proofs.marks.laid_over.Goals as goal

pub returns-clause-test : goal.returns-clause-test
returns-clause-test c = five_zero c.args.numbers.now c.told-numbers

pub returns-clause-none : goal.returns-clause-none
returns-clause-none c = λ none. are_zero c.args.numbers.now c.told-numbers (sym (five_zero c.args.numbers.now c.told-numbers) ∙ ap (λ n. n == 0) none)
