use Rattle.std.proofs.Common.{sym, ◌∙◌}
use Rattle.afr_plan_line.proofs.Front.{runs_out}
use Rattle.afr_plan_line.proofs.bytes.skip.Goals as goal

pub returns-in_default : goal.returns-in_default
returns-in_default c = sym (runs_out c.args.word.now c.loop-w.rest.now c.loop-w.w-index c.loop-w-test.true c.in_default.ensures.cases) ∙ c.loop-w.invariant
