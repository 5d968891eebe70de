-- A log that was full too early.
use Rattle.std.proofs.Common.{rules}
use Rattle.afr_cli.proofs.EndLemmas.{short_plan, unless_err}
use Rattle.afr_order.specs.Ending.{EndsInBound}
use Rattle.afr_cli.proofs.running.run_plan.Goals as goal

pub returns-clause-short : goal.returns-clause-short
returns-clause-short g c =
    let ends : EndsInBound c.drive.new.volume.plan c.drive.new.volume.log = unless_err c.drive.result _ (search rules) c.drive.ensures.ends in
    λ e. short_plan c.drive.new.volume.plan c.drive.new.volume.log ends (c.tell.ensures.unfinished e).2
