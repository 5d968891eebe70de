use Rattle.std.proofs.Common.{◌≡◌, take, reverse}
use Rattle.afr_model.specs.Report.{started_bricks}
use Rattle.afr_report.proofs.events.started.Given as goal

abbrev pub invariant-loop-at : goal.invariant-loop-at
invariant-loop-at l = l.bricks ≡ started_bricks l.fn.n (reverse (take l.at l.log.items))
