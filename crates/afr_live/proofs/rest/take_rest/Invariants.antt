use Rattle.std.specs.Prelude.{◌≡◌, ◌-◌, length}
use Rattle.afr_live.proofs.rest.take_rest.Given as goal

abbrev pub invariant-loop : goal.invariant-loop
invariant-loop g l = l.mine.share.parts ≡ l.fn.mine.share.parts

abbrev pub decreases-loop : goal.decreases-loop
decreases-loop g l = l.state.volume.plan.turns - length l.state.volume.log
