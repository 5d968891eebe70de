use Rattle.afr_plan.specs.Paths.{names_in}
use Rattle.afr_plan_read.proofs.NumberedLemmas.{numbered}
use Rattle.afr_plan_read.proofs.paths.PathTable.number.Goals as goal

pub invariant_of-self-2 : goal.invariant_of-self-2
invariant_of-self-2 c =
    rw (c.in_ok-ids.ensures.value, c.in_ok-self-inside.ensures.ok, c.in_ok-ids.ensures.ok) (numbered (names_in c.args.path.now) c.self.inside.names)
