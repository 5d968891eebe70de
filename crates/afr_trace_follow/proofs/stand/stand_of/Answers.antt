use Rattle.std.proofs.Common.{[], arith, reverse, take}
use Rattle.afr_lines.specs.Work.{Work}
use Rattle.afr_trace_follow.proofs.StandLemmas.{few_weaker, of_work}
use Rattle.afr_trace_follow.specs.Stands.{IsAt}
use Rattle.afr_trace_follow.proofs.stand.stand_of.Goals as goal

pub returns-clause-at : goal.returns-clause-at
returns-clause-at c =
    of_work (λ (u : Work). IsAt c.args.plan.now c.args.names u c.stand_on.result) c.args.a.0 c.work_start-from.result (reverse (take c.args.upto c.args.log.now)) c.work_start-from.ensures
    (c.stand_on.ensures.at [] (c.at_start.ensures.at c.args.plan.now c.args.names))

pub returns-clause-few : goal.returns-clause-few
returns-clause-few c = few_weaker _ c.args.upto c.stand_on.result (omega arith) (c.stand_on.ensures.few 0 c.at_start.ensures.few)
