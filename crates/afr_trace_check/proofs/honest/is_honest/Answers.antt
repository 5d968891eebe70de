use Rattle.std.proofs.Common.{reverse}
use Rattle.afr_trace_check.proofs.OutcomeLemmas.{honest_is}
use Rattle.afr_trace_check.proofs.honest.is_honest.Goals as goal

pub returns-in-Ask : goal.returns-in-Ask
returns-in-Ask c =
    honest_is c.args.plan.now c.args.line.now (reverse c.args.log.now) c.in-Ask.actor c.in-Ask.brick c.in-Ask.request c.in-Ask.told c.in-Ask.took c.outcome_of-outcome.result c.is_outcome.result c.in-Ask.is
    c.outcome_of-outcome.ensures c.is_outcome.ensures
