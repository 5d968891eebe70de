use Rattle.std.proofs.Common.{None, Some, reverse}
use Rattle.afr_trace_follow.proofs.MarkedLemmas.{kind_is}
use Rattle.afr_trace_follow.proofs.marked.kind_found.Goals as goal

pub returns-in-Some : goal.returns-in-Some
returns-in-Some c = kind_is c.args.plan.now (reverse c.args.log.now) c.args.b.0 c.args.g (Some c.in-Some.view) c.in-Some.ensures

pub returns-in-None : goal.returns-in-None
returns-in-None c = kind_is c.args.plan.now (reverse c.args.log.now) c.args.b.0 c.args.g None c.in-None.ensures
