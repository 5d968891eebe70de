use Rattle.std.proofs.Common.{◌∙◌, reverse}
use Rattle.afr_trace_tally.proofs.CountLemmas.{marks_are}
use Rattle.afr_trace_tally.proofs.tally.Tally.marks.Goals as goal

pub returns : goal.returns
returns c = c.marks_in.ensures ∙ marks_are c.args.plan.now (reverse c.args.log.now) c.args.b.0 c.args.g c.args.kind c.count-count.result c.count-count.ensures.value
