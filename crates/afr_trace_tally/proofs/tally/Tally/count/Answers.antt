use Rattle.std.proofs.Common.{◌∙◌}
use Rattle.afr_trace_tally.proofs.tally.Tally.count.Goals as goal

pub returns-clause-value : goal.returns-clause-value
returns-clause-value c = c.count_at.ensures ∙ c.brick.ensures.counts.sums c.args.g c.args.kind
