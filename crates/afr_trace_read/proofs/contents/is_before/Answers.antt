use Rattle.std.proofs.Common.{◌∙◌, ap, is_lt}
use Rattle.afr_trace_read.proofs.NamesLaws.{is_below}
use Rattle.afr_trace_read.proofs.contents.is_before.Goals as goal

pub returns : goal.returns
returns c = c.is_lt.ensures ∙ ap is_lt c.cmp.ensures ∙ is_below c.args.one.now c.args.other.now
