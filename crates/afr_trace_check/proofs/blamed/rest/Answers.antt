use Rattle.std.proofs.Common.{◌∙◌, sym}
use Rattle.afr_trace_check.proofs.SameLemmas.{rest_is}
use Rattle.afr_trace_check.proofs.blamed.rest.Goals as goal

pub returns : goal.returns
returns c = rest_is c.args.bricks c.without.result c.args.b.0 c.requires.some c.requires.first (sym c.count-count.ensures.len ∙ c.count-count.ensures.tests) c.without.ensures
