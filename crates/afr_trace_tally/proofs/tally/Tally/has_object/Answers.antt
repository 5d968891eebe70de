use Rattle.std.proofs.Common.{◌∙◌, Option, ap, is_some, reverse}
use Rattle.afr_object.specs.declared.entry.View.{View}
use Rattle.afr_trace_tally.proofs.TableLemmas.{there}
use Rattle.afr_trace_tally.proofs.tally.Tally.has_object.Goals as goal

pub returns : goal.returns
returns c = c.is_some.ensures ∙ ap (λ (o : Option View). is_some o) c.look.ensures ∙ there c.args.plan.now (reverse c.args.log.now) c.args.g c.args.b.0
