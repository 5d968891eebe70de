use Rattle.std.proofs.Common.{◌∙◌}
use Rattle.afr_discipline.proofs.AllowedLemmas.{none_left}
use Rattle.afr_discipline.proofs.heal_possible.broken_possible.Goals as goal

pub returns-then-is_early : goal.returns-then-is_early
returns-then-is_early c = c.none.ensures ∙ none_left c.args.register.now c.args.b.0 c.args.request.now (c.is_early.ensures c.if-is_early.true)
