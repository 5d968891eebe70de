use Rattle.std.proofs.Common.{◌≡◌, sym, ◌∙◌}
use Rattle.afr_law_bound.proofs.Standstill.Standing.{actor_yes, yes_actor}
use Rattle.afr_order.proofs.Replays.LineLemmas.{numbered}
use Rattle.afr_order.proofs.remaking.steps.has_actor.Goals as goal

pub returns-clause-yes : goal.returns-clause-yes
returns-clause-yes c = λ e. yes_actor c.args.plan.now c.args.who (sym (numbered c.args.plan.now c.args.who c.len.result c.len-2.result c.len.ensures c.len-2.ensures) ∙ sym c.is_numbered.ensures ∙ e)

pub returns-clause-no : goal.returns-clause-no
returns-clause-no c = λ e actor. cc (sym (actor_yes c.args.plan.now c.args.who actor) ∙ sym (numbered c.args.plan.now c.args.who c.len.result c.len-2.result c.len.ensures c.len-2.ensures) ∙ sym c.is_numbered.ensures ∙ e)
