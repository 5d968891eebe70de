use Rattle.afr_order.proofs.Replays.TurnsLemmas.{runs_with}
use Rattle.afr_order.proofs.remaking.turns.with_turns.Goals as goal

pub returns-clause-runnable : goal.returns-clause-runnable
returns-clause-runnable c = runs_with c.args.plan c.args.turns c.requires.some c.requires.few c.requires.runnable
