-- Before the first line nothing was picked; the plan stays, and so does what was made.
use Rattle.std.proofs.Common.{sym, subst}
use Rattle.afr_law_picks.specs.Sources.Sources.{picks_of}
use Rattle.afr_plan.specs.declared.plan.Plan.{Plan}
use Rattle.afr_volume.proofs.ChosenLemmas.{opened_chosen}
use Rattle.afr_volume.proofs.PlainLemmas.{plain_resting, plain_right}
use Rattle.afr_volume.specs.Right.{IsChosenBy}
use Rattle.afr_order.specs.Replays.Made.{DiffersAt, Retraces}
use Rattle.afr_order.proofs.Replays.MadeLemmas.{retraced}
use Rattle.afr_order.proofs.remaking.replaying.replay_steps.Goals as goal

pub returns-clause-same : goal.returns-clause-same
returns-clause-same g c = λ e. subst (λ (p : Plan). Retraces p c.args.steps.now c.take_all-replayed.new.volume.log) (sym c.take_all-replayed.ensures.plan) (c.take_all-replayed.ensures.same e)

pub returns-clause-steps : goal.returns-clause-steps
returns-clause-steps g c = λ e. retraced c.args.volume.now.plan c.args.steps.now c.take_all-replayed.new.volume.log (c.take_all-replayed.ensures.same e)

pub returns-clause-differs : goal.returns-clause-differs
returns-clause-differs g c = λ i e. subst (λ (p : Plan). DiffersAt p c.args.steps.now i c.take_all-replayed.new.volume.log) (sym c.take_all-replayed.ensures.plan) (c.take_all-replayed.ensures.differs i e)

pub returns-clause-chosen : goal.returns-clause-chosen
returns-clause-chosen g c = c.take_all-replayed.ensures.chosen (subst (IsChosenBy g.F.Fn g.G.Fn c.args.rules.now) (sym (plain_resting c.args.volume.now c.requires.plain (c.every_line.ensures.resting c.requires.fresh))) (opened_chosen (picks_of g.G.Fn c.args.rules.now.read) (picks_of g.F.Fn c.args.rules.now.heal) c.args.volume.now.plan))

pub returns-clause-right : goal.returns-clause-right
returns-clause-right g c = plain_right c.take_all-replayed.new.volume c.take_all-replayed.ensures.plain c.every_line-2.ensures.right
