-- Events, and then the turn.
use Rattle.afr_workers.proofs.WorkshopLemmas.{kept_here, kept_then}
use Rattle.afr_workers.proofs.stepping.steps.Goals as goal

pub returns-then-is_stopped : goal.returns-then-is_stopped
returns-then-is_stopped g c = kept_here c.args.x.now c.requires.shop

pub acts-step-requires-clause-actor : goal.acts-step-requires-clause-actor
acts-step-requires-clause-actor g c = rw c.events.ensures.kept.plan c.requires.actor

pub acts-step-requires-clause-none : goal.acts-step-requires-clause-none
acts-step-requires-clause-none g c = c.events.ensures.none c.if-not-events.false

pub acts-step-requires-clause-shop : goal.acts-step-requires-clause-shop
acts-step-requires-clause-shop g c = c.events.ensures.kept.shop

pub returns : goal.returns
returns g c = kept_then c.args.x.now c.events.new.x c.acts-step.new.x c.events.ensures.kept c.acts-step.ensures
