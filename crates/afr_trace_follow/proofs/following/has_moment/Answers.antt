use Rattle.std.proofs.Common.{reverse}
use Rattle.afr_lines.specs.declared.line.Line.{Line}
use Rattle.afr_model.specs.Following.{IsNextEvent, NoneDue}
use Rattle.afr_trace_follow.proofs.FollowLemmas.{moved}
use Rattle.afr_trace_follow.specs.Planned.{HasMoment, HasTurn}
use Rattle.afr_trace_follow.proofs.following.has_moment.Goals as goal

pub returns-in-Ask : goal.returns-in-Ask
returns-in-Ask c =
    moved (λ (l : Line). HasTurn c.args.plan.now c.in-Ask.actor.0 l (reverse c.args.log.now) × NoneDue c.args.plan.now (reverse c.args.log.now)) (λ (l : Line). HasMoment c.args.plan.now l (reverse c.args.log.now))
    c.args.line.now _ c.comes_in_turn.result c.in-Ask.is (λ k. k, λ k. k) c.comes_in_turn.ensures

pub returns-in-Begin : goal.returns-in-Begin
returns-in-Begin c =
    moved (λ (l : Line). HasTurn c.args.plan.now c.in-Begin.actor.0 l (reverse c.args.log.now) × NoneDue c.args.plan.now (reverse c.args.log.now)) (λ (l : Line). HasMoment c.args.plan.now l (reverse c.args.log.now))
    c.args.line.now _ c.comes_in_turn-in-Begin.result c.in-Begin.is (λ k. k, λ k. k) c.comes_in_turn-in-Begin.ensures

pub returns-in-HealBegin : goal.returns-in-HealBegin
returns-in-HealBegin c =
    moved (λ (l : Line). HasTurn c.args.plan.now c.in-HealBegin.actor.0 l (reverse c.args.log.now) × NoneDue c.args.plan.now (reverse c.args.log.now)) (λ (l : Line). HasMoment c.args.plan.now l (reverse c.args.log.now))
    c.args.line.now _ c.comes_in_turn-in-HealBegin.result c.in-HealBegin.is (λ k. k, λ k. k) c.comes_in_turn-in-HealBegin.ensures

pub returns-in-End : goal.returns-in-End
returns-in-End c =
    moved (λ (l : Line). HasTurn c.args.plan.now c.in-End.actor.0 l (reverse c.args.log.now) × NoneDue c.args.plan.now (reverse c.args.log.now)) (λ (l : Line). HasMoment c.args.plan.now l (reverse c.args.log.now))
    c.args.line.now _ c.comes_in_turn-in-End.result c.in-End.is (λ k. k, λ k. k) c.comes_in_turn-in-End.ensures

pub returns-in-HealEnd : goal.returns-in-HealEnd
returns-in-HealEnd c =
    moved (λ (l : Line). HasTurn c.args.plan.now c.in-HealEnd.actor.0 l (reverse c.args.log.now) × NoneDue c.args.plan.now (reverse c.args.log.now)) (λ (l : Line). HasMoment c.args.plan.now l (reverse c.args.log.now))
    c.args.line.now _ c.comes_in_turn-in-HealEnd.result c.in-HealEnd.is (λ k. k, λ k. k) c.comes_in_turn-in-HealEnd.ensures

pub returns-in-Event : goal.returns-in-Event
returns-in-Event c =
    moved (λ (l : Line). IsNextEvent c.args.plan.now c.in-Event.event (reverse c.args.log.now)) (λ (l : Line). HasMoment c.args.plan.now l (reverse c.args.log.now))
    c.args.line.now _ c.is_next_event.result c.in-Event.is (λ k. k, λ k. k) c.is_next_event.ensures
