-- A turn of an actor that is there and isn't done makes its step's line, or another one.
use Rattle.std.proofs.Common.{◌≡◌, true, false, refl, sym, ◌∙◌, ap, subst}
use Rattle.afr_model.specs.Actors.{IsActor}
use Rattle.afr_plan.specs.declared.plan.Plan.{Plan}
use Rattle.afr_volume.proofs.GoingLemmas.{turn_goes}
use Rattle.afr_volume.specs.State.{State}
use Rattle.afr_order.specs.Replays.Made.{NoActor}
use Rattle.afr_order.proofs.Replays.MadeLemmas.{none_due, turn_adds, turn_differs, turn_done, turn_is_due, turn_left, turn_made}
use Rattle.afr_order.proofs.remaking.steps.take_turn.Goals as goal

pub returns-then-has_due-clause-fails : goal.returns-then-has_due-clause-fails
returns-then-has_due-clause-fails g c = λ e. turn_is_due c.args.step c.args.volume.now c.requires.turn (sym c.has_due.ensures.value ∙ c.if-has_due.true)

pub has_actor-requires : goal.has_actor-requires
has_actor-requires g c = rw c.plan.ensures c.every_line.ensures.healers

pub returns-then-not-has_actor-clause-fails : goal.returns-then-not-has_actor-clause-fails
returns-then-not-has_actor-clause-fails g c = λ e. NoActor c.requires.turn (λ actor. c.has_actor.ensures.no c.if-not-has_actor.true (subst (λ (p : Plan). IsActor p c.args.step.who) (sym c.plan.ensures) actor))

pub turn-requires : goal.turn-requires
turn-requires g c = record {
  rule = c.requires.rule;
  read_rule = c.requires.read_rule;
  actor = subst (λ (p : Plan). IsActor p c.args.step.who) c.plan.ensures (c.has_actor.ensures.yes c.if-not-has_actor.false);
  none = none_due _ (sym c.has_due.ensures.value ∙ c.if-has_due.false);
}

pub returns-then-is_ended-clause-plan : goal.returns-then-is_ended-clause-plan
returns-then-is_ended-clause-plan g c = (turn_goes (record { 0 = c.args.step.who }) c.args.volume.now c.turn.new.self c.in_ok-turned.turned c.in_ok-turned.ensures.ok).plan

pub returns-then-is_ended-clause-plain : goal.returns-then-is_ended-clause-plain
returns-then-is_ended-clause-plain g c = (turn_goes (record { 0 = c.args.step.who }) c.args.volume.now c.turn.new.self c.in_ok-turned.turned c.in_ok-turned.ensures.ok).crawl ∙ c.requires.plain

pub returns-then-is_ended-clause-fails : goal.returns-then-is_ended-clause-fails
returns-then-is_ended-clause-fails g c = λ e. turn_done c.args.step (record { 0 = c.args.step.who }) c.args.volume.now c.turn.new.self c.in_ok-turned.turned refl c.requires.turn c.in_ok-turned.ensures.ok (sym c.is_ended.ensures ∙ c.if-is_ended.true)

pub has_step-requires : goal.has_step-requires
has_step-requires g c = record {
  some = turn_adds (record { 0 = c.args.step.who }) c.args.volume.now c.turn.new.self c.in_ok-turned.turned
      (turn_left (record { 0 = c.args.step.who }) c.args.volume.now c.turn.new.self c.in_ok-turned.turned c.requires.plain c.in_ok-turned.ensures.ok (sym c.is_ended.ensures ∙ c.if-is_ended.false)) c.requires.room c.in_ok-turned.ensures.ok;
  plain = (turn_goes (record { 0 = c.args.step.who }) c.args.volume.now c.turn.new.self c.in_ok-turned.turned c.in_ok-turned.ensures.ok).crawl ∙ c.requires.plain;
}

pub returns-in_err-turned-clause-plan : goal.returns-in_err-turned-clause-plan
returns-in_err-turned-clause-plan g c = ap (λ (s : State). s.plan) c.in_err-turned.ensures.err

pub returns-clause-plan : goal.returns-clause-plan
returns-clause-plan g c = (turn_goes (record { 0 = c.args.step.who }) c.args.volume.now c.turn.new.self c.in_ok-turned.turned c.in_ok-turned.ensures.ok).plan

pub returns-clause-made : goal.returns-clause-made
returns-clause-made g c = λ e.
    let yes : c.has_step.result ≡ true = cc e in
    turn_made c.args.step (record { 0 = c.args.step.who }) c.args.volume.now c.turn.new.self c.in_ok-turned.turned refl c.requires.turn (sym c.has_due.ensures.value ∙ c.if-has_due.false)
    (subst (λ (p : Plan). IsActor p c.args.step.who) c.plan.ensures (c.has_actor.ensures.yes c.if-not-has_actor.false))
    (turn_left (record { 0 = c.args.step.who }) c.args.volume.now c.turn.new.self c.in_ok-turned.turned c.requires.plain c.in_ok-turned.ensures.ok (sym c.is_ended.ensures ∙ c.if-is_ended.false)) c.requires.room c.in_ok-turned.ensures.ok (λ line older at. c.has_step.ensures.yes line older at yes)

pub returns-clause-fails : goal.returns-clause-fails
returns-clause-fails g c = λ e.
    let no : c.has_step.result ≡ false = cc e in
    turn_differs c.args.step (record { 0 = c.args.step.who }) c.args.volume.now c.turn.new.self c.in_ok-turned.turned refl c.requires.turn
    (turn_left (record { 0 = c.args.step.who }) c.args.volume.now c.turn.new.self c.in_ok-turned.turned c.requires.plain c.in_ok-turned.ensures.ok (sym c.is_ended.ensures ∙ c.if-is_ended.false)) c.requires.room c.in_ok-turned.ensures.ok (λ line older at. c.has_step.ensures.no line older at no)

pub returns-in_err-turned-clause-plain : goal.returns-in_err-turned-clause-plain
returns-in_err-turned-clause-plain g c = ap (λ (s : State). s.crawl) c.in_err-turned.ensures.err ∙ c.requires.plain

pub returns-clause-plain : goal.returns-clause-plain
returns-clause-plain g c = (turn_goes (record { 0 = c.args.step.who }) c.args.volume.now c.turn.new.self c.in_ok-turned.turned c.in_ok-turned.ensures.ok).crawl ∙ c.requires.plain
