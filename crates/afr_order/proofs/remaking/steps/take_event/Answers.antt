-- An event that is due makes its step's line, or another one.
use Rattle.std.proofs.Common.{◌≡◌, ◌∙◌, Ok, true, false, ap, arith}
use Rattle.std.proofs.lemmas.Grind.{common_steps}
use Rattle.afr_volume.specs.Going.{Later, Still}
use Rattle.afr_volume.specs.State.{State}
use Rattle.afr_order.proofs.Replays.MadeLemmas.{event_adds, event_differs, event_made, event_plan, no_event}
use Rattle.afr_order.proofs.remaking.steps.take_event.Goals as goal

pub returns-in_err-next_event-clause-plan : goal.returns-in_err-next_event-clause-plan
returns-in_err-next_event-clause-plan c = ap (λ (s : State). s.plan) c.in_err-next_event.ensures.err

pub returns-in_err-next_event-clause-happens : goal.returns-in_err-next_event-clause-happens
returns-in_err-next_event-clause-happens c = rw c.in_err-next_event.ensures.err Still

pub returns-then-not-branch-clause-plan : goal.returns-then-not-branch-clause-plan
returns-then-not-branch-clause-plan c =
    let off : c.in_ok-next_event.field-0 ≡ false = grind (arith, common_steps) in
    ap (λ (s : State). s.plan) (c.in_ok-next_event.ensures.none (ap Ok off)).1

pub returns-then-not-branch-clause-fails : goal.returns-then-not-branch-clause-fails
returns-then-not-branch-clause-fails c = λ e.
    let off : c.in_ok-next_event.field-0 ≡ false = grind (arith, common_steps) in
    no_event c.args.step c.args.volume.now c.next_event.new.volume c.requires.event (c.in_ok-next_event.ensures.none (ap Ok off)).0 (c.in_ok-next_event.ensures.none (ap Ok off)).1

pub returns-then-not-branch-clause-happens : goal.returns-then-not-branch-clause-happens
returns-then-not-branch-clause-happens c =
    let off : c.in_ok-next_event.field-0 ≡ false = grind (arith, common_steps) in
    rw (c.in_ok-next_event.ensures.none (ap Ok off)).1 Still

pub has_step-requires : goal.has_step-requires
has_step-requires c =
    let on : c.in_ok-next_event.field-0 ≡ true = grind (arith, common_steps) in
    record {
      some = event_adds c.args.volume.now c.next_event.new.volume (c.in_ok-next_event.ensures.comes (ap Ok on));
      plain = ap (λ (s : State). s.crawl) (c.in_ok-next_event.ensures.comes (ap Ok on)).added ∙ c.requires.plain;
    }

pub returns-clause-plan : goal.returns-clause-plan
returns-clause-plan c =
    let on : c.in_ok-next_event.field-0 ≡ true = grind (arith, common_steps) in
    event_plan c.args.volume.now c.next_event.new.volume (c.in_ok-next_event.ensures.comes (ap Ok on))

pub returns-clause-made : goal.returns-clause-made
returns-clause-made c = λ e.
    let on : c.in_ok-next_event.field-0 ≡ true = grind (arith, common_steps) in
    let yes : c.has_step.result ≡ true = cc e in
    event_made c.args.step c.args.volume.now c.next_event.new.volume c.requires.event (c.in_ok-next_event.ensures.comes (ap Ok on)) (λ line older at. c.has_step.ensures.yes line older at yes)

pub returns-clause-fails : goal.returns-clause-fails
returns-clause-fails c = λ e.
    let on : c.in_ok-next_event.field-0 ≡ true = grind (arith, common_steps) in
    let no : c.has_step.result ≡ false = cc e in
    event_differs c.args.step c.args.volume.now c.next_event.new.volume c.requires.event (c.in_ok-next_event.ensures.comes (ap Ok on)) (λ line older at. c.has_step.ensures.no line older at no)

pub returns-clause-happens : goal.returns-clause-happens
returns-clause-happens c =
    let on : c.in_ok-next_event.field-0 ≡ true = grind (arith, common_steps) in
    Later c.args.volume.now c.next_event.new.volume Still (c.in_ok-next_event.ensures.comes (ap Ok on))
