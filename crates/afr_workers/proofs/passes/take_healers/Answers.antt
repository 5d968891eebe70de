-- The crawler and both workers have had their turns.
use Rattle.std.proofs.Common.{◌≡◌, Ok, ap, arith, true}
use Rattle.std.proofs.lemmas.Grind.{common_steps}
use Rattle.afr_model.specs.Actors.{Healer}
use Rattle.afr_workers.proofs.PassLemmas.{done_stays, leads_then, still_then, takes_none_stays, three_done}
use Rattle.afr_workers.proofs.passes.take_healers.Goals as goal

pub take_turn-requires-clause-actor : goal.take_turn-requires-clause-actor
take_turn-requires-clause-actor g c = let many = c.requires.crew.placed.can.healers in Healer (omega arith) (omega (arith, many))

pub returns-in_err-take_task-clause-leads : goal.returns-in_err-take_task-clause-leads
returns-in_err-take_task-clause-leads g c = leads_then c.args.volume.now c.take_turn.new.volume c.take_task.new.volume c.take_turn.ensures.leads c.take_task.ensures.leads

pub returns-then-not-branch-2-clause-leads : goal.returns-then-not-branch-2-clause-leads
returns-then-not-branch-2-clause-leads g c = leads_then c.args.volume.now c.take_turn.new.volume c.take_task.new.volume c.take_turn.ensures.leads c.take_task.ensures.leads

pub returns-clause-leads : goal.returns-clause-leads
returns-clause-leads g c = leads_then c.args.volume.now c.take_turn.new.volume c.take_task-2.new.volume c.take_turn.ensures.leads (leads_then c.take_turn.new.volume c.take_task.new.volume c.take_task-2.new.volume c.take_task.ensures.leads c.take_task-2.ensures.leads)

pub returns-clause-still : goal.returns-clause-still
returns-clause-still g c = λ on few.
    let first : c.in_ok-take_turn.field-0 ≡ true = grind (arith, common_steps) in
    let second : c.in_ok-take_task.field-0 ≡ true = grind (arith, common_steps) in
    let a = c.take_turn.ensures.leads.grows in
    let b = c.take_task.ensures.leads.grows in
    let d = c.take_task-2.ensures.leads.grows in
    still_then c.args.volume.now c.take_turn.new.volume c.take_task-2.new.volume c.args.crew.now c.take_turn.new.crew c.take_task-2.new.crew (c.in_ok-take_turn.ensures.still (ap Ok first) (omega (arith, few, b, d)))
    (still_then c.take_turn.new.volume c.take_task.new.volume c.take_task-2.new.volume c.take_turn.new.crew c.take_task.new.crew c.take_task-2.new.crew (c.in_ok-take_task.ensures.still (ap Ok second) (omega (arith, few, a, d))) (c.take_task-2.ensures.still on (omega (arith, few, a, b))))

pub returns-clause-done : goal.returns-clause-done
returns-clause-done g c = λ on few.
    let first : c.in_ok-take_turn.field-0 ≡ true = grind (arith, common_steps) in
    let second : c.in_ok-take_task.field-0 ≡ true = grind (arith, common_steps) in
    let a = c.take_turn.ensures.leads.grows in
    let b = c.take_task.ensures.leads.grows in
    let d = c.take_task-2.ensures.leads.grows in
    let last = c.take_task-2.ensures.still on (omega (arith, few, a, b)) in
    let middle = c.in_ok-take_task.ensures.still (ap Ok second) (omega (arith, few, a, d)) in
    three_done c.take_task-2.new.volume
    (done_stays 17 c.take_turn.new.volume c.take_task-2.new.volume c.take_turn.new.crew c.take_task-2.new.crew (still_then c.take_turn.new.volume c.take_task.new.volume c.take_task-2.new.volume c.take_turn.new.crew c.take_task.new.crew c.take_task-2.new.crew middle last) (c.in_ok-take_turn.ensures.done (ap Ok first) (omega (arith, few, b, d))))
    (done_stays 18 c.take_task.new.volume c.take_task-2.new.volume c.take_task.new.crew c.take_task-2.new.crew last (c.in_ok-take_task.ensures.done (ap Ok second) (omega (arith, few, a, d))))
    (c.take_task-2.ensures.done on (omega (arith, few, a, b)))

pub returns-clause-none : goal.returns-clause-none
returns-clause-none g c = λ on few.
    let second : c.in_ok-take_task.field-0 ≡ true = grind (arith, common_steps) in
    let a = c.take_turn.ensures.leads.grows in
    let b = c.take_task.ensures.leads.grows in
    let d = c.take_task-2.ensures.leads.grows in
    takes_none_stays 18 c.take_task.new.volume c.take_task-2.new.volume c.take_task.new.crew c.take_task-2.new.crew (c.take_task-2.ensures.still on (omega (arith, few, a, b))) (c.in_ok-take_task.ensures.none (ap Ok second) (omega (arith, few, a, d)))
