-- Events, then an item where the worker is at no task, and then its turn.
use Rattle.std.proofs.Common.{◌≡◌, ◌∙◌, ap, arith, false, length, subst, sym, true}
use Rattle.afr_volume.specs.State.{State}
use Rattle.afr_workers.specs.Crew.{IsCrew, Leads}
use Rattle.afr_workers.proofs.PassLemmas.{leads_then, same_leads, still_then, task_still, turn_full, turn_kept, turn_leads, worker_actor}
use Rattle.afr_workers.proofs.turns.take_task.Goals as goal

pub come-requires : goal.come-requires
come-requires g c = c.requires.crew.placed

pub returns-in_err-come-clause-crew : goal.returns-in_err-come-clause-crew
returns-in_err-come-clause-crew g c = c.come.ensures.crew c.requires.crew

pub give-requires-clause-crew : goal.give-requires-clause-crew
give-requires-clause-crew g c = c.come.ensures.crew c.requires.crew

pub turn-requires-clause-actor : goal.turn-requires-clause-actor
turn-requires-clause-actor g c = worker_actor c.give.new.volume.plan c.args.a.0 c.give.ensures.crew.placed.can c.requires.worker

pub turn-requires-clause-none : goal.turn-requires-clause-none
turn-requires-clause-none g c = rw (c.give.ensures.plan, c.give.ensures.log) c.in_ok-come.ensures.none

pub returns-in_err-give-clause-leads : goal.returns-in_err-give-clause-leads
returns-in_err-give-clause-leads g c = leads_then c.args.volume.now c.come.new.volume c.give.new.volume c.come.ensures.leads (same_leads c.come.new.volume c.give.new.volume c.give.ensures.plan c.give.ensures.log)

pub returns-in_err-turned-clause-crew : goal.returns-in_err-turned-clause-crew
returns-in_err-turned-clause-crew g c = subst (IsCrew c.give.new.crew) (sym c.in_err-turned.ensures.err) c.give.ensures.crew

pub returns-in_err-turned-clause-leads : goal.returns-in_err-turned-clause-leads
returns-in_err-turned-clause-leads g c =
    subst (λ (s : State). Leads c.args.volume.now s) (sym c.in_err-turned.ensures.err)
    (leads_then c.args.volume.now c.come.new.volume c.give.new.volume c.come.ensures.leads (same_leads c.come.new.volume c.give.new.volume c.give.ensures.plan c.give.ensures.log))

pub returns-clause-crew : goal.returns-clause-crew
returns-clause-crew g c = turn_kept c.args.a c.give.new.volume c.turn.new.self c.in_ok-turned.turned c.give.new.crew c.in_ok-turned.ensures.ok c.give.ensures.crew

pub returns-clause-leads : goal.returns-clause-leads
returns-clause-leads g c =
    leads_then c.args.volume.now c.come.new.volume c.turn.new.self c.come.ensures.leads
    (leads_then c.come.new.volume c.give.new.volume c.turn.new.self (same_leads c.come.new.volume c.give.new.volume c.give.ensures.plan c.give.ensures.log) (turn_leads c.args.a c.give.new.volume c.turn.new.self c.in_ok-turned.turned c.in_ok-turned.ensures.ok))

pub returns-clause-still : goal.returns-clause-still
returns-clause-still g c = λ on few.
    let yes : c.goes_on.result ≡ true = cc on in
    let low = c.come.ensures.leads.grows in
    let high = (turn_leads c.args.a c.give.new.volume c.turn.new.self c.in_ok-turned.turned c.in_ok-turned.ensures.ok).grows in
    let log = ap length c.give.ensures.log in
    let t = task_still c.args.a c.come.new.volume c.give.new.volume c.turn.new.self c.come.new.crew c.give.new.crew c.in_ok-turned.turned c.give.ensures.log c.in_ok-give.ensures.ok c.in_ok-turned.ensures.ok (sym c.goes_on.ensures ∙ yes) (omega (arith, few, low)) in
    still_then c.args.volume.now c.come.new.volume c.turn.new.self c.args.crew.now c.come.new.crew c.give.new.crew (c.come.ensures.still (omega (arith, few, high, log))) t.still

pub returns-clause-done : goal.returns-clause-done
returns-clause-done g c = λ on few.
    let yes : c.goes_on.result ≡ true = cc on in
    let low = c.come.ensures.leads.grows in
    (task_still c.args.a c.come.new.volume c.give.new.volume c.turn.new.self c.come.new.crew c.give.new.crew c.in_ok-turned.turned c.give.ensures.log c.in_ok-give.ensures.ok c.in_ok-turned.ensures.ok (sym c.goes_on.ensures ∙ yes) (omega (arith, few, low))).done

pub returns-clause-none : goal.returns-clause-none
returns-clause-none g c = λ on few.
    let yes : c.goes_on.result ≡ true = cc on in
    let low = c.come.ensures.leads.grows in
    (task_still c.args.a c.come.new.volume c.give.new.volume c.turn.new.self c.come.new.crew c.give.new.crew c.in_ok-turned.turned c.give.ensures.log c.in_ok-give.ensures.ok c.in_ok-turned.ensures.ok (sym c.goes_on.ensures ∙ yes) (omega (arith, few, low))).none

pub returns-clause-full : goal.returns-clause-full
returns-clause-full g c = λ off.
    let no : c.goes_on.result ≡ false = cc off in
    turn_full c.args.a c.give.new.volume c.turn.new.self c.in_ok-turned.turned c.in_ok-turned.ensures.ok (sym c.goes_on.ensures ∙ no)
