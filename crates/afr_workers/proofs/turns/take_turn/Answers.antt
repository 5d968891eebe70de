-- Events, and then a turn.
use Rattle.std.proofs.Common.{◌≡◌, ◌∙◌, arith, false, refl, subst, sym, true}
use Rattle.afr_volume.specs.State.{State}
use Rattle.afr_volume.specs.Tasks.{is_done_in}
use Rattle.afr_workers.specs.Crew.{IsCrew, Leads}
use Rattle.afr_workers.proofs.PassLemmas.{leads_then, still_then, turn_full, turn_kept, turn_leads, turn_still}
use Rattle.afr_workers.proofs.turns.take_turn.Goals as goal

pub come-requires : goal.come-requires
come-requires g c = c.requires.crew.placed

pub returns-in_err-come-clause-crew : goal.returns-in_err-come-clause-crew
returns-in_err-come-clause-crew g c = c.come.ensures.crew c.requires.crew

pub turn-requires-clause-actor : goal.turn-requires-clause-actor
turn-requires-clause-actor g c = rw c.come.ensures.leads.plan c.requires.actor

pub returns-in_err-turned-clause-crew : goal.returns-in_err-turned-clause-crew
returns-in_err-turned-clause-crew g c = subst (IsCrew c.come.new.crew) (sym c.in_err-turned.ensures.err) (c.come.ensures.crew c.requires.crew)

pub returns-in_err-turned-clause-leads : goal.returns-in_err-turned-clause-leads
returns-in_err-turned-clause-leads g c = subst (λ (s : State). Leads c.args.volume.now s) (sym c.in_err-turned.ensures.err) c.come.ensures.leads

pub returns-clause-crew : goal.returns-clause-crew
returns-clause-crew g c = turn_kept c.args.a c.come.new.volume c.turn.new.self c.in_ok-turned.turned c.come.new.crew c.in_ok-turned.ensures.ok (c.come.ensures.crew c.requires.crew)

pub returns-clause-leads : goal.returns-clause-leads
returns-clause-leads g c = leads_then c.args.volume.now c.come.new.volume c.turn.new.self c.come.ensures.leads (turn_leads c.args.a c.come.new.volume c.turn.new.self c.in_ok-turned.turned c.in_ok-turned.ensures.ok)

pub returns-clause-still : goal.returns-clause-still
returns-clause-still g c = λ on few.
    let yes : c.goes_on.result ≡ true = cc on in
    let low = c.come.ensures.leads.grows in
    let high = (turn_leads c.args.a c.come.new.volume c.turn.new.self c.in_ok-turned.turned c.in_ok-turned.ensures.ok).grows in
    let t = turn_still c.args.a c.come.new.volume c.turn.new.self c.in_ok-turned.turned c.in_ok-turned.ensures.ok (sym c.goes_on.ensures ∙ yes) (omega (arith, few, low)) in
    still_then c.args.volume.now c.come.new.volume c.turn.new.self c.args.crew.now c.come.new.crew c.come.new.crew (c.come.ensures.still (omega (arith, few, high))) (record { same = t.0; stays = refl })

pub returns-clause-done : goal.returns-clause-done
returns-clause-done g c = λ on few.
    let yes : c.goes_on.result ≡ true = cc on in
    let low = c.come.ensures.leads.grows in
    let t = turn_still c.args.a c.come.new.volume c.turn.new.self c.in_ok-turned.turned c.in_ok-turned.ensures.ok (sym c.goes_on.ensures ∙ yes) (omega (arith, few, low)) in
    subst (λ (s : State). is_done_in c.args.a.0 s ≡ true) (sym t.0) t.1

pub returns-clause-full : goal.returns-clause-full
returns-clause-full g c = λ off.
    let no : c.goes_on.result ≡ false = cc off in
    turn_full c.args.a c.come.new.volume c.turn.new.self c.in_ok-turned.turned c.in_ok-turned.ensures.ok (sym c.goes_on.ensures ∙ no)
