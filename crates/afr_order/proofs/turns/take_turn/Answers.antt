use Rattle.std.proofs.Common.{◌≡◌, ◌∙◌, true, [], ◌∷◌, arith, sym}
use Rattle.afr_law_picks.specs.Sources.Sources.{picks_of}
use Rattle.afr_volume.proofs.GoingLemmas.{happens_chosen, front_then, ends_then, turn_done, turn_front, turn_ends}
use Rattle.afr_order.proofs.ClientLemmas.{happens_then_stays, happens_then_turn, runs_happen}
use Rattle.afr_order.proofs.OnwardLemmas.{events_and_no_turn, events_then_turn, happens_onto}
use Rattle.afr_order.proofs.turns.take_turn.Goals as goal

pub returns-clause-front : goal.returns-clause-front
returns-clause-front g c = front_then c.args.volume.now c.come_due.new.volume c.turn.new.self [] (c.args.a.0 ∷ []) c.come_due.ensures.goes c.come_due.ensures.taken (turn_front c.args.a c.come_due.new.volume c.turn.new.self c.in_ok-turned.turned c.in_ok-turned.ensures.ok)

pub returns-clause-ok : goal.returns-clause-ok
returns-clause-ok g c = rw c.goes_on.ensures (ends_then c.args.volume.now c.come_due.new.volume c.turn.new.self [] (c.args.a.0 ∷ []) _ c.come_due.ensures.goes c.come_due.ensures.taken (turn_ends c.args.a c.come_due.new.volume c.turn.new.self c.in_ok-turned.turned c.in_ok-turned.ensures.ok))

pub returns-in_err-come_due-clause-chosen : goal.returns-in_err-come_due-clause-chosen
returns-in_err-come_due-clause-chosen g c = happens_chosen (picks_of g.G.Fn c.args.rules.now.read) (picks_of g.F.Fn c.args.rules.now.heal) c.args.volume.now c.come_due.new.volume c.come_due.ensures.happens

pub returns-in_err-turned-clause-chosen : goal.returns-in_err-turned-clause-chosen
returns-in_err-turned-clause-chosen g c = λ k. c.turn.ensures.chosen (happens_chosen (picks_of g.G.Fn c.args.rules.now.read) (picks_of g.F.Fn c.args.rules.now.heal) c.args.volume.now c.come_due.new.volume c.come_due.ensures.happens k)

pub returns-clause-chosen : goal.returns-clause-chosen
returns-clause-chosen g c = λ k. c.turn.ensures.chosen (happens_chosen (picks_of g.G.Fn c.args.rules.now.read) (picks_of g.F.Fn c.args.rules.now.heal) c.args.volume.now c.come_due.new.volume c.come_due.ensures.happens k)

pub returns-in_err-come_due-clause-onto : goal.returns-in_err-come_due-clause-onto
returns-in_err-come_due-clause-onto g c = happens_onto c.args.volume.now c.come_due.new.volume c.come_due.ensures.happens

pub returns-in_err-turned-clause-onto : goal.returns-in_err-turned-clause-onto
returns-in_err-turned-clause-onto g c = events_and_no_turn c.args.volume.now c.come_due.new.volume c.turn.new.self c.come_due.ensures.happens c.in_err-turned.ensures.err

pub returns-clause-onto : goal.returns-clause-onto
returns-clause-onto g c = events_then_turn c.args.a c.args.volume.now c.come_due.new.volume c.turn.new.self c.in_ok-turned.turned c.come_due.ensures.happens c.in_ok-turned.ensures.ok

-- a turn that added no line, with room in the log, was one of an actor that is done
pub returns-clause-done : goal.returns-clause-done
returns-clause-done g c = λ on still.
    let yes : c.goes_on.result ≡ true = cc on in
    turn_done c.args.a c.come_due.new.volume c.turn.new.self c.in_ok-turned.turned c.in_ok-turned.ensures.ok (sym c.goes_on.ensures ∙ yes) (omega (arith, still, c.come_due.ensures.goes.grows))

pub returns-in_err-come_due-clause-runs : goal.returns-in_err-come_due-clause-runs
returns-in_err-come_due-clause-runs g c = λ client. runs_happen c.args.volume.now c.come_due.new.volume c.come_due.ensures.happens

pub returns-in_err-turned-clause-runs : goal.returns-in_err-turned-clause-runs
returns-in_err-turned-clause-runs g c = λ client. happens_then_stays c.args.volume.now c.come_due.new.volume c.turn.new.self c.come_due.ensures.happens c.in_err-turned.ensures.err

pub returns-clause-runs : goal.returns-clause-runs
returns-clause-runs g c = λ client. happens_then_turn c.args.a c.args.volume.now c.come_due.new.volume c.turn.new.self c.in_ok-turned.turned client c.come_due.ensures.happens c.in_ok-turned.ensures.ok
