use Rattle.std.proofs.Common.{[], ◌∷◌, ◌+◌, ◌≡◌, ◌≤◌, true, Ok, length, ap, arith, replicate}
use Rattle.std.proofs.lemmas.Grind.{common_steps}
use Rattle.afr_volume.proofs.GoingLemmas.{goes_nowhere, goes_then, takes_none, takes_then, front_then, front_whole, ends_true}
use Rattle.afr_volume.specs.Going.{AtFirst}
use Rattle.afr_order.proofs.ClientLemmas.{runs_then}
use Rattle.afr_order.proofs.OrderLemmas.{replicate_more, front_of_replicate, takes_rest}
use Rattle.afr_order.proofs.turns.take_turns.Goals as goal

pub take_turn-requires : goal.take_turn-requires
take_turn-requires g c = record { rule = c.requires.rule; read_rule = c.requires.read_rule; actor = rw c.loop-taken.invariant.goes.plan c.requires.actor }

pub returns-in_err-take_turn-clause-front : goal.returns-in_err-take_turn-clause-front
returns-in_err-take_turn-clause-front g c =
    front_of_replicate c.args.volume.now.plan c.args.volume.now.log c.take_turn.new.volume.log c.args.a.0 (c.loop-taken._taken + 1) c.args.count (omega arith)
    (rw replicate_more (front_then c.args.volume.now c.loop-taken.volume c.take_turn.new.volume (replicate c.loop-taken._taken c.args.a.0) (c.args.a.0 ∷ []) c.loop-taken.invariant.goes c.loop-taken.invariant.taken c.take_turn.ensures.front))

pub returns-then-not-branch-clause-front : goal.returns-then-not-branch-clause-front
returns-then-not-branch-clause-front g c =
    front_of_replicate c.args.volume.now.plan c.args.volume.now.log c.take_turn.new.volume.log c.args.a.0 (c.loop-taken._taken + 1) c.args.count (omega arith)
    (rw replicate_more (front_then c.args.volume.now c.loop-taken.volume c.take_turn.new.volume (replicate c.loop-taken._taken c.args.a.0) (c.args.a.0 ∷ []) c.loop-taken.invariant.goes c.loop-taken.invariant.taken c.take_turn.ensures.front))

-- the turn added no line, so the actor is done, and all further turns are passed over
pub returns-then-len-before-clause-ok : goal.returns-then-len-before-clause-ok
returns-then-len-before-clause-ok g c =
    let on : c.in_ok-take_turn.field-0 ≡ true = grind (arith, common_steps) in
    let same : length c.take_turn.new.volume.log ≤ length c.loop-taken.volume.log = grind (arith, common_steps) in
    takes_rest c.args.volume.now c.loop-taken.volume c.take_turn.new.volume c.args.a.0 c.loop-taken._taken c.args.count c.loop-taken.invariant.goes c.loop-taken.invariant.taken c.take_turn.ensures.goes same (c.in_ok-take_turn.ensures.done (ap Ok on) same) (omega arith)

pub returns-then-len-before-clause-front : goal.returns-then-len-before-clause-front
returns-then-len-before-clause-front g c = front_whole c.args.volume.now.plan c.args.volume.now.log c.take_turn.new.volume.log (replicate c.args.count c.args.a.0) (returns-then-len-before-clause-ok g c)

pub loop-taken-preserved : goal.loop-taken-preserved
loop-taken-preserved g c =
    let on : c.in_ok-take_turn.field-0 ≡ true = grind (arith, common_steps) in
    record {
      goes = goes_then c.args.volume.now c.loop-taken.volume c.take_turn.new.volume c.loop-taken.invariant.goes c.take_turn.ensures.goes;
      taken = rw replicate_more (takes_then c.args.volume.now c.loop-taken.volume c.take_turn.new.volume (replicate c.loop-taken._taken c.args.a.0) (c.args.a.0 ∷ []) c.loop-taken.invariant.goes c.loop-taken.invariant.taken (ends_true c.loop-taken.volume c.take_turn.new.volume _ _ on c.in_ok-take_turn.ensures.ok));
      chosen = λ h. c.take_turn.ensures.chosen (c.loop-taken.invariant.chosen h);
      runs = λ client. runs_then c.args.volume.now c.loop-taken.volume c.take_turn.new.volume (c.loop-taken.invariant.runs client) (c.take_turn.ensures.runs client);
    }

pub returns-in_err-take_turn-clause-runs : goal.returns-in_err-take_turn-clause-runs
returns-in_err-take_turn-clause-runs g c = λ client. runs_then c.args.volume.now c.loop-taken.volume c.take_turn.new.volume (c.loop-taken.invariant.runs client) (c.take_turn.ensures.runs client)

pub returns-then-not-branch-clause-runs : goal.returns-then-not-branch-clause-runs
returns-then-not-branch-clause-runs g c = λ client. runs_then c.args.volume.now c.loop-taken.volume c.take_turn.new.volume (c.loop-taken.invariant.runs client) (c.take_turn.ensures.runs client)

pub returns-then-len-before-clause-runs : goal.returns-then-len-before-clause-runs
returns-then-len-before-clause-runs g c = λ client. runs_then c.args.volume.now c.loop-taken.volume c.take_turn.new.volume (c.loop-taken.invariant.runs client) (c.take_turn.ensures.runs client)

pub loop-taken-init : goal.loop-taken-init
loop-taken-init g c = record {
  goes = goes_nowhere c.args.volume.now;
  taken = takes_none c.args.volume.now.plan c.args.volume.now.log;
  chosen = λ h. h;
  runs = λ client. AtFirst;
}
