use Rattle.std.proofs.Common.{[], ◌∷◌, ◌+◌, ◌≡◌, true, Ok, ap, arith}
use Rattle.std.specs.List.{range_with_len}
use Rattle.std.proofs.lemmas.Grind.{common_steps}
use Rattle.afr_model.specs.Actors.{is_done}
use Rattle.afr_volume.proofs.GoingLemmas.{goes_nowhere, goes_then, takes_none, takes_then, front_then, ends_true}
use Rattle.afr_order.proofs.OrderLemmas.{range_more, front_of_range}
use Rattle.afr_volume.proofs.DoneLemmas.{row_each}
use Rattle.afr_order.proofs.OnwardLemmas.{extends_none, extends_then}
use Rattle.afr_order.proofs.rows.take_row.Goals as goal

pub take_turn-requires : goal.take_turn-requires
take_turn-requires g c = record { rule = c.requires.rule; read_rule = c.requires.read_rule; actor = rw c.loop-i.invariant.goes.plan (c.requires.actors c.loop-i.i c.loop-i-test.true) }

pub returns-in_err-take_turn-clause-front : goal.returns-in_err-take_turn-clause-front
returns-in_err-take_turn-clause-front g c =
    front_of_range c.args.volume.now.plan c.args.volume.now.log c.take_turn.new.volume.log c.args.first (c.loop-i.i + 1) c.args.count (omega arith)
    (rw range_more (front_then c.args.volume.now c.loop-i.volume c.take_turn.new.volume (range_with_len c.args.first c.loop-i.i) ((c.args.first + c.loop-i.i) ∷ []) c.loop-i.invariant.goes c.loop-i.invariant.taken c.take_turn.ensures.front))

pub returns-then-not-branch-clause-front : goal.returns-then-not-branch-clause-front
returns-then-not-branch-clause-front g c =
    front_of_range c.args.volume.now.plan c.args.volume.now.log c.take_turn.new.volume.log c.args.first (c.loop-i.i + 1) c.args.count (omega arith)
    (rw range_more (front_then c.args.volume.now c.loop-i.volume c.take_turn.new.volume (range_with_len c.args.first c.loop-i.i) ((c.args.first + c.loop-i.i) ∷ []) c.loop-i.invariant.goes c.loop-i.invariant.taken c.take_turn.ensures.front))

pub loop-i-preserved : goal.loop-i-preserved
loop-i-preserved g c =
    let on : c.in_ok-take_turn.field-0 ≡ true = grind (arith, common_steps) in
    record {
      goes = goes_then c.args.volume.now c.loop-i.volume c.take_turn.new.volume c.loop-i.invariant.goes c.take_turn.ensures.goes;
      onto = extends_then c.args.volume.now.log c.loop-i.volume.log c.take_turn.new.volume.log c.loop-i.invariant.onto c.take_turn.ensures.onto;
      taken = rw range_more (takes_then c.args.volume.now c.loop-i.volume c.take_turn.new.volume (range_with_len c.args.first c.loop-i.i) ((c.args.first + c.loop-i.i) ∷ []) c.loop-i.invariant.goes c.loop-i.invariant.taken (ends_true c.loop-i.volume c.take_turn.new.volume _ _ on c.in_ok-take_turn.ensures.ok));
      done = row_each (λ a s. is_done s.plan a s.log ≡ true) c.args.volume.now c.loop-i.volume c.take_turn.new.volume c.args.first c.loop-i.i c.loop-i.invariant.goes c.take_turn.ensures.goes c.loop-i.invariant.done (c.in_ok-take_turn.ensures.done (ap Ok on));
      chosen = λ h. c.take_turn.ensures.chosen (c.loop-i.invariant.chosen h);
    }

pub loop-i-init : goal.loop-i-init
loop-i-init g c = record {
  goes = goes_nowhere c.args.volume.now;
  onto = extends_none c.args.volume.now.log;
  taken = takes_none c.args.volume.now.plan c.args.volume.now.log;
  done = λ still k low. absurd (omega (arith, low));
  chosen = λ h. h;
}

pub returns-in_err-take_turn-clause-onto : goal.returns-in_err-take_turn-clause-onto
returns-in_err-take_turn-clause-onto g c = extends_then c.args.volume.now.log c.loop-i.volume.log c.take_turn.new.volume.log c.loop-i.invariant.onto c.take_turn.ensures.onto

pub returns-then-not-branch-clause-onto : goal.returns-then-not-branch-clause-onto
returns-then-not-branch-clause-onto g c = extends_then c.args.volume.now.log c.loop-i.volume.log c.take_turn.new.volume.log c.loop-i.invariant.onto c.take_turn.ensures.onto
