-- Each pass is one more, and one that added no line has found every actor done.
use Rattle.afr_volume.proofs.PlainLemmas.{plain_settled}
use Rattle.std.proofs.Common.{◌≡◌, ◌∙◌, ◌≤◌, Ok, ap, length, true, arith, suc}
use Rattle.std.proofs.lemmas.Grind.{common_steps}
use Rattle.afr_volume.proofs.DoneLemmas.{complete}
use Rattle.afr_volume.proofs.GoingLemmas.{done_then, goes_nowhere, goes_then, takes_none, ends_true}
use Rattle.afr_order.proofs.OrderLemmas.{front_of_passes, takes_pass}
use Rattle.afr_order.proofs.OnwardLemmas.{extends_none, extends_then}
use Rattle.afr_order.proofs.rows.all_passes.Goals as goal

pub returns-in_err-take_pass-clause-front : goal.returns-in_err-take_pass-clause-front
returns-in_err-take_pass-clause-front g c = front_of_passes c.args.volume.now c.loop-volume.volume c.take_pass.new.volume c.loop-volume.invariant.taken.0 c.loop-volume.invariant.goes c.loop-volume.invariant.taken.1 c.take_pass.ensures.front

pub returns-then-not-branch-clause-front : goal.returns-then-not-branch-clause-front
returns-then-not-branch-clause-front g c = front_of_passes c.args.volume.now c.loop-volume.volume c.take_pass.new.volume c.loop-volume.invariant.taken.0 c.loop-volume.invariant.goes c.loop-volume.invariant.taken.1 c.take_pass.ensures.front

pub returns-then-len-before-clause-front : goal.returns-then-len-before-clause-front
returns-then-len-before-clause-front g c = front_of_passes c.args.volume.now c.loop-volume.volume c.take_pass.new.volume c.loop-volume.invariant.taken.0 c.loop-volume.invariant.goes c.loop-volume.invariant.taken.1 c.take_pass.ensures.front

pub loop-volume-preserved : goal.loop-volume-preserved
loop-volume-preserved g c =
    let on : c.in_ok-take_pass.field-0 ≡ true = grind (arith, common_steps) in
    record {
      goes = goes_then c.args.volume.now c.loop-volume.volume c.take_pass.new.volume c.loop-volume.invariant.goes c.take_pass.ensures.goes;
      onto = extends_then c.args.volume.now.log c.loop-volume.volume.log c.take_pass.new.volume.log c.loop-volume.invariant.onto c.take_pass.ensures.onto;
      taken = (suc c.loop-volume.invariant.taken.0, takes_pass c.args.volume.now c.loop-volume.volume c.take_pass.new.volume c.loop-volume.invariant.taken.0 c.loop-volume.invariant.goes c.loop-volume.invariant.taken.1 (ends_true c.loop-volume.volume c.take_pass.new.volume _ _ on c.in_ok-take_pass.ensures.ok));
      chosen = λ h. c.take_pass.ensures.chosen (c.loop-volume.invariant.chosen h);
      done = done_then c.loop-volume.volume c.take_pass.new.volume _ c.take_pass.ensures.goes c.count_done-done.ensures;
    }

pub returns-then-len-before-clause-ok : goal.returns-then-len-before-clause-ok
returns-then-len-before-clause-ok g c =
    let on : c.in_ok-take_pass.field-0 ≡ true = grind (arith, common_steps) in
    let still : length c.take_pass.new.volume.log ≤ length c.loop-volume.volume.log = omega (arith, c.len.ensures, c.len-before.ensures, c.if-len-before.true) in
    complete c.take_pass.new.volume c.every_line.ensures.room (c.in_ok-take_pass.ensures.idle (ap Ok on) still) (plain_settled c.take_pass.new.volume (c.take_pass.ensures.goes.crawl ∙ c.loop-volume.invariant.goes.crawl ∙ c.requires.plain) c.every_line.ensures.settled)

pub returns-in_err-take_pass-clause-onto : goal.returns-in_err-take_pass-clause-onto
returns-in_err-take_pass-clause-onto g c = extends_then c.args.volume.now.log c.loop-volume.volume.log c.take_pass.new.volume.log c.loop-volume.invariant.onto c.take_pass.ensures.onto

pub returns-then-not-branch-clause-onto : goal.returns-then-not-branch-clause-onto
returns-then-not-branch-clause-onto g c = extends_then c.args.volume.now.log c.loop-volume.volume.log c.take_pass.new.volume.log c.loop-volume.invariant.onto c.take_pass.ensures.onto

pub returns-then-len-before-clause-onto : goal.returns-then-len-before-clause-onto
returns-then-len-before-clause-onto g c = extends_then c.args.volume.now.log c.loop-volume.volume.log c.take_pass.new.volume.log c.loop-volume.invariant.onto c.take_pass.ensures.onto

pub loop-volume-init : goal.loop-volume-init
loop-volume-init g c = record {
  goes = goes_nowhere c.args.volume.now;
  onto = extends_none c.args.volume.now.log;
  taken = (0, takes_none c.args.volume.now.plan c.args.volume.now.log);
  chosen = λ h. h;
  done = record { within = omega arith; done = λ k low. absurd (omega (arith, low)) };
}
