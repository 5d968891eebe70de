use Rattle.std.proofs.Common.{sym, ◌∙◌}
use Rattle.afr_base.specs.Bricks.{member}
use Rattle.afr_report_trace.proofs.FiveLemmas.{added, passed}
use Rattle.afr_report_trace.proofs.numbers.push_members.Goals as goal
use Rattle.afr_report_trace.proofs.numbers.push_members.Goals.{then-has+in_ok-push_next, else-has}

pub loop-number-preserved : goal.loop-number-preserved
loop-number-preserved c =
    elim c.if-has.branch [
      | then-has+in_ok-push_next w ↦ rw (w.out-is, w.first-is) (added (member c.args.bricks) c.loop-number.first c.loop-number.number _ _ _ c.loop-number-test.true (sym c.has.ensures ∙ w.if-has.true) (rw w.from.ensures at w.in_ok-push_next.ensures.ok) c.loop-number.invariant)
      | else-has w ↦ rw (w.out-is, w.first-is) (passed (member c.args.bricks) c.loop-number.first c.loop-number.number _ _ c.loop-number-test.true (sym c.has.ensures ∙ w.if-has.false) c.loop-number.invariant)
    ]
