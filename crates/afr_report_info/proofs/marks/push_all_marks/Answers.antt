use Rattle.std.proofs.Common.{◌∙◌, sym, ap, arith, length, append_assoc}
use Rattle.afr_base.proofs.RisingLemmas.{lowest_first}
use Rattle.afr_report_info.proofs.marks.push_all_marks.Goals as goal

pub loop-left-smaller : goal.loop-left-smaller
loop-left-smaller c =
    let first = lowest_first c.loop-left.left c.without-left.result c.lowest-brick.result.0 (sym c.is_empty.ensures ∙ c.loop-left-test.true) c.loop-left.invariant.rising c.lowest-brick.ensures.number c.without-left.ensures in
    omega (arith, ap length first.0)

pub loop-left-preserved : goal.loop-left-preserved
loop-left-preserved c =
    let first = lowest_first c.loop-left.left c.without-left.result c.lowest-brick.result.0 (sym c.is_empty.ensures ∙ c.loop-left-test.true) c.loop-left.invariant.rising c.lowest-brick.ensures.number c.without-left.ensures in
    record {
      rising = first.1;
      text = rw (c.in_ok-push_marks.ensures.ok, append_assoc) (rw first.0 at c.loop-left.invariant.text);
    }
