use Rattle.std.proofs.Common.{◌∙◌, sym, ap, arith, length, append_assoc}
use Rattle.afr_base.proofs.RisingLemmas.{lowest_first}
use Rattle.afr_report_info.proofs.marks.push_missed.Goals as goal

pub loop-brick-smaller : goal.loop-brick-smaller
loop-brick-smaller c =
    let first = lowest_first c.loop-brick.left c.without-left.result c.lowest-other.result.0 (sym c.is_empty.ensures ∙ c.loop-brick-test.true) c.loop-brick.invariant.rising c.lowest-other.ensures.number c.without-left.ensures in
    omega (arith, ap length first.0)

pub loop-brick-preserved : goal.loop-brick-preserved
loop-brick-preserved c =
    let first = lowest_first c.loop-brick.left c.without-left.result c.lowest-other.result.0 (sym c.is_empty.ensures ∙ c.loop-brick-test.true) c.loop-brick.invariant.rising c.lowest-other.ensures.number c.without-left.ensures in
    record {
      rising = first.1;
      text = rw (c.in_ok-push_mark.ensures.ok, append_assoc) (rw first.0 at c.loop-brick.invariant.text);
    }
