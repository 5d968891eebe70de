use Rattle.std.proofs.Common.{[]}
use Rattle.afr_trace_tally.specs.Bricks.{IsBrickTally}
use Rattle.afr_trace_tally.proofs.PlaceLemmas.{each_pushed, length_pushed}
use Rattle.afr_trace_tally.proofs.bricks.new_bricks.Goals as goal

pub loop-b-preserved : goal.loop-b-preserved
loop-b-preserved c = record {
  count = length_pushed c.loop-b.bricks.items _ c.in_ok-brick.brick c.loop-b.b c.in_ok-push.ensures.items c.loop-b.invariant.count;
  each = each_pushed (IsBrickTally c.args.plan.now []) c.loop-b.bricks.items _ c.in_ok-brick.brick c.loop-b.b c.in_ok-push.ensures.items c.loop-b.invariant.count c.in_ok-brick.ensures c.loop-b.invariant.each;
}
