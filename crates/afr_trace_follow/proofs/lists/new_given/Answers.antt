use Rattle.std.proofs.Common.{[], arith}
use Rattle.afr_trace_follow.specs.Lists.{IsGivenTo}
use Rattle.afr_trace_tally.proofs.PlaceLemmas.{each_pushed, length_pushed}
use Rattle.afr_trace_follow.proofs.lists.new_given.Goals as goal

pub loop-i-preserved : goal.loop-i-preserved
loop-i-preserved c = record {
  count = length_pushed c.loop-i.given.items _ c.new-list.result c.loop-i.i c.in_ok-push.ensures.items c.loop-i.invariant.count;
  each = λ p. each_pushed (IsGivenTo p []) c.loop-i.given.items _ c.new-list.result c.loop-i.i c.in_ok-push.ensures.items c.loop-i.invariant.count c.new-list.ensures (c.loop-i.invariant.each p);
}

pub returns : goal.returns
returns c = λ p. record { three = omega (arith, c.loop-i.invariant.count, c.loop-i-test.false, c.loop-i.auto.i-end); each = c.loop-i.invariant.each p }
