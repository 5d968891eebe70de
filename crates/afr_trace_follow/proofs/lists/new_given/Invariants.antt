use Rattle.std.proofs.Common.{◌≡◌, [], length}
use Rattle.afr_plan.specs.declared.plan.Plan.{Plan}
use Rattle.afr_trace_follow.specs.Lists.{IsGivenTo}
use Rattle.afr_trace_tally.proofs.PlaceLemmas.{EachAt}
use Rattle.afr_trace_follow.proofs.lists.new_given.Given as goal

abbrev pub invariant-loop-i : goal.invariant-loop-i
invariant-loop-i l = record {
  count : length l.given.items ≡ l.i;
  each : (p : Plan) → EachAt (IsGivenTo p []) l.given.items;
}
