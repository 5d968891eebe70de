use Rattle.std.proofs.Common.{◌≡◌, ◌+◌, ◌-◌, ◌≤◌, drop, length, take_while}
use Rattle.afr_plan.specs.Bytes.{path_byte}
use Rattle.afr_plan_line.proofs.bytes.path_len.Given as goal

abbrev pub invariant-loop-count : goal.invariant-loop-count
invariant-loop-count l = record {
  within : l.count ≤ length l.bytes;
  run : length (take_while path_byte l.bytes) ≡ l.count + length (take_while path_byte (drop l.count l.bytes));
}

abbrev pub decreases-loop-count : goal.decreases-loop-count
decreases-loop-count l = length l.bytes - l.count
