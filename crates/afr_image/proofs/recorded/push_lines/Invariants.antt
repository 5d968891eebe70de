use Rattle.std.proofs.Common.{◌≡◌, ◌≤◌, ◌+◌, ◌*◌, ◌++◌, length, map, take, vec_capacity, vec_len}
use Rattle.afr_image.specs.Steps.{step_of, steps_bytes}
use Rattle.afr_image.proofs.recorded.push_lines.Given as goal

-- the bytes of the steps of the lines so far stand there, and there is room for those of the rest
abbrev pub invariant-loop-at : goal.invariant-loop-at
invariant-loop-at l = record {
  items : l.out.items ≡ l.fn.out.items ++ steps_bytes (map step_of (take l.at l.log.items));
  room : vec_len l.out + 3 * length l.log.items ≤ vec_capacity l.out + 3 * l.at;
}
