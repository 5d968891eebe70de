use Rattle.std.proofs.Common.{◌≡◌, ◌≤◌, ◌+◌, ◌*◌, ◌++◌, length, take, vec_capacity, vec_len}
use Rattle.afr_image.specs.Steps.{steps_bytes}
use Rattle.afr_image.proofs.steps.push_steps.Given as goal

-- the bytes of the steps so far stand there, and there is room for those of the rest
abbrev pub invariant-loop-step : goal.invariant-loop-step
invariant-loop-step l = record {
  items : l.out.items ≡ l.fn.out.items ++ steps_bytes (take l.step-index l.steps);
  room : vec_len l.out + 3 * length l.steps ≤ vec_capacity l.out + 3 * l.step-index;
}
