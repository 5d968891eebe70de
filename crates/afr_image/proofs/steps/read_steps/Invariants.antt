use Rattle.std.proofs.Common.{◌≡◌, ◌++◌, drop}
use Rattle.afr_image.proofs.StepLemmas.{bad_after}
use Rattle.afr_image.specs.Steps.{first_bad, steps_in}
use Rattle.afr_image.proofs.steps.read_steps.Given as goal

-- the steps so far and those that are left are all, and none so far is bad
abbrev pub invariant-loop-i : goal.invariant-loop-i
invariant-loop-i l = record {
  all : l.steps.items ++ drop l.i (steps_in l.bytes) ≡ steps_in l.bytes;
  good : first_bad (steps_in l.bytes) ≡ bad_after l.i (first_bad (drop l.i (steps_in l.bytes)));
}
