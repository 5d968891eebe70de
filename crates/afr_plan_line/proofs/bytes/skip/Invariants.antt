use Rattle.std.proofs.Common.{◌≡◌, drop}
use Rattle.afr_plan.specs.Reading.{after}
use Rattle.afr_plan_line.proofs.bytes.skip.Given as goal

abbrev pub invariant-loop-w : goal.invariant-loop-w
invariant-loop-w l = after (drop l.w-index l.word) l.rest ≡ after l.fn.word l.fn.bytes
