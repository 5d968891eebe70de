use Rattle.std.proofs.Common.{◌≡◌, length}
use Rattle.afr_plan.specs.TextLines.{text_of}
use Rattle.afr_plan.specs.Judging.{reading, reading_on}
use Rattle.afr_plan_read.proofs.lines.read_lines.Given as goal

abbrev pub invariant-loop-line : goal.invariant-loop-line
invariant-loop-line l = reading_on (text_of l.rest).tail (text_of l.rest).lines l.lines ≡ reading l.fn.bytes

abbrev pub decreases-loop-line : goal.decreases-loop-line
decreases-loop-line l = length l.rest
