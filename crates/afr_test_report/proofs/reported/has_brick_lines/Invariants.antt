use Rattle.std.proofs.Common.{take, reverse}
use Rattle.afr_report.specs.BrickLines.{AreBrickLines}
use Rattle.afr_test_report.proofs.reported.has_brick_lines.Given as goal

abbrev pub invariant-loop-line : goal.invariant-loop-line
invariant-loop-line l = AreBrickLines (reverse (take l.line-index l.log))
