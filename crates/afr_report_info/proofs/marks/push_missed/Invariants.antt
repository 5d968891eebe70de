use Rattle.std.proofs.Common.{◌≡◌, ◌++◌, length}
use Rattle.std.specs.Prelude.{string_bytes}
use Rattle.afr_base.specs.Rising.{IsRising}
use Rattle.afr_report_info.specs.Shown.{missed_lines}
use Rattle.afr_report_info.proofs.marks.push_missed.Given as goal

abbrev pub invariant-loop-brick : goal.invariant-loop-brick
invariant-loop-brick l = record {
  rising : IsRising 0 l.left;
  text : string_bytes l.out ++ missed_lines l.brick.0 l.view l.left ≡ string_bytes l.fn.out ++ missed_lines l.brick.0 l.view l.fn.missing;
}

abbrev pub decreases-loop-brick : goal.decreases-loop-brick
decreases-loop-brick l = length l.left
