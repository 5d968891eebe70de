use Rattle.std.proofs.Common.{◌≡◌, ◌++◌, length}
use Rattle.std.specs.Prelude.{string_bytes, flat_map}
use Rattle.afr_model.specs.ReportObjects.{marks_lines}
use Rattle.afr_base.specs.Rising.{IsRising}
use Rattle.afr_report_info.proofs.marks.push_all_marks.Given as goal

abbrev pub invariant-loop-left : goal.invariant-loop-left
invariant-loop-left l = record {
  rising : IsRising 0 l.left;
  text : string_bytes l.out ++ flat_map (marks_lines l.plan l.looked) l.left ≡ string_bytes l.fn.out ++ flat_map (marks_lines l.plan l.looked) l.fn.among;
}

abbrev pub decreases-loop-left : goal.decreases-loop-left
decreases-loop-left l = length l.left
