use Rattle.std.proofs.Common.{◌≡◌, ◌-◌, length, drop}
use Rattle.afr_model.specs.ReportObjects.{joined_into}
use Rattle.afr_report_info.proofs.marked.join.Given as goal

abbrev pub invariant-loop-i : goal.invariant-loop-i
invariant-loop-i l = l.index ≡ joined_into l.fn.index (drop (length l.list - l.i) l.list)
