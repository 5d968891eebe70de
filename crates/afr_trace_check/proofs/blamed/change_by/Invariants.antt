use Rattle.std.proofs.Common.{◌≡◌, take, reverse}
use Rattle.afr_lines.specs.Work.{work}
use Rattle.std.specs.Option.{option_copied}
use Rattle.afr_model.specs.Standing.{change_by}
use Rattle.afr_trace_check.proofs.blamed.change_by.Given as goal

abbrev pub invariant-loop-position : goal.invariant-loop-position
invariant-loop-position l = option_copied l.found ≡ change_by (work l.a.0 (reverse (take l.position l.log)))
