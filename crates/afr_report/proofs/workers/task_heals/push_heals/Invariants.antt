-- The lines of the heals before the present one.
use Rattle.std.proofs.Common.{◌≡◌, ◌++◌, map, take}
use Rattle.std.specs.Prelude.{flat_map, string_bytes}
use Rattle.afr_log.specs.Log.{told_line}
use Rattle.afr_model.specs.ReportHealers.{heal_line}
use Rattle.afr_report.proofs.workers.task_heals.push_heals.Given as goal

abbrev pub invariant-loop-told : goal.invariant-loop-told
invariant-loop-told l = string_bytes l.out ≡ string_bytes l.fn.out ++ flat_map heal_line (map told_line (take l.told-index l.heals))
