use Rattle.std.proofs.Common.{◌≡◌, ◌-◌, length, drop}
use Rattle.afr_object.specs.Repairs.{merged_into}
use Rattle.afr_trace_tally.proofs.contents.merge_names.Given as goal

abbrev pub invariant-loop-i : goal.invariant-loop-i
invariant-loop-i l = l.into ≡ merged_into l.fn.into (drop (length l.names - l.i) l.names)
