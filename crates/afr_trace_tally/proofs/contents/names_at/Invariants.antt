use Rattle.std.proofs.Common.{◌≡◌, ◌-◌, length, drop, map}
use Rattle.afr_object.specs.Repairs.{merged}
use Rattle.afr_trace_tally.specs.Contents.{contents_seen, names_kept}
use Rattle.afr_trace_tally.proofs.contents.names_at.Given as goal

abbrev pub invariant-loop-i : goal.invariant-loop-i
invariant-loop-i l = l.names ≡ merged (names_kept (map contents_seen l.shown) (drop (length l.reads - l.i) l.reads))
