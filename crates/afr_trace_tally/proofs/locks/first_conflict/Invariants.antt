use Rattle.std.proofs.Common.{◌≡◌, drop}
use Rattle.afr_lines.specs.Overlap.{overlap}
use Rattle.afr_lines.specs.Locks.{first_conflict}
use Rattle.afr_trace_tally.proofs.locks.first_conflict.Given as goal

abbrev pub invariant-loop-lock : goal.invariant-loop-lock
invariant-loop-lock l = first_conflict overlap (record { owner = l.a; domain = l.domain; area = l.area }) l.locks ≡ first_conflict overlap (record { owner = l.a; domain = l.domain; area = l.area }) (drop l.lock-index l.locks)
