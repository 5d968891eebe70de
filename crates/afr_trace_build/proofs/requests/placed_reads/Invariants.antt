use Rattle.std.proofs.Common.{◌≡◌, reverse, length}
use Rattle.afr_trace_build.specs.Requests.{no_slots, placed_reads}
use Rattle.afr_trace_build.proofs.requests.placed_reads.Given as goal

abbrev pub invariant-loop-rest : goal.invariant-loop-rest
invariant-loop-rest l = placed_reads (reverse l.log) l.next l.slots l.rest ≡ placed_reads (reverse l.fn.log) 0 no_slots l.fn.reads

abbrev pub decreases-loop-rest : goal.decreases-loop-rest
decreases-loop-rest l = length l.rest
