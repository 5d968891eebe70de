use Rattle.std.proofs.Common.{◌≡◌, take, reverse}
use Rattle.afr_trace_check.specs.Works.{last_list}
use Rattle.afr_trace_check.proofs.showing.last_list.Given as goal

abbrev pub invariant-loop-position : goal.invariant-loop-position
invariant-loop-position l = l.found ≡ last_list l.a.0 (reverse (take l.position l.log))
