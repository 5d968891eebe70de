use Rattle.std.proofs.Common.{◌≡◌, take, reverse}
use Rattle.afr_trace_safe.specs.Touched.{begun_objects}
use Rattle.afr_trace_safe.proofs.touching.begun_objects.Given as goal

abbrev pub invariant-loop-position : goal.invariant-loop-position
invariant-loop-position l = l.objects.items ≡ begun_objects l.a.0 (reverse (take l.position l.log))
