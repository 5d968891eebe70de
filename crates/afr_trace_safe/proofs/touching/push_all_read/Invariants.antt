use Rattle.std.proofs.Common.{◌≡◌, ◌++◌, drop, reverse}
use Rattle.afr_trace_safe.specs.Touched.{all_read_objects}
use Rattle.afr_trace_safe.proofs.touching.push_all_read.Given as goal

abbrev pub invariant-loop-read : goal.invariant-loop-read
invariant-loop-read l = l.objects.items ++ all_read_objects l.plan (reverse l.log) l.b.0 (drop l.read-index l.reads) ≡ l.fn.objects.items ++ all_read_objects l.plan (reverse l.log) l.b.0 l.reads
