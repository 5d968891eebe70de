use Rattle.std.proofs.Common.{◌≡◌, ◌++◌, drop, reverse}
use Rattle.afr_trace_safe.specs.Touched.{all_lacked}
use Rattle.afr_trace_safe.proofs.touching.push_named.Given as goal

abbrev pub invariant-loop-x : goal.invariant-loop-x
invariant-loop-x l = l.objects.items ++ all_lacked l.plan (reverse l.log) l.b.0 (drop l.x-index l.names) ≡ l.fn.objects.items ++ all_lacked l.plan (reverse l.log) l.b.0 l.names
