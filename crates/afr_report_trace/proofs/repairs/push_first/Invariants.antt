use Rattle.std.proofs.Common.{◌≡◌, ◌++◌, take}
use Rattle.std.specs.Prelude.{string_bytes, codes, decimal, flat_map}
use Rattle.afr_report_trace.proofs.repairs.push_first.Given as goal

abbrev pub invariant-loop-i : goal.invariant-loop-i
invariant-loop-i l = string_bytes l.out ≡ string_bytes l.fn.out ++ flat_map (λ n. codes " " ++ decimal n) (take l.count (take l.i l.numbers))
