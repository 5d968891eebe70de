use Rattle.std.proofs.Common.{◌≡◌, ◌++◌, drop}
use Rattle.std.specs.Prelude.{string_bytes}
use Rattle.afr_report_trace.specs.Numbers.{commas_from, given, with_commas}
use Rattle.afr_report_trace.proofs.numbers.push_given.Given as goal

abbrev pub invariant-loop-number : goal.invariant-loop-number
invariant-loop-number l = string_bytes l.out ++ commas_from l.first (given (drop l.number-index l.numbers)) ≡ string_bytes l.fn.out ++ with_commas (given l.numbers)
