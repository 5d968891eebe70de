use Rattle.std.proofs.Common.{◌≡◌, ◌++◌, drop, filter}
use Rattle.std.specs.Prelude.{string_bytes}
use Rattle.afr_base.specs.Bricks.{all_five, member}
use Rattle.afr_report_trace.specs.Numbers.{commas_from, with_commas}
use Rattle.afr_report_trace.proofs.numbers.push_members.Given as goal

abbrev pub invariant-loop-number : goal.invariant-loop-number
invariant-loop-number l = string_bytes l.out ++ commas_from l.first (filter (member l.bricks) (drop l.number all_five)) ≡ string_bytes l.fn.out ++ with_commas (filter (member l.bricks) all_five)
