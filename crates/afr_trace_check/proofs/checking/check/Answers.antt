use Rattle.std.proofs.Common.{List, ap, arith, length, refl}
use Rattle.afr_trace_read.specs.declared.trace.SpelledLine.{SpelledLine}
use Rattle.afr_trace_check.proofs.FeedLemmas.{read_few}
use Rattle.afr_trace_check.proofs.checking.check.Goals as goal

pub check_lines-requires-clause-few : goal.check_lines-requires-clause-few
check_lines-requires-clause-few c =
    omega (arith, read_few c.args.plan.now c.args.text.now c.in-Ok.trace.lines.items _ c.in-Ok.ensures.ok refl c.in-Ok.ensures.few, ap (λ (xs : List SpelledLine). length xs) c.as_slice.ensures.value)
