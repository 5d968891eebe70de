use Rattle.std.proofs.Common.{◌∙◌}
use Rattle.std.specs.Prelude.{string_bytes, decimal}
use Rattle.afr_plan_print.proofs.PrintedPartsLemmas.{second_line}
use Rattle.afr_plan_print.proofs.print.push_second.Goals as goal

pub returns : goal.returns
returns c = record { ok = c.in_ok-write.ensures.bytes ∙ second_line (string_bytes c.args.out.now) c.args.kind.now (decimal c.args.n) }
