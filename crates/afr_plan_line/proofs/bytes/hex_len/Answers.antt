use Rattle.std.proofs.Common.{◌∙◌, sym}
use Rattle.afr_plan.specs.Bytes.{hex_digit}
use Rattle.afr_plan_line.proofs.RunLemmas.{all_run}
use Rattle.afr_plan_line.proofs.bytes.hex_len.Goals as goal

pub returns-then-are_hex_digits : goal.returns-then-are_hex_digits
returns-then-are_hex_digits c = sym (all_run hex_digit c.args.bytes.now (sym c.are_hex_digits.ensures ∙ c.if-are_hex_digits.true))
