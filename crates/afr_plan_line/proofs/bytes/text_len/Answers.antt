use Rattle.std.proofs.Common.{◌∙◌, ◌-◌, ◌<◌, length, sym, ap, arith}
use Rattle.afr_plan.specs.Bytes.{text_byte}
use Rattle.afr_plan_line.proofs.RunLemmas.{run_before}
use Rattle.afr_plan_line.proofs.bytes.text_len.Goals as goal

pub returns-then-are_text_bytes : goal.returns-then-are_text_bytes
returns-then-are_text_bytes c =
    let last : length c.args.bytes.now - 1 < length c.args.bytes.now = omega arith in
    sym (run_before text_byte c.args.bytes.now (length c.args.bytes.now - 1) last (sym c.are_text_bytes.ensures ∙ c.if-are_text_bytes.true) (ap text_byte c.if-bytes-count-eq34.true))
