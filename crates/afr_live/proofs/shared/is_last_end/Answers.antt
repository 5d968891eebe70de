-- The newest line stands at the last position.
use Rattle.std.proofs.Common.{◌-◌, length, arith, ap, ◌∙◌}
use Rattle.std.proofs.lemmas.List.{length-reverse}
use Rattle.afr_live.proofs.EndLemmas.{newest_line}
use Rattle.afr_live.proofs.shared.is_last_end.Goals as goal

pub overflow_sub-len : goal.overflow_sub-len
overflow_sub-len c = omega (arith, c.len.ensures, c.requires.some, length-reverse c.lines-log.result.now.items, ap length c.lines-log.ensures)

pub returns : goal.returns
returns c = λ line older e. c.ends_at.ensures line (newest_line c.lines-log.result.now.items older line (c.len.result - 1) (c.lines-log.ensures ∙ e) (omega (arith, c.len.ensures, length-reverse c.lines-log.result.now.items, ap length (c.lines-log.ensures ∙ e))))
