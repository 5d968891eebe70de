use Rattle.std.proofs.Common.{sym, ◌∙◌}
use Rattle.afr_lines.specs.LogLemmas.{from_oldest-reverse}
use Rattle.afr_lines.proofs.log.line_at.Goals as goal

pub returns : goal.returns
returns c = c.item_at.ensures ∙ sym (from_oldest-reverse c.args.log.now c.args.position)
