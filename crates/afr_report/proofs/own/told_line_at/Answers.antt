use Rattle.std.proofs.Common.{refl}
use Rattle.afr_report.proofs.own.told_line_at.Goals as goal

pub returns-then-is_asked : goal.returns-then-is_asked
returns-then-is_asked c = rw (c.is_asked.ensures c.if-is_asked.true) refl
