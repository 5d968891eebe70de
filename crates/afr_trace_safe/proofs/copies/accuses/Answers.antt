use Rattle.std.proofs.Common.{reverse}
use Rattle.afr_trace_safe.proofs.AccusedLemmas.{accused_by}
use Rattle.afr_trace_safe.proofs.copies.accuses.Goals as goal

pub returns : goal.returns
returns c = accused_by c.args.plan.now (reverse c.args.log.now) c.args.g c.args.kind c.args.x.0 c.args.c.0 c.marks-marks.result c.marks-marks.ensures c.requires.accused
