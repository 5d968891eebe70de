use Rattle.std.proofs.Common.{refl}
use Rattle.afr_trace_check.proofs.told.all_marks.Goals as goal

pub returns : goal.returns
returns c = rw (c.marks.ensures, c.marks-2.ensures, c.marks-3.ensures) refl
