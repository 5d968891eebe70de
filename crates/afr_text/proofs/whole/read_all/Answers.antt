-- What was read before memory was refused.
use Rattle.afr_text.proofs.Parts.{consumes_more}
use Rattle.afr_text.proofs.whole.read_all.Goals as goal

pub returns-then-is_err-clause-kept : goal.returns-then-is_err-clause-kept
returns-then-is_err-clause-kept g c = (_, consumes_more _ _ _ _ _ c.loop-piece.invariant.came c.in-Ok.ensures.value.0)
