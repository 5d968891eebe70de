-- Who doesn't wait wasn't told so, or the log is full.
use Rattle.std.proofs.Common.{◌∙◌, sym, inl, inr}
use Rattle.afr_live.proofs.shared.Shared.waits.Goals as goal

pub returns-then-is_full : goal.returns-then-is_full
returns-then-is_full g c = λ actor off. inr (c.is_full.ensures c.if-is_full.true)

pub returns : goal.returns
returns g c = λ actor off. inl (sym (c.is_held.ensures actor) ∙ off)
