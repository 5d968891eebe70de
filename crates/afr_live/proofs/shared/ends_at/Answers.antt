-- A request ends no work, and a line that is told as none is the one that stands there.
use Rattle.std.proofs.Common.{ap, ◌∙◌, sym}
use Rattle.afr_log.specs.Log.{unasked}
use Rattle.afr_live.proofs.EndLemmas.{told_ends, untold_ends}
use Rattle.afr_live.proofs.shared.ends_at.Goals as goal

pub returns-then-is_asked : goal.returns-then-is_asked
returns-then-is_asked c = λ line there. untold_ends line (sym (c.is_asked.ensures c.if-is_asked.true) ∙ ap unasked there)

pub returns-in-Some : goal.returns-in-Some
returns-in-Some c = λ line there. c.is_told_end.ensures ∙ told_ends line _ (c.in-Some.ensures ∙ ap unasked there)

pub returns-in-None : goal.returns-in-None
returns-in-None c = λ line there. untold_ends line (c.in-None.ensures ∙ ap unasked there)
