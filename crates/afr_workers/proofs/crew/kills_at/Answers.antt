-- A request kills nobody.
use Rattle.std.proofs.Common.{◌∙◌, ap}
use Rattle.afr_log.specs.Log.{told_line, unasked}
use Rattle.afr_workers.proofs.KilledLemmas.{kills_shown, kills_unshown}
use Rattle.afr_workers.proofs.crew.kills_at.Goals as goal

pub returns-in-Some : goal.returns-in-Some
returns-in-Some c = λ line there. c.kills.ensures ∙ kills_shown c.args.a (told_line c.in-Some.told) line (c.in-Some.ensures ∙ ap unasked there)

pub returns-in-None : goal.returns-in-None
returns-in-None c = λ line there. kills_unshown c.args.a line (c.in-None.ensures ∙ ap unasked there)
