-- A request kills nobody.
use Rattle.std.proofs.Common.{◌∙◌, ◌||◌, refl}
use Rattle.afr_lines.specs.Work.{kills}
use Rattle.afr_lines.specs.declared.line.Line.{Line}
use Rattle.afr_log.specs.Log.{told_line}
use Rattle.afr_report.proofs.WorkerLemmas.{shown_says, unshown_says}
use Rattle.afr_report.proofs.workers.tally.kills_at.Goals as goal

pub returns-in-Some : goal.returns-in-Some
returns-in-Some c = λ line there. c.kills_worker.ensures ∙ shown_says (λ (x : Line). kills 18 x || kills 19 x) c.args.log.now.items c.args.at (told_line c.in-Some.told) line c.in-Some.ensures there

pub returns-in-None : goal.returns-in-None
returns-in-None c = λ line there. unshown_says (λ (x : Line). kills 18 x || kills 19 x) _ (λ x b asked told took. refl) c.args.log.now.items c.args.at line c.in-None.ensures there
