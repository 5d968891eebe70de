-- A request ends no work.
use Rattle.std.proofs.Common.{◌∙◌, ℕ, if◌then◌else◌, refl}
use Rattle.afr_lines.specs.Work.{ends_work}
use Rattle.afr_lines.specs.declared.line.Line.{Line}
use Rattle.afr_log.specs.Log.{told_line}
use Rattle.afr_report.proofs.WorkerLemmas.{shown_says, unshown_says}
use Rattle.afr_report.proofs.workers.tally.ends_at.Goals as goal

pub returns-in-Some-clause-value : goal.returns-in-Some-clause-value
returns-in-Some-clause-value c = λ line there. c.ends.ensures.value ∙ shown_says (λ (x : Line). if ends_work c.args.a x then 1 else 0) c.args.log.now.items c.args.at (told_line c.in-Some.told) line c.in-Some.ensures there

pub returns-in-None-clause-value : goal.returns-in-None-clause-value
returns-in-None-clause-value c = λ line there. unshown_says (λ (x : Line). if ends_work c.args.a x then 1 else 0) 0 (λ x b asked told took. refl) c.args.log.now.items c.args.at line c.in-None.ensures there
