-- A list that is there, or none.
use Rattle.std.proofs.Common.{◌∙◌, ap}
use Rattle.afr_report.specs.Workers.{length_of}
use Rattle.afr_report.proofs.workers.items.listed.Goals as goal

pub returns-in-Some-clause-value : goal.returns-in-Some-clause-value
returns-in-Some-clause-value c = c.len.ensures ∙ ap length_of c.in-Some.ensures

pub returns-in-None-clause-value : goal.returns-in-None-clause-value
returns-in-None-clause-value c = ap length_of c.in-None.ensures
