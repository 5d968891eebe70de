use Rattle.std.proofs.Common.{ap, ◌∙◌}
use Rattle.std.proofs.lemmas.Option.{same_Some}
use Rattle.afr_lines.specs.declared.line.Line.{Line}
use Rattle.afr_log.specs.Log.{told_line}
use Rattle.afr_model.specs.Report.{started_by}
use Rattle.afr_report.proofs.ToldLemmas.{shown_brick}
use Rattle.afr_report.proofs.events.started_at.Goals as goal

pub started_told-requires : goal.started_told-requires
started_told-requires c = shown_brick c.args.log.now.items c.args.at (told_line c.in-Some.told) c.in-Some.ensures c.requires

pub returns-in-Some-clause-line : goal.returns-in-Some-clause-line
returns-in-Some-clause-line c line e = c.started_told.ensures ∙ ap (λ (l : Line). started_by l c.args.bricks) (same_Some _ _ (c.in-Some.ensures ∙ e))
