use Rattle.afr_report_trace.specs.Answers.{told_text}
use Rattle.afr_report_trace.specs.Endings.{ending_text}
use Rattle.afr_report_trace.specs.Requests.{request_text}
use Rattle.afr_report_trace.proofs.RowLemmas.{asked_row}
use Rattle.afr_report_trace.proofs.rows.row_asked.Goals as goal

pub returns-clause-row : goal.returns-clause-row
returns-clause-row c =
    asked_row c.args.by.actor c.args.by.brick.0 c.in_ok-rest.rest (request_text c.args.plan.now c.args.request.now) (told_text c.args.told.now c.args.by.took) (ending_text c.ending_of-ending.result)
    c.in_ok-rest.ensures.grown c.requires.askers c.requires.actor c.requires.brick c.in_ok-rest.ensures.text c.ending_of-ending.ensures
