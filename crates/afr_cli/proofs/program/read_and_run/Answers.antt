-- A refusal and a text that were cut off, and the plan that was run.
use Rattle.afr_cli.proofs.FormLemmas.{spelled_is_plan}
use Rattle.afr_cli.proofs.StatusLemmas.{stops_at_refusal, stops_at_text, refused, run_is_spelled, spelled_or_none}
use Rattle.afr_cli.proofs.program.read_and_run.Goals as goal

pub returns-in-Ok-clause-write : goal.returns-in-Ok-clause-write
returns-in-Ok-clause-write g c = λ e. let cut = c.run_plan.ensures.write e in (
  cut.0,
  λ words asked. stops_at_text words _ _ _ _ _ _ _ asked (spelled_is_plan _ _ _ _ c.requires.reading (run_is_spelled _ _ _ c.in-Ok.ensures.ok _ (c.run_plan.ensures.ran (λ h. cc)))) cut.2 cut.3 cut.1,
)

pub returns-in-Ok-clause-plan : goal.returns-in-Ok-clause-plan
returns-in-Ok-clause-plan g c = spelled_or_none _ _ _ c.in-Ok.ensures.ok _ c.run_plan.ensures.plan

pub returns-in-Err-Refused-clause-refused : goal.returns-in-Err-Refused-clause-refused
returns-in-Err-Refused-clause-refused g c = λ e. let told = rw c.in-Err-Refused.fault-is at (c.refuse.ensures.refused e) in (refused _ _ c.in-Err-Refused.fault _ _ (c.in-Err-Refused.ensures.refused c.in-Err-Refused.fault cc) told, c.requires.fresh)

pub returns-in-Err-Refused-clause-write : goal.returns-in-Err-Refused-clause-write
returns-in-Err-Refused-clause-write g c = λ e. let cut = rw c.in-Err-Refused.fault-is at (c.refuse.ensures.write e) in (
  cut.0,
  λ words asked. stops_at_refusal words _ _ _ _ _ _ c.in-Err-Refused.fault (record { form = c.args.form; asked = asked; reading = c.requires.reading }) (c.in-Err-Refused.ensures.refused c.in-Err-Refused.fault cc) c.requires.fresh cut.1,
)
