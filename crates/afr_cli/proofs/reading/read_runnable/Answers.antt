-- Why there is no plan, and that one can be run.
use Rattle.afr_cli.proofs.StatusLemmas.{is_faulty}
use Rattle.afr_cli.proofs.reading.read_runnable.Goals as goal

pub returns-in-Err-Refused-clause-refused : goal.returns-in-Err-Refused-clause-refused
returns-in-Err-Refused-clause-refused g c = λ fault e. is_faulty _ _ fault _ _ c.deref.ensures.value c.in_ok-bytes.ensures.ok (c.in-Err-Refused.ensures.refused fault cc)

pub returns-in-Ok-clause-runnable : goal.returns-in-Ok-clause-runnable
returns-in-Ok-clause-runnable g c = c.every_spelled_plan_runs.ensures.runs _ _ c.in-Ok.ensures.read
