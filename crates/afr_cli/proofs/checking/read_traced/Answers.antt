-- Why there is no plan part, and that the plan could be run.
use Rattle.std.proofs.Common.{◌∙◌, ap, take}
use Rattle.afr_cli.proofs.CheckLemmas.{is_faulty_part}
use Rattle.afr_cli.proofs.checking.read_traced.Goals as goal

pub returns-in-Err-Refused-clause-refused : goal.returns-in-Err-Refused-clause-refused
returns-in-Err-Refused-clause-refused g c = λ fault e.
    let front = c.split_at.ensures.front ∙ ap (take c.plan_len-plan_len.result) c.deref-2.ensures.value in
    is_faulty_part _ _ _ _ _ c.in_ok-bytes.ensures.ok (rw c.deref.ensures.value at c.plan_len-plan_len.ensures.part) front fault (c.in-Err-Refused.ensures.refused fault cc)

pub returns-in-Ok-clause-runnable : goal.returns-in-Ok-clause-runnable
returns-in-Ok-clause-runnable g c = c.every_spelled_plan_runs.ensures.runs _ _ c.in-Ok.ensures.read
