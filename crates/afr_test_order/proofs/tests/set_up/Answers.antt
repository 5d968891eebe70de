use Rattle.afr_test_order.proofs.tests.set_up.Goals as goal

pub with_turns-requires-clause-runnable : goal.with_turns-requires-clause-runnable
with_turns-requires-clause-runnable c = c.every_spelled_plan_runs.ensures.runs _ _ c.in-Ok.ensures.read
