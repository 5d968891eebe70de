use Rattle.afr_test_workers.proofs.tests.set_up.Goals as goal

pub set_up-requires : goal.set_up-requires
set_up-requires c = record { runs = c.every_spelled_plan_runs.ensures.runs _ _ c.in-Ok.ensures.read }
