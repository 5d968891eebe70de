use Rattle.afr_trace_follow.proofs.path.path_shown.Goals as goal

pub returns-in-Ask-clause-value : goal.returns-in-Ask-clause-value
returns-in-Ask-clause-value c = rw c.in-Ask.is (c.path_asked.ensures.value c.in-Ask.actor c.in-Ask.brick c.in-Ask.took)
