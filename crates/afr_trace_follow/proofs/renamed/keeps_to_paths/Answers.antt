use Rattle.afr_trace_follow.proofs.renamed.keeps_to_paths.Goals as goal

pub returns-in-Ask : goal.returns-in-Ask
returns-in-Ask c = rw c.in-Ask.is (c.keeps_asked.ensures c.in-Ask.actor c.in-Ask.brick c.in-Ask.told c.in-Ask.took)

pub returns-in-Begin : goal.returns-in-Begin
returns-in-Begin c = rw c.in-Begin.is c.is_due_change.ensures
