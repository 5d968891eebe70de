use Rattle.afr_trace_follow.proofs.keeping.keeps_by.Goals as goal

pub returns-in-Ask : goal.returns-in-Ask
returns-in-Ask c = rw c.in-Ask.is (c.asks_next.ensures c.in-Ask.actor c.in-Ask.brick c.in-Ask.told c.in-Ask.took c.args.begins)
