use Rattle.afr_trace_follow.proofs.rounds.begins_round.Goals as goal

pub returns-in-Ask : goal.returns-in-Ask
returns-in-Ask c = rw c.in-Ask.is (c.asks_index.ensures c.in-Ask.actor c.in-Ask.told c.in-Ask.took)
