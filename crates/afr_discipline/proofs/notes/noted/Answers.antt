use Rattle.afr_discipline.proofs.notes.noted.Goals as goal

pub returns-in-Ask : goal.returns-in-Ask
returns-in-Ask c = rw c.in-Ask.is c.noted_ask.ensures
