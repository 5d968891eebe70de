use Rattle.afr_law_client.proofs.Entry.Begins as first
use Rattle.afr_law_client.proofs.Entry.Ends as goes
use Rattle.afr_law_client.proofs.entry_tells.entries.an_entry_tells_its_lines.Goals as goal

pub returns-clause-begins : goal.returns-clause-begins
returns-clause-begins c = first.begins

pub returns-clause-more : goal.returns-clause-more
returns-clause-more c = goes.more

pub returns-clause-begun : goal.returns-clause-begun
returns-clause-begun c = goes.begun

pub returns-clause-about : goal.returns-clause-about
returns-clause-about c = goes.about

pub returns-clause-blames : goal.returns-clause-blames
returns-clause-blames c = goes.blames

pub returns-clause-ends : goal.returns-clause-ends
returns-clause-ends c = goes.ends
