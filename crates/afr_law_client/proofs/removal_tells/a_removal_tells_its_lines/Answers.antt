use Rattle.afr_law_client.proofs.Removal.About as about
use Rattle.afr_law_client.proofs.Removal.First as first
use Rattle.afr_law_client.proofs.Removal.More as goes
use Rattle.afr_law_client.proofs.removal_tells.a_removal_tells_its_lines.Goals as goal

pub returns-clause-begins : goal.returns-clause-begins
returns-clause-begins c = first.begins

pub returns-clause-more : goal.returns-clause-more
returns-clause-more c = goes.more

pub returns-clause-begun : goal.returns-clause-begun
returns-clause-begun c = goes.begun_on

pub returns-clause-about : goal.returns-clause-about
returns-clause-about c = about.about

pub returns-clause-blames : goal.returns-clause-blames
returns-clause-blames c = about.blames

pub returns-clause-ends : goal.returns-clause-ends
returns-clause-ends c = about.ends
