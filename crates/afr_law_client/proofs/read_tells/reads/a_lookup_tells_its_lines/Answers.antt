use Rattle.afr_law_client.proofs.Read.ReadsMore.{about, ends, follows, tells_more}
use Rattle.afr_law_client.proofs.Read.ReadsTell.{begins}
use Rattle.afr_law_client.proofs.read_tells.reads.a_lookup_tells_its_lines.Goals as goal

pub returns-clause-begins : goal.returns-clause-begins
returns-clause-begins c = begins

pub returns-clause-more : goal.returns-clause-more
returns-clause-more c = tells_more

pub returns-clause-about : goal.returns-clause-about
returns-clause-about c = about

pub returns-clause-ends : goal.returns-clause-ends
returns-clause-ends c = ends

pub returns-clause-follows : goal.returns-clause-follows
returns-clause-follows c = follows
