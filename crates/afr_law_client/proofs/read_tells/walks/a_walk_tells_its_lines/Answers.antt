use Rattle.afr_law_client.proofs.Read.Untouched.{touches_nothing}
use Rattle.afr_law_client.proofs.Read.Walking.{walk_tells_first, walk_tells_more}
use Rattle.afr_law_client.proofs.Read.WalksEnd.{about, arrives, stops}
use Rattle.afr_law_client.proofs.read_tells.walks.a_walk_tells_its_lines.Goals as goal

pub returns-clause-begins : goal.returns-clause-begins
returns-clause-begins c = walk_tells_first

pub returns-clause-more : goal.returns-clause-more
returns-clause-more c = walk_tells_more

pub returns-clause-about : goal.returns-clause-about
returns-clause-about c = about

pub returns-clause-stops : goal.returns-clause-stops
returns-clause-stops c = stops

pub returns-clause-arrives : goal.returns-clause-arrives
returns-clause-arrives c = arrives

pub returns-clause-untouched : goal.returns-clause-untouched
returns-clause-untouched c = touches_nothing
