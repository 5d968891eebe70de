use Rattle.afr_law_heal.proofs.Heard.Bringing.{heal_brings, holds_begun, holds_other}
use Rattle.afr_law_heal.proofs.Heard.Fitting.{heal_hears, index_listed}
use Rattle.afr_law_heal.proofs.Heard.Reading.{holds_more}
use Rattle.afr_law_heal.proofs.heals_heard.heals.a_heal_hears_what_it_asked.Goals as goal

pub returns-clause-hears : goal.returns-clause-hears
returns-clause-hears c = heal_hears

pub returns-clause-index : goal.returns-clause-index
returns-clause-index c = index_listed

pub returns-clause-more : goal.returns-clause-more
returns-clause-more c = holds_more

pub returns-clause-begun : goal.returns-clause-begun
returns-clause-begun c = holds_begun

pub returns-clause-other : goal.returns-clause-other
returns-clause-other c = holds_other

pub returns-clause-brings : goal.returns-clause-brings
returns-clause-brings c = heal_brings
