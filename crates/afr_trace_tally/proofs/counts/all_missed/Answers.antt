use Rattle.afr_trace_tally.proofs.CountLemmas.{five_small}
use Rattle.afr_trace_tally.proofs.counts.all_missed.Goals as goal

pub returns-clause-small : goal.returns-clause-small
returns-clause-small c = five_small _ _ _ _ _ _ c.one_if.ensures.small c.one_if-2.ensures.small c.one_if-3.ensures.small c.one_if-4.ensures.small c.one_if-5.ensures.small
