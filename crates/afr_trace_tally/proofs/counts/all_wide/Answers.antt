use Rattle.afr_trace_tally.proofs.CountLemmas.{five_small}
use Rattle.afr_trace_tally.proofs.counts.all_wide.Goals as goal

pub returns-clause-small : goal.returns-clause-small
returns-clause-small c = five_small _ _ _ _ _ _ c.wide.ensures.small c.wide-2.ensures.small c.wide-3.ensures.small c.wide-4.ensures.small c.wide-5.ensures.small
