use Rattle.afr_object.specs.Tables.{name_cmp}
use Rattle.afr_trace_tally.proofs.ContentLemmas.{none_in_order}
use Rattle.afr_trace_tally.proofs.contents.names_of.Goals as goal

pub returns-in-Err-NoObject-clause-order : goal.returns-in-Err-NoObject-clause-order
returns-in-Err-NoObject-clause-order c = rw c.new.ensures (none_in_order name_cmp)
