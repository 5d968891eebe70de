use Rattle.afr_object.specs.Tables.{key_cmp}
use Rattle.afr_trace_tally.proofs.ContentLemmas.{none_in_order}
use Rattle.afr_trace_tally.proofs.contents.attrs_of.Goals as goal

pub returns-in-Err-NoObject-clause-order : goal.returns-in-Err-NoObject-clause-order
returns-in-Err-NoObject-clause-order c = rw c.new.ensures (none_in_order key_cmp)
