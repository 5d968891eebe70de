use Rattle.afr_object.specs.Tables.{key_cmp}
use Rattle.afr_trace_tally.proofs.ContentLemmas.{none_in_order}
use Rattle.afr_trace_tally.proofs.contents.attrs_in.Goals as goal

pub returns-in-Nothing-clause-order : goal.returns-in-Nothing-clause-order
returns-in-Nothing-clause-order c = rw c.new.ensures (none_in_order key_cmp)

pub returns-in-Bytes-clause-order : goal.returns-in-Bytes-clause-order
returns-in-Bytes-clause-order c = rw c.new-in-Bytes.ensures (none_in_order key_cmp)

pub returns-in-Names-clause-order : goal.returns-in-Names-clause-order
returns-in-Names-clause-order c = rw c.new-in-Names.ensures (none_in_order key_cmp)
