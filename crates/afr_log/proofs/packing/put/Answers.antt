-- The entries have one more, and show its line.
use Rattle.std.proofs.Common.{refl}
use Rattle.afr_log.proofs.Entries.{lines_push, there_push}
use Rattle.afr_log.proofs.packing.put.Goals as goal

pub returns-clause-lines : goal.returns-clause-lines
returns-clause-lines c kept = rw c.push_reserved.ensures.items (lines_push kept c.args.packed.now.items c.args.entry _ refl)

pub returns-clause-there : goal.returns-clause-there
returns-clause-there c count is all = rw c.push_reserved.ensures.items (there_push count c.args.packed.now.items c.args.entry all is)
