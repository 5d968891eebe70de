-- The owner of the conflict of the least grant number, of all, is the first one in the list.
use Rattle.std.proofs.Common.{ap, ◌∙◌}
use Rattle.afr_range_locks.specs.Granted.{owner_of}
use Rattle.afr_range_locks.proofs.ConflictLemmas.{owner_first}
use Rattle.afr_range_locks.proofs.GrantedLemmas.{are_lower}
use Rattle.afr_range_locks.proofs.table.blocked_by.Goals as goal

pub returns-then-len-le1 : goal.returns-then-len-le1
returns-then-len-le1 g c =
    c.owner_of.ensures ∙ ap owner_of c.of_one.ensures
    ∙ owner_first g.A.Lockable.overlap c.args.wanted.now c.args.next c.args.locks.now.entries (are_lower g.A.Lockable.at c.args.next c.args.locks.now.entries c.requires.filed)

pub returns-then-len-le-FEW : goal.returns-then-len-le-FEW
returns-then-len-le-FEW g c =
    c.owner_of-then-len-le-FEW.ensures ∙ ap owner_of c.first_of_all.ensures
    ∙ owner_first g.A.Lockable.overlap c.args.wanted.now c.args.next c.args.locks.now.entries (are_lower g.A.Lockable.at c.args.next c.args.locks.now.entries c.requires.filed)
