-- The owner of the conflict that both searches find first is the first one in the list.
use Rattle.std.proofs.Common.{ap, ap₂, ◌∙◌, Option}
use Rattle.afr_range_locks.specs.Granted.{earlier, owner_of}
use Rattle.afr_range_locks.specs.declared.table.Conflict.{Conflict}
use Rattle.afr_range_locks.proofs.ReachLemmas.{found_at}
use Rattle.afr_range_locks.proofs.table.blocked_in_reach.Goals as goal

pub returns : goal.returns
returns g c =
    c.owner_of.ensures ∙ ap owner_of (c.earlier.ensures ∙ ap₂ (λ (a b : Option Conflict). earlier a b) c.first_in-first.ensures c.second_in-second.ensures)
    ∙ found_at g.A.Lockable.overlap g.A.Lockable.at c.args.wanted.now c.args.next c.reach-reach.result c.reach-reach.ensures.object c.reach-reach.ensures.start c.place.result c.place.ensures.value c.args.locks.now.entries c.requires.filed c.requires.fresh
