-- The one entry's key is the first, where its lock is equal.
use Rattle.std.proofs.Common.{Bool, Some, None, ap, ◌∙◌, if◌then◌else◌}
use Rattle.afr_range_locks.proofs.OneLemmas.{equal_of_one}
use Rattle.afr_range_locks.proofs.table.equal_of_one.Goals as goal

pub returns-in-Some : goal.returns-in-Some
returns-in-Some g c =
    c.key_if.ensures ∙ ap (λ (is : Bool). if is then Some c.in-Some.key.now else None) c.is_lock.ensures ∙ equal_of_one g.A.Lockable.same c.args.held.now (c.in-Some.key.now, c.in-Some.lock.now) c.args.locks.now.entries c.requires c.in-Some.ensures.first
