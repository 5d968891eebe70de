-- The lock that is held is taken out where it is equal.
use Rattle.std.proofs.Common.{◌∙◌, sym}
use Rattle.afr_range_locks.proofs.OneLemmas.{left_in, taken_out}
use Rattle.afr_range_locks.proofs.table.release_one.Goals as goal

pub returns-in-Some : goal.returns-in-Some
returns-in-Some g c = taken_out g.A.Lockable.same c.args.held.now c.in-Some.field-0 c.pop_first.result c.args.locks.now.entries _ c.requires (sym c.in-Some.is ∙ c.equal_of_one.ensures) c.pop_first.ensures.removal c.pop_first.ensures.variant.1

pub returns-in_default : goal.returns-in_default
returns-in_default g c = left_in g.A.Lockable.same c.args.held.now c.args.locks.now.entries c.requires c.in_default.ensures
