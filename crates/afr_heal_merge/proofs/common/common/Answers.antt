use Rattle.std.proofs.Common.{refl}
use Rattle.afr_heal_merge.proofs.OneList.{is_merge}
use Rattle.afr_heal_merge.proofs.common.common.Goals as goal

pub returns-clause-merge : goal.returns-clause-merge
returns-clause-merge c = is_merge c.in-Some.names.now c.args.lists.now c.in-Some.ensures (c.if-not-are_all.ensures refl) (c.if-not-is_rising.ensures refl)

pub returns-clause-order : goal.returns-clause-order
returns-clause-order c = c.if-not-is_rising.ensures refl
