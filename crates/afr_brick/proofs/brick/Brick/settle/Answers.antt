use Rattle.afr_base.specs.Marks.{taken_back}
use Rattle.afr_object.specs.Tables.{with_numbers}
use Rattle.afr_brick.proofs.IndexKept.{index_follows}
use Rattle.afr_brick.proofs.brick.Brick.settle.Goals as goal

pub invariant_of-self-2 : goal.invariant_of-self-2
invariant_of-self-2 c =
    let follows = rw c.in_ok-stays.ensures.ok at c.follow.ensures in
    rw c.in_ok-stays.ensures.ok (index_follows (with_numbers c.args.kind (taken_back c.args.less.now)) c.args.g c.self.inside.store.objects c.self.inside.index c.follow.new.index c.in_ok-stays.ensures.order c.self.invariant follows)
