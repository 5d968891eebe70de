use Rattle.afr_brick.proofs.IndexKept.{index_of-applied, index_stays}
use Rattle.afr_brick.proofs.brick.Brick.apply.Goals as goal

pub invariant_of-self : goal.invariant_of-self
invariant_of-self c =
    let s = c.self.inside.store in
    index_stays c.apply.result s c.apply.new.self _ c.self.inside.index c.apply.ensures.ok c.apply.ensures.err (index_of-applied s.keeps c.args.change.now s.objects) c.self.invariant
