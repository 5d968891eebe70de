use Rattle.afr_object.specs.State.{contents_of}
use Rattle.afr_brick.proofs.IndexKept.{index_of-mended, index_stays}
use Rattle.afr_brick.proofs.brick.Brick.repair.Goals as goal

pub invariant_of-self : goal.invariant_of-self
invariant_of-self c =
    let s = c.self.inside.store in
    index_stays c.repair.result s c.repair.new.self _ c.self.inside.index c.repair.ensures.ok c.repair.ensures.err (index_of-mended s.keeps c.args.repair.now (contents_of c.args.load) s.objects) c.self.invariant
