use Rattle.afr_base.specs.declared.ids.What.TheVariants.{File}
use Rattle.afr_object.specs.Tables.{root}
use Rattle.afr_brick.proofs.IndexKept.{index_of-linked, index_stays}
use Rattle.afr_brick.proofs.brick.Brick.add_opening_file.Goals as goal

pub invariant_of-self : goal.invariant_of-self
invariant_of-self c =
    let s = c.self.inside.store in
    index_stays c.make.result s c.make.new.self _ c.self.inside.index c.make.ensures.ok c.make.ensures.err (index_of-linked root c.args.name c.args.gfid File s.objects) c.self.invariant
