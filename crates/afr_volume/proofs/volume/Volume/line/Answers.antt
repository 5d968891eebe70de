use Rattle.std.proofs.Common.{◌<◌, length, sym, ◌∙◌, arith}
use Rattle.std.proofs.lemmas.List.{length-reverse}
use Rattle.afr_lines.specs.LogLemmas.{from_oldest-reverse}
use Rattle.afr_volume.proofs.LogLemmas.{is_there}
use Rattle.afr_volume.proofs.volume.Volume.line.Goals as goal

pub returns : goal.returns
returns c = rw (← c.self.view_is) (from_oldest-reverse c.self.inside.log.items c.args.i ∙ sym c.in-Some.ensures)

pub unreachable-requires : goal.unreachable-requires
unreachable-requires c =
    let inside : c.args.i < length c.self.inside.log.items = omega (arith, length-reverse c.self.inside.log.items, rw (← c.self.view_is) at c.requires) in
    is_there c.self.inside.log.items c.args.i inside c.in-None.ensures
