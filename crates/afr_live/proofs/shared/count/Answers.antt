-- The book has counted each End line.
use Rattle.std.proofs.Common.{◌<◌, ◌^◌, arith, length}
use Rattle.afr_live.proofs.EndLemmas.{moved_few}
use Rattle.afr_live.specs.Ends.{works_ended}
use Rattle.afr_live.proofs.shared.count.Goals as goal

pub add-requires-clause-few : goal.add-requires-clause-few
add-requires-clause-few g c =
    let few : length c.args.volume.now.log < 2 ^ 32 = omega (arith, c.len-len.ensures, c.len-len.auto) in
    let ends : works_ended c.requires.counted.0.log < 2 ^ 32 = moved_few c.args.a c.requires.counted.0 c.args.volume.now c.args.turned c.requires.counted.1 c.in-Moved.is few in
    omega (arith, c.requires.counted.2, ends)
