-- No more works have ended than there are lines.
use Rattle.std.proofs.Common.{arith}
use Rattle.afr_live.proofs.EndLemmas.{ends_few}
use Rattle.afr_live.proofs.shared.Shared.gather.Goals as goal

pub gather-requires : goal.gather-requires
gather-requires g c = record { few = omega (arith, c.args.self.now.counted, ends_few c.args.self.now.volume.log, c.len-len.ensures, c.len-len.auto) }
