use Rattle.std.proofs.Common.{arith}
use Rattle.std.proofs.lemmas.Option.{slice_get-get_or}
use Rattle.afr_trace_tally.proofs.tally.Tally.actor.Goals as goal

pub returns : goal.returns
returns c = c.requires.tally.actors.each c.args.a.0 _ (slice_get-get_or c.args.self.now.actors c.args.a.0 _ (omega (arith, c.requires.known, c.requires.tally.actors.twenty)))
