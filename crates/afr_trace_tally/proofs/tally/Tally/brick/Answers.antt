use Rattle.std.proofs.Common.{length, refl, arith}
use Rattle.std.proofs.lemmas.Option.{slice_get_read}
use Rattle.afr_trace_tally.proofs.tally.Tally.brick.Goals as goal

pub returns : goal.returns
returns c =
    c.requires.tally.bricks.each c.args.b.0 c.index.result.now
    (slice_get_read c.args.self.now.bricks.items (length c.args.self.now.bricks.items) c.args.b.0 c.index.result.now refl (omega (arith, c.requires.known, c.requires.tally.bricks.five)) c.index.ensures)
