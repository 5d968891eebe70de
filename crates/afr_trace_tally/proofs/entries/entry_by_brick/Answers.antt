use Rattle.std.proofs.Common.{◌∙◌, ap, arith, get_or}
use Rattle.std.proofs.lemmas.Option.{slice_get-get_or}
use Rattle.afr_object.specs.State.{Copies}
use Rattle.afr_trace_tally.specs.Entries.{entry_of}
use Rattle.afr_trace_tally.proofs.entries.entry_by_brick.Goals as goal

pub returns : goal.returns
returns c =
    let is =
    c.requires.are.each c.args.b.0 (get_or c.args.bricks.now c.args.b.0 c.index-bricks-b.result)
    (slice_get-get_or c.args.bricks.now c.args.b.0 c.index-bricks-b.result (omega (arith, c.requires.brick, c.requires.are.five))) in
    c.entry_of.ensures ∙ ap (λ (w : Copies). entry_of c.args.request.now w.objects) is.brick
