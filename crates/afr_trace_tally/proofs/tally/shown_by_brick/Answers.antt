use Rattle.std.proofs.Common.{◌≡◌, IfOk, ap, arith, get_or, subst}
use Rattle.std.proofs.lemmas.Option.{slice_get-get_or}
use Rattle.afr_object.specs.State.{Copies}
use Rattle.afr_object.specs.Tables.{Table}
use Rattle.afr_trace_tally.specs.Contents.{contents_seen, shown_of}
use Rattle.afr_trace_tally.specs.declared.contents.Kept.{Kept}
use Rattle.afr_trace_tally.proofs.tally.shown_by_brick.Goals as goal

pub returns-clause-ok : goal.returns-clause-ok
returns-clause-ok c =
    let is =
    c.requires.are.each c.args.b.0 (get_or c.args.bricks.now c.args.b.0 c.index-bricks-b.result)
    (slice_get-get_or c.args.bricks.now c.args.b.0 c.index-bricks-b.result (omega (arith, c.requires.brick, c.requires.are.five))) in
    subst (λ (t : Table). IfOk c.shown_of.result (λ (kept : Kept). contents_seen kept ≡ shown_of c.args.request.now t)) (ap (λ (w : Copies). w.objects) is.brick) c.shown_of.ensures.ok

pub returns-clause-order : goal.returns-clause-order
returns-clause-order c = c.shown_of.ensures.order

pub returns-clause-short : goal.returns-clause-short
returns-clause-short c = c.shown_of.ensures.short
