-- Who is done has ended its works.
use Rattle.std.proofs.Common.{◌∙◌, ◌+◌, below_more, sym}
use Rattle.afr_volume.proofs.TaskDone.{done_by_plan}
use Rattle.afr_order.proofs.rows.count_done.Goals as goal

pub loop-i-preserved : goal.loop-i-preserved
loop-i-preserved c = below_more _ _ c.loop-i.invariant (done_by_plan (1 + c.loop-i.i) c.args.volume.now (sym c.is_done.ensures ∙ c.if-not-is_done.false))
