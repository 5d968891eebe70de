use Rattle.std.proofs.Common.{◌∙◌, reverse}
use Rattle.afr_trace_build.specs.Shown.{all_sums_of}
use Rattle.afr_trace_check.proofs.ViewLemmas.{view_none, view_there}
use Rattle.afr_trace_check.proofs.told.view_shown.Goals as goal

pub returns-in-Some : goal.returns-in-Some
returns-in-Some c =
    rw c.all_marks.ensures
    (view_there c.args.plan.now (reverse c.args.log.now) c.args.b.0 c.args.g (all_sums_of c.args.plan.now (reverse c.args.log.now) c.args.b.0 c.args.g) c.in-Some.view c.in-Some.ensures)

pub returns-in-None : goal.returns-in-None
returns-in-None c =
    c.empty_view.ensures ∙ view_none c.args.plan.now (reverse c.args.log.now) c.args.b.0 c.args.g (all_sums_of c.args.plan.now (reverse c.args.log.now) c.args.b.0 c.args.g) c.in-None.ensures
