use Rattle.std.proofs.Common.{refl, arith, ◌∙◌, sym, ap}
use Rattle.std.specs.Option.{option_copied}
use Rattle.afr_lines.specs.Log.{change_of}
use Rattle.afr_lines.specs.Work.{work}
use Rattle.afr_model.specs.Standing.{change_after, change_by}
use Rattle.afr_trace_check.proofs.WorkLemmas.{whole, work_next}
use Rattle.afr_trace_follow.proofs.PartLemmas.{work_from}
use Rattle.afr_trace_check.proofs.blamed.change_by.Goals as goal

pub loop-position-init : goal.loop-position-init
loop-position-init c = sym (ap change_by (work_from c.args.a.0 c.work_start-start.result c.args.log.now c.work_start-start.ensures))

pub loop-position-preserved : goal.loop-position-preserved
loop-position-preserved c =
    c.change_more-found.ensures
    ∙ work_next change_by (λ line older was. change_after (change_of line) was) (λ line older w. refl) c.args.a.0 c.args.log.now c.loop-position.position c.index-log-position.result (option_copied c.loop-position.found)
    c.loop-position-test.true c.index-log-position.is c.loop-position.invariant

pub returns : goal.returns
returns c = whole (λ log. change_by (work c.args.a.0 log)) c.args.log.now c.loop-position.position (option_copied c.loop-position.found) (omega (arith, c.loop-position-test.false)) c.loop-position.invariant
