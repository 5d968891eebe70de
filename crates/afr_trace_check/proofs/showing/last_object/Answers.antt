use Rattle.std.proofs.Common.{refl, arith, ◌∙◌}
use Rattle.afr_lines.specs.Work.{work}
use Rattle.afr_trace_build.specs.Shown.{last_object, looked_object}
use Rattle.afr_trace_check.specs.Works.{in_work}
use Rattle.afr_trace_check.proofs.WorkLemmas.{heal_next, whole}
use Rattle.afr_trace_check.proofs.showing.last_object.Goals as goal

pub loop-position-preserved : goal.loop-position-preserved
loop-position-preserved c =
    c.object_more-object.ensures
    ∙ heal_next last_object (λ line older was. looked_object line was) (λ line older w. refl) c.args.heal c.args.a.0 c.args.log.now c.loop-position.position c.index-log-position.result c.loop-position.object
    c.loop-position-test.true c.index-log-position.is c.loop-position.invariant

pub returns : goal.returns
returns c =
    whole (λ log. last_object (in_work c.args.heal (work c.args.a.0 log))) c.args.log.now c.loop-position.position c.loop-position.object (omega (arith, c.loop-position-test.false)) c.loop-position.invariant
