use Rattle.std.proofs.Common.{refl, arith, ◌∙◌}
use Rattle.afr_lines.specs.Work.{work}
use Rattle.afr_model.specs.Showing.{looked_after, looked_by}
use Rattle.afr_trace_check.specs.Works.{in_work}
use Rattle.afr_trace_check.proofs.WorkLemmas.{heal_next, whole}
use Rattle.afr_trace_tally.proofs.LogLemmas.{known_at}
use Rattle.afr_trace_check.proofs.showing.looked_by.Goals as goal

pub looked_more-looked-requires : goal.looked_more-looked-requires
looked_more-looked-requires c = known_at c.args.log.now c.loop-position.position c.index-log-position.result c.loop-position-test.true c.index-log-position.is c.requires

pub loop-position-preserved : goal.loop-position-preserved
loop-position-preserved c =
    c.looked_more-looked.ensures
    ∙ heal_next (looked_by c.args.g) (λ line older was. looked_after c.args.g line was) (λ line older w. refl) c.args.heal c.args.a.0 c.args.log.now c.loop-position.position c.index-log-position.result c.loop-position.looked
    c.loop-position-test.true c.index-log-position.is c.loop-position.invariant

pub returns : goal.returns
returns c =
    whole (λ log. looked_by c.args.g (in_work c.args.heal (work c.args.a.0 log))) c.args.log.now c.loop-position.position c.loop-position.looked (omega (arith, c.loop-position-test.false)) c.loop-position.invariant
