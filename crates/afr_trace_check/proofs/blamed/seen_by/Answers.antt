use Rattle.std.proofs.Common.{refl, arith, ◌∙◌, sym, ap}
use Rattle.afr_lines.specs.Work.{Work, work}
use Rattle.afr_model.specs.Showing.{looked_after, looked_by}
use Rattle.afr_trace_check.specs.Grounds.{after_last, locks_object}
use Rattle.afr_trace_check.proofs.WorkLemmas.{after_next, whole}
use Rattle.afr_trace_tally.proofs.LogLemmas.{known_at}
use Rattle.afr_trace_follow.proofs.PartLemmas.{work_from}
use Rattle.afr_trace_check.proofs.blamed.seen_by.Goals as goal

pub loop-position-init : goal.loop-position-init
loop-position-init c = c.none-looked.ensures ∙ sym (ap (λ (w : Work). looked_by c.args.g (after_last (locks_object c.args.g) w)) (work_from c.args.a.0 c.work_start-start.result c.args.log.now c.work_start-start.ensures))

pub seen_more-looked-requires : goal.seen_more-looked-requires
seen_more-looked-requires c = known_at c.args.log.now c.loop-position.position c.index-log-position.result c.loop-position-test.true c.index-log-position.is c.requires

pub loop-position-preserved : goal.loop-position-preserved
loop-position-preserved c =
    c.seen_more-looked.ensures
    ∙ after_next (looked_by c.args.g) (λ line older was. looked_after c.args.g line was) (λ line older w. refl) (locks_object c.args.g) c.args.a.0 c.args.log.now c.loop-position.position c.index-log-position.result c.loop-position.looked
    c.loop-position-test.true c.index-log-position.is c.loop-position.invariant

pub returns : goal.returns
returns c =
    whole (λ log. looked_by c.args.g (after_last (locks_object c.args.g) (work c.args.a.0 log))) c.args.log.now c.loop-position.position c.loop-position.looked (omega (arith, c.loop-position-test.false)) c.loop-position.invariant
