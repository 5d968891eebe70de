use Rattle.std.proofs.Common.{refl, arith, ◌∙◌, ◌||◌, sym, ap}
use Rattle.afr_lines.specs.Work.{Work, work}
use Rattle.afr_model.specs.Showing.{among, has}
use Rattle.afr_model.specs.Standing.{since}
use Rattle.afr_trace_check.specs.Grounds.{asks_lock, refusing}
use Rattle.afr_trace_check.proofs.WorkLemmas.{refusing_next, whole, work_next}
use Rattle.afr_trace_tally.proofs.LogLemmas.{known_at}
use Rattle.afr_trace_follow.proofs.PartLemmas.{work_from}
use Rattle.afr_trace_check.proofs.blamed.refused_by.Goals as goal

pub loop-position-init : goal.loop-position-init
loop-position-init c =
    let none = work_from c.args.a.0 c.work_start-start.result c.args.log.now c.work_start-start.ensures in
    record { locked = sym (ap (has asks_lock) none); bricks = c.none-bricks.ensures ∙ sym (ap (λ (w : Work). among refusing (since asks_lock w)) none) }

pub refusing_more-bricks-requires : goal.refusing_more-bricks-requires
refusing_more-bricks-requires c = known_at c.args.log.now c.loop-position.position c.index-log-position.result c.loop-position-test.true c.index-log-position.is c.requires

pub loop-position-preserved : goal.loop-position-preserved
loop-position-preserved c = record {
  locked =
      c.locked_more-locked.ensures
      ∙ work_next (has asks_lock) (λ line older was. asks_lock line || was) (λ line older w. refl) c.args.a.0 c.args.log.now c.loop-position.position c.index-log-position-in-loop-position.result c.loop-position.locked c.loop-position-test.true
      c.index-log-position-in-loop-position.is c.loop-position.invariant.locked;
  bricks =
      c.refusing_more-bricks.ensures
      ∙ refusing_next c.args.a.0 c.args.log.now c.loop-position.position c.index-log-position.result c.loop-position.locked c.loop-position.bricks c.loop-position-test.true c.index-log-position.is
      c.loop-position.invariant.locked c.loop-position.invariant.bricks;
}

pub returns : goal.returns
returns c =
    whole (λ log. among refusing (since asks_lock (work c.args.a.0 log))) c.args.log.now c.loop-position.position c.loop-position.bricks (omega (arith, c.loop-position-test.false)) c.loop-position.invariant.bricks
