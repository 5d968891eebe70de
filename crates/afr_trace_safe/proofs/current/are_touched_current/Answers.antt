use Rattle.std.proofs.Common.{false, reverse, length, ap, sym, List, ◌∙◌, get_or, slice_get}
use Rattle.std.proofs.lemmas.Option.{slice_get-get_or}
use Rattle.afr_trace_safe.specs.Covered.{AreTouchedCurrent, IsTouchedCurrent}
use Rattle.afr_trace_safe.specs.declared.attempts.Attempt.{Attempt}
use Rattle.afr_trace_safe.proofs.GatheredLemmas.{listed_on}
use Rattle.afr_trace_safe.proofs.LoopLemmas.{all_have, for_all, not_all, one_has, one_more_has}
use Rattle.afr_trace_safe.proofs.current.are_touched_current.Goals as goal

pub returns-then-not-yes : goal.returns-then-not-yes
returns-then-not-yes c =
    not_all c.in_ok-yes.yes _ (AreTouchedCurrent c.args.plan.now (reverse c.args.log.now) c.args.b.0 c.args.kind c.args.attempts.now) c.if-not-yes.true c.in_ok-yes.ensures (one_has (IsTouchedCurrent c.args.plan.now (reverse c.args.log.now) c.args.b.0 c.args.kind) c.args.attempts.now c.loop-attempt.attempt-index (record { position = 0; acknowledged = false }) c.loop-attempt-test.true)

pub loop-attempt-preserved : goal.loop-attempt-preserved
loop-attempt-preserved c = one_more_has (IsTouchedCurrent c.args.plan.now (reverse c.args.log.now) c.args.b.0 c.args.kind) c.args.attempts.now c.loop-attempt.attempt-index (record { position = 0; acknowledged = false }) c.loop-attempt-test.true c.loop-attempt.invariant (c.in_ok-yes.ensures.0 c.if-not-yes.false)

pub returns : goal.returns
returns c = for_all (AreTouchedCurrent c.args.plan.now (reverse c.args.log.now) c.args.b.0 c.args.kind c.args.attempts.now) (all_have (IsTouchedCurrent c.args.plan.now (reverse c.args.log.now) c.args.b.0 c.args.kind) c.args.attempts.now c.loop-attempt.attempt-index c.loop-attempt-test.false c.loop-attempt.invariant)

pub is_touched_current-requires-clause-on : goal.is_touched_current-requires-clause-on
is_touched_current-requires-clause-on c =
    listed_on (reverse c.args.log.now) c.args.g (length c.args.log.now) c.loop-attempt.attempt-index (get_or c.args.attempts.now c.loop-attempt.attempt-index (record { position = 0; acknowledged = false }))
    (ap (λ (xs : List Attempt). slice_get xs c.loop-attempt.attempt-index) (sym c.requires.attempts) ∙ slice_get-get_or c.args.attempts.now c.loop-attempt.attempt-index (record { position = 0; acknowledged = false }) c.loop-attempt-test.true)
