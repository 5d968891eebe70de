use Rattle.std.proofs.Common.{reverse}
use Rattle.afr_base.specs.declared.ids.KeyId.{KeyId}
use Rattle.afr_base.specs.declared.ids.ValueId.{ValueId}
use Rattle.afr_model.specs.Attempts.{IsCurrent}
use Rattle.afr_model.specs.Cells.{Attr}
use Rattle.afr_trace_safe.specs.Covered.{AreKeysCurrent}
use Rattle.afr_trace_safe.proofs.LoopLemmas.{all_have, for_all, not_all, one_has, one_more_has}
use Rattle.afr_trace_safe.proofs.current.are_keys_current.Goals as goal

pub returns-then-not-yes : goal.returns-then-not-yes
returns-then-not-yes c =
    not_all c.in_ok-yes.yes _ (AreKeysCurrent c.args.plan.now (reverse c.args.log.now) c.args.b.0 c.args.g c.args.attrs.now) c.if-not-yes.true c.in_ok-yes.ensures (one_has (λ (x : KeyId × ValueId). IsCurrent c.args.plan.now (reverse c.args.log.now) c.args.b.0 (Attr c.args.g x.0)) c.args.attrs.now c.loop-x.x-index (record { 0 = 0 }, record { 0 = 0 }) c.loop-x-test.true)

pub loop-x-preserved : goal.loop-x-preserved
loop-x-preserved c = one_more_has (λ (x : KeyId × ValueId). IsCurrent c.args.plan.now (reverse c.args.log.now) c.args.b.0 (Attr c.args.g x.0)) c.args.attrs.now c.loop-x.x-index (record { 0 = 0 }, record { 0 = 0 }) c.loop-x-test.true c.loop-x.invariant (c.in_ok-yes.ensures.0 c.if-not-yes.false)

pub returns : goal.returns
returns c = for_all (AreKeysCurrent c.args.plan.now (reverse c.args.log.now) c.args.b.0 c.args.g c.args.attrs.now) (all_have (λ (x : KeyId × ValueId). IsCurrent c.args.plan.now (reverse c.args.log.now) c.args.b.0 (Attr c.args.g x.0)) c.args.attrs.now c.loop-x.x-index c.loop-x-test.false c.loop-x.invariant)
