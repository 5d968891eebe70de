use Rattle.std.proofs.Common.{reverse}
use Rattle.afr_base.specs.declared.ids.NameId.{NameId}
use Rattle.afr_object.specs.declared.entry.Entry.{Entry}
use Rattle.afr_model.specs.Attempts.{IsCurrent}
use Rattle.afr_model.specs.Cells.{Name}
use Rattle.afr_trace_safe.specs.Covered.{AreNamesCurrent}
use Rattle.afr_trace_safe.proofs.LoopLemmas.{all_have, for_all, not_all, one_has, one_more_has}
use Rattle.afr_trace_safe.proofs.current.are_names_current.Goals as goal

pub returns-then-not-yes : goal.returns-then-not-yes
returns-then-not-yes c =
    not_all c.in_ok-yes.yes _ (AreNamesCurrent c.args.plan.now (reverse c.args.log.now) c.args.b.0 c.args.g c.args.names.now) c.if-not-yes.true c.in_ok-yes.ensures (one_has (λ (x : NameId × Entry). IsCurrent c.args.plan.now (reverse c.args.log.now) c.args.b.0 (Name c.args.g x.0)) c.args.names.now c.loop-x.x-index (_) c.loop-x-test.true)

pub loop-x-preserved : goal.loop-x-preserved
loop-x-preserved c = one_more_has (λ (x : NameId × Entry). IsCurrent c.args.plan.now (reverse c.args.log.now) c.args.b.0 (Name c.args.g x.0)) c.args.names.now c.loop-x.x-index (_) c.loop-x-test.true c.loop-x.invariant (c.in_ok-yes.ensures.0 c.if-not-yes.false)

pub returns : goal.returns
returns c = for_all (AreNamesCurrent c.args.plan.now (reverse c.args.log.now) c.args.b.0 c.args.g c.args.names.now) (all_have (λ (x : NameId × Entry). IsCurrent c.args.plan.now (reverse c.args.log.now) c.args.b.0 (Name c.args.g x.0)) c.args.names.now c.loop-x.x-index c.loop-x-test.false c.loop-x.invariant)
