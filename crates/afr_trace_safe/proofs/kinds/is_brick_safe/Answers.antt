use Rattle.std.proofs.Common.{reverse}
use Rattle.afr_base.specs.declared.ids.Kind.TheVariants.{Bytes, Attrs, Names}
use Rattle.afr_trace_safe.specs.Judged.{IsBrickSafe, IsKindSafe}
use Rattle.afr_trace_safe.proofs.OutsideLemmas.{all_kinds, all_tests}
use Rattle.afr_trace_safe.proofs.kinds.is_brick_safe.Goals as goal

pub returns : goal.returns
returns c =
    all_tests c.in_ok-one.one c.in_ok-two.two c.in_ok-three.three c.all_three.result (IsKindSafe c.args.plan.now (reverse c.args.log.now) c.args.g c.args.b.0 Bytes) (IsKindSafe c.args.plan.now (reverse c.args.log.now) c.args.g c.args.b.0 Attrs)
    (IsKindSafe c.args.plan.now (reverse c.args.log.now) c.args.g c.args.b.0 Names) (IsBrickSafe c.args.plan.now (reverse c.args.log.now) c.args.g c.args.b.0) c.all_three.ensures c.in_ok-one.ensures c.in_ok-two.ensures c.in_ok-three.ensures
    (all_kinds c.args.plan.now (reverse c.args.log.now) c.args.g c.args.b.0) (λ h. h Bytes) (λ h. h Attrs) (λ h. h Names)
