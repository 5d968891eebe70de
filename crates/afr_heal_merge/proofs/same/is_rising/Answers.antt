use Rattle.std.proofs.Common.{◌≡◌, ◌-◌, ◌+◌, suc, length, refl, arith}
use Rattle.afr_heal_merge.proofs.Order.{rising_none}
use Rattle.afr_heal_merge.proofs.same.is_rising.Goals as goal

pub loop-i-init : goal.loop-i-init
loop-i-init c = rising_none c.args.names.now (length c.args.names.now - 0) (omega arith)

pub loop-i-preserved : goal.loop-i-preserved
loop-i-preserved c =
    let before : length c.args.names.now - c.loop-i.i ≡ suc (c.len-len.result - 1 - c.loop-i.i) = omega (arith, c.len-len.ensures) in
    let after : length c.args.names.now - (c.loop-i.i + 1) ≡ c.len-len.result - 1 - c.loop-i.i = omega (arith, c.len-len.ensures) in
    let rest = rw before at c.loop-i.invariant in
    rw after (c.if-not-is_below_next.ensures refl rest)
