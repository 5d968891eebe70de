use Rattle.std.proofs.Common.{◌≡◌, ◌-◌, ◌+◌, suc, Some, length, refl, sym, ap, ◌∙◌, arith}
use Rattle.afr_heal_merge.proofs.SameLists.{same_step}
use Rattle.afr_brick.proofs.same.are_same_attrs.Goals as goal

pub loop-i-preserved : goal.loop-i-preserved
loop-i-preserved c =
    let before : length c.args.one.now - c.loop-i.i ≡ suc (c.len-len.result - 1 - c.loop-i.i) = omega (arith, c.len-len.ensures) in
    let after : length c.args.one.now - (c.loop-i.i + 1) ≡ c.len-len.result - 1 - c.loop-i.i = omega (arith, c.len-len.ensures) in
    let same = c.if-not-is_same.ensures refl in
    let rest = rw before at c.loop-i.invariant in
    rw after (same_step c.args.one.now c.args.other.now (c.len-len.result - 1 - c.loop-i.i) c.item.result.now c.item.ensures (c.item-in-loop-i.ensures ∙ ap Some (sym same)) rest)
