use Rattle.std.proofs.Common.{◌≡◌, ◌-◌, ◌+◌, suc, length, sym, arith}
use Rattle.afr_heal_merge.proofs.Merges.{one_name}
use Rattle.afr_heal_merge.proofs.merge.put_all.Goals as goal

pub loop-i-preserved : goal.loop-i-preserved
loop-i-preserved c =
    let before : length c.args.list.now - c.loop-i.i ≡ suc (c.len-len.result - 1 - c.loop-i.i) = omega (arith, c.len-len.ensures) in
    let after : length c.args.list.now - (c.loop-i.i + 1) ≡ c.len-len.result - 1 - c.loop-i.i = omega (arith, c.len-len.ensures) in
    rw (c.in_ok-insert.ensures.ok, c.higher-stands.ensures, c.get.ensures, c.loop-i.invariant, before, after) (sym (one_name c.args.names.now c.args.list.now _ c.item.result.now c.item.ensures))
