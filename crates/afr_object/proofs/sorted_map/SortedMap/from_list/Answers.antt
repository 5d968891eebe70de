use Rattle.std.proofs.Common.{◌≡◌, ◌-◌, ◌+◌, suc, length, arith}
use Rattle.afr_object.proofs.Ordered.{put_before}
use Rattle.afr_object.proofs.sorted_map.SortedMap.from_list.Goals as goal

pub loop-i-preserved : goal.loop-i-preserved
loop-i-preserved g c =
    let before : length c.args.entries.now - c.loop-i.i ≡ suc (c.len-len.result - 1 - c.loop-i.i) = omega (arith, c.len-len.ensures) in
    let after : length c.args.entries.now - (c.loop-i.i + 1) ≡ c.len-len.result - 1 - c.loop-i.i = omega (arith, c.len-len.ensures) in
    rw (c.in_ok-insert.ensures.ok, c.loop-i.invariant, before, after) (put_before g.K.Ord.cmp c.args.entries.now _ c.item.result.now c.requires c.item.ensures)
