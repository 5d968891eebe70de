use Rattle.std.proofs.Common.{◌≡◌, ◌+◌, suc, length, arith}
use Rattle.afr_heal_merge.proofs.Order.{rising_last, rising_step}
use Rattle.afr_heal_merge.proofs.same.is_below_next.Goals as goal

pub returns-then-next-len : goal.returns-then-next-len
returns-then-next-len c =
    let next : c.args.place + 1 ≡ suc c.args.place = omega arith in
    let second = rw next at c.item-then-next-len.ensures in
    λ yes h. rising_step c.args.names.now c.args.place c.item.result.now c.item-then-next-len.result.now c.item.ensures second (c.is_below.ensures yes) h

pub returns : goal.returns
returns c =
    let last : suc c.args.place ≡ length c.args.names.now = omega (arith, c.len-len.ensures) in
    λ yes h. rising_last c.args.names.now c.args.place last
