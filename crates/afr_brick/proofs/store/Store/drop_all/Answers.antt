use Rattle.std.proofs.Common.{◌≡◌, ◌-◌, ◌+◌, suc, length, sym, ◌∙◌, arith}
use Rattle.afr_brick.proofs.Mended.{without_newest}
use Rattle.afr_brick.proofs.store.Store.drop_all.Goals as goal

pub loop-i-preserved : goal.loop-i-preserved
loop-i-preserved c =
    let before : length c.args.gfids.now - c.loop-i.i ≡ suc (length c.args.gfids.now - 1 - c.loop-i.i) = omega arith in
    let after : length c.args.gfids.now - (c.loop-i.i + 1) ≡ length c.args.gfids.now - 1 - c.loop-i.i = omega arith in
    let rest = rw before at c.loop-i.invariant.rest in
    record {
      keeps = rw c.drop_object.ensures c.loop-i.invariant.keeps;
      rest = rw (c.drop_object.ensures, after) (sym (without_newest c.args.gfids.now (length c.args.gfids.now - 1 - c.loop-i.i) (record { 0 = 0 }) c.loop-i.self.objects (omega arith)) ∙ rest);
    }
