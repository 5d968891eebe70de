use Rattle.std.proofs.Common.{◌≡◌, ◌-◌, ◌+◌, suc, length, sym, ap, ◌∙◌, arith}
use Rattle.afr_brick.proofs.Made.{copies}
use Rattle.afr_brick.proofs.Mended.{all_made_step}
use Rattle.afr_brick.proofs.store.Store.make_all.Goals as goal

pub loop-i-preserved : goal.loop-i-preserved
loop-i-preserved c =
    let before : length c.args.names.now - c.loop-i.i ≡ suc (c.len-len.result - 1 - c.loop-i.i) = omega (arith, c.len-len.ensures) in
    let after : length c.args.names.now - (c.loop-i.i + 1) ≡ c.len-len.result - 1 - c.loop-i.i = omega (arith, c.len-len.ensures) in
    record {
      made =
          rw (c.in-Ok.ensures.ok, c.loop-i.invariant.made, before, after)
          (ap (copies c.args.self.now.keeps) (sym (all_made_step c.args.names.now _ c.item.result.now c.args.self.now.objects c.item.ensures)));
      undo = c.make_one.ensures.undo ∙ c.loop-i.invariant.undo;
    }
