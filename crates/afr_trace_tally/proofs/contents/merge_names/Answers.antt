use Rattle.std.proofs.Common.{◌≡◌, ◌-◌, ◌+◌, suc, length, sym, arith}
use Rattle.afr_trace_tally.proofs.ContentLemmas.{merged_into_step}
use Rattle.afr_trace_tally.proofs.contents.merge_names.Goals as goal

pub loop-i-preserved : goal.loop-i-preserved
loop-i-preserved c =
    let before : length c.args.names.now - c.loop-i.i ≡ suc (c.len-len.result - 1 - c.loop-i.i) = omega (arith, c.len-len.ensures) in
    let after : length c.args.names.now - (c.loop-i.i + 1) ≡ c.len-len.result - 1 - c.loop-i.i = omega (arith, c.len-len.ensures) in
    rw (c.in_ok-insert.ensures.ok, c.higher-stands.ensures, c.get.ensures, c.loop-i.invariant, before, after) (sym (merged_into_step c.args.into.now c.args.names.now _ c.item.result.now c.item.ensures))
