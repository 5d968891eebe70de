use Rattle.std.proofs.Common.{◌≡◌, ◌-◌, ◌+◌, suc, length, map, sym, arith}
use Rattle.afr_trace_tally.specs.Contents.{contents_seen}
use Rattle.afr_trace_tally.proofs.ContentLemmas.{merged_read}
use Rattle.afr_trace_tally.proofs.contents.names_at.Goals as goal

pub loop-i-preserved : goal.loop-i-preserved
loop-i-preserved c =
    let before : length c.args.reads.now - c.loop-i.i ≡ suc (length c.args.reads.now - 1 - c.loop-i.i) = omega arith in
    let after : length c.args.reads.now - (c.loop-i.i + 1) ≡ length c.args.reads.now - 1 - c.loop-i.i = omega arith in
    rw (c.in_ok-merge_if.ensures.ok, c.loop-i.invariant, before, after) (sym (merged_read (map contents_seen c.args.shown.now) c.args.reads.now (length c.args.reads.now - 1 - c.loop-i.i) (omega arith)))
