use Rattle.std.proofs.Common.{◌≡◌, ◌∙◌, ap, false, true, not, reverse, sym}
use Rattle.afr_model.specs.Sums.{has_object}
use Rattle.afr_trace_tally.proofs.CountLemmas.{counted_more, counted_same, counts_absent}
use Rattle.afr_trace_tally.proofs.TableLemmas.{found_it}
use Rattle.afr_trace_tally.proofs.bricks.count_line.Goals as goal

pub returns-then-is_none : goal.returns-then-is_none
returns-then-is_none c =
    let lacks : has_object c.args.plan.now (reverse c.args.older.now) c.in-Some.counted.gfid c.args.b.0 ≡ false =
    found_it c.args.plan.now (reverse c.args.older.now) c.in-Some.counted.gfid c.args.b.0 c.args.brick.now.objects c.look.result c.is_none.result c.requires.tables c.look.ensures c.is_none.ensures ∙ ap not c.if-is_none.true in
    record {
      ok =
          counted_same c.args.plan.now c.args.line.now (reverse c.args.older.now) c.args.b.0 c.args.counts.now
          (counts_absent c.args.plan.now c.args.line.now (reverse c.args.older.now) c.args.b.0 c.in-Some.counted (sym c.in-Some.ensures.value) lacks) c.requires.was;
    }

pub returns : goal.returns
returns c =
    let has : has_object c.args.plan.now (reverse c.args.older.now) c.in-Some.counted.gfid c.args.b.0 ≡ true =
    found_it c.args.plan.now (reverse c.args.older.now) c.in-Some.counted.gfid c.args.b.0 c.args.brick.now.objects c.look.result c.is_none.result c.requires.tables c.look.ensures c.is_none.ensures ∙ ap not c.if-is_none.false in
    record {
      ok =
          rw (c.in_ok-put_count.ensures.ok, c.plus-sum.ensures, c.count_at-was.ensures)
          (counted_more c.args.plan.now c.args.line.now (reverse c.args.older.now) c.args.b.0 c.args.counts.now c.in-Some.counted (sym c.in-Some.ensures.value) has c.in-Some.ensures.small c.requires.was);
    }
