use Rattle.std.proofs.Common.{◌∷◌, [], ◌∙◌, refl, sym, arith, map, reverse}
use Rattle.std.proofs.lemmas.List.{length-append, length-map, length-reverse, map-append, reverse-append}
use Rattle.afr_trace_read.specs.Seen.{seen_line}
use Rattle.afr_trace_read.specs.Trace.{trace_told}
use Rattle.afr_trace_read.proofs.TraceLaws.{goes_on, breaks, one_feed}
use Rattle.afr_trace_read.proofs.trace.read_trace.Goals as goal

pub loop-line-init : goal.loop-line-init
unfolding trace_told
loop-line-init c = record {
  told = rw c.new-lines.ensures.items refl;
  few = rw c.new-lines.ensures.items (omega (arith, c.line_feeds.ensures.all (omega (arith, c.if-line_feeds-gt-MOST_LINES.false)), c.if-line_feeds-gt-MOST_LINES.false));
}

pub returns-in_default-read_line-clause-ok : goal.returns-in_default-read_line-clause-ok
returns-in_default-read_line-clause-ok c =
    sym (breaks c.args.plan.now c.loop-line.rest.now c.in-Some.line.now c.in-Some.more.now (reverse (map seen_line c.loop-line.lines.items)) _ c.in-Some.ensures c.in_default-read_line.ensures
    (omega (arith, length-reverse (map seen_line c.loop-line.lines.items), length-map c.loop-line.lines.items seen_line, c.len.ensures, c.loop-line.invariant.few)))
    ∙ c.loop-line.invariant.told

pub loop-line-preserved : goal.loop-line-preserved
loop-line-preserved c = record {
  told = rw (c.in-Ok.ensures.items, map-append seen_line, reverse-append (map seen_line c.loop-line.lines.items))
      (goes_on c.args.plan.now c.loop-line.rest.now c.in-Some.line.now c.in-Some.more.now (reverse (map seen_line c.loop-line.lines.items)) (c.in-Some-read_line.told, c.in-Some-read_line.contents.now) _ c.in-Some.ensures c.in-Some-read_line.ensures
      (omega (arith, length-reverse (map seen_line c.loop-line.lines.items), length-map c.loop-line.lines.items seen_line, c.len.ensures, c.loop-line.invariant.few))
      ∙ c.loop-line.invariant.told);
  few = rw c.in-Ok.ensures.items (omega (arith, length-append c.loop-line.lines.items (record { line = c.in-Some-read_line.told; contents = c.in-Some-read_line.contents } ∷ []), one_feed c.loop-line.rest.now c.in-Some.line.now c.in-Some.more.now c.in-Some.ensures, c.loop-line.invariant.few));
}
