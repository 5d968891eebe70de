use Rattle.std.proofs.Common.{◌∙◌, List, ap, map, reverse}
use Rattle.afr_trace_tally.specs.Contents.{carried_for, contents_seen, repair_in}
use Rattle.afr_trace_tally.specs.declared.contents.Kept.{Kept}
use Rattle.afr_trace_tally.proofs.ContentLemmas.{brings}
use Rattle.afr_trace_tally.proofs.EntryLemmas.{entries_more}
use Rattle.afr_trace_tally.proofs.LogLemmas.{events_more, few_more, kept_more, known_more, shown_more}
use Rattle.afr_trace_tally.proofs.tally.Tally.add.Goals as goal

pub add_to_bricks-requires-clause-brings : goal.add_to_bricks-requires-clause-brings
add_to_bricks-requires-clause-brings c =
    brings c.args.plan.now c.args.line.now (reverse c.args.older.now) (map contents_seen c.args.self.now.shown.items) (contents_seen c.in_ok-kept.kept) c.requires.was.shown
    (c.in_ok-kept.ensures.ok ∙ ap (λ (w : List Kept). carried_for (map contents_seen w) (repair_in c.args.line.now)) c.as_slice.ensures.value)

pub returns-clause-ok : goal.returns-clause-ok
returns-clause-ok c = record {
  bricks = c.in_ok-add_to_bricks.ensures.ok;
  actors = c.add_to_actors.ensures;
  started = c.next_started-self.ensures c.args.plan.now.shape.n (reverse c.args.older.now) c.requires.was.started;
  events = c.events_after-self.ensures ∙ events_more c.args.line.now (reverse c.args.older.now) _ c.requires.was.events;
  few_events = few_more c.args.line.now (reverse c.args.older.now) _ _ c.requires.was.few_events c.events_after-self.ensures;
  shown = shown_more c.args.plan.now c.args.line.now (reverse c.args.older.now) _ _ c.in_ok-shown.shown c.in_ok-keep.ensures.ok c.in_ok-shown.ensures.ok c.requires.was.shown;
  kept = kept_more _ _ c.in_ok-shown.shown c.in_ok-keep.ensures.ok c.in_ok-shown.ensures.order c.in_ok-shown.ensures.short c.requires.was.kept;
  entries = entries_more c.args.plan.now c.args.line.now (reverse c.args.older.now) _ _ c.entry_now-entry.result c.in_ok-keep_entry.ensures.ok c.entry_now-entry.ensures c.requires.was.entries;
  known = known_more c.args.line.now (reverse c.args.older.now) c.requires.known c.requires.was.known;
}
