use Rattle.std.proofs.Common.{refl, arith}
use Rattle.afr_trace_tally.proofs.EntryLemmas.{no_entries}
use Rattle.afr_trace_tally.proofs.LogLemmas.{none_kept, none_known, none_shown}
use Rattle.afr_trace_tally.proofs.tally.Tally.new.Goals as goal

pub returns : goal.returns
returns c = record {
  bricks = c.in_ok-bricks.ensures;
  actors = c.new_actors.ensures c.args.plan.now;
  started = c.first_started.ensures;
  events = refl;
  few_events = omega arith;
  shown = none_shown c.args.plan.now c.new.result.items c.new.ensures.items;
  kept = none_kept c.new.result.items c.new.ensures.items;
  entries = no_entries c.args.plan.now c.new-2.result.items c.new-2.ensures.items;
  known = none_known;
}
