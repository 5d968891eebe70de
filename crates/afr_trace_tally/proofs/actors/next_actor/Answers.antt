use Rattle.std.proofs.Common.{◌∙◌}
use Rattle.afr_trace_tally.proofs.ActorLemmas.{ended_more, few_more, joined_more, killed_more, linked_more, place_more}
use Rattle.afr_trace_tally.proofs.actors.next_actor.Goals as goal

pub returns : goal.returns
returns c = λ p older s h. record {
  place = c.place_after.ensures ∙ place_more c.args.a.0 c.args.line.now older _ h.place;
  ended = c.ended_after.ensures ∙ ended_more c.args.a.0 c.args.line.now older _ h.ended;
  few = rw c.ended_after.ensures (few_more c.args.a.0 c.args.line.now older _ h.few);
  killed = c.killed_after.ensures ∙ killed_more c.args.a.0 c.args.line.now older _ h.killed;
  linked = c.linked_flags.ensures ∙ linked_more c.args.a.0 c.args.line.now older _ h.linked;
  joined = c.joined_flags.ensures ∙ joined_more p c.args.a.0 c.args.line.now older _ _ _ _ h.place s h.linked h.joined;
}
