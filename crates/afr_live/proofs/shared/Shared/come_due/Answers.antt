-- Events leave the plan, end no work, and tell nobody of a lock.
use Rattle.std.proofs.Common.{◌∙◌, sym}
use Rattle.afr_live.proofs.EndLemmas.{events_ends}
use Rattle.afr_live.proofs.NotedLemmas.{events_eager, events_free, events_noted}
use Rattle.afr_live.proofs.shared.Shared.come_due.Goals as goal

pub invariant_of-self : goal.invariant_of-self
invariant_of-self g c = record {
  planned = c.come_due-come.ensures.goes.plan ∙ c.args.self.now.planned;
  plain = c.come_due-come.ensures.goes.crawl ∙ c.args.self.now.plain;
  counted = c.args.self.now.counted ∙ sym (events_ends c.args.self.now.volume c.come_due-come.new.volume c.come_due-come.ensures.happens);
  noted = events_noted c.args.self.now.volume c.come_due-come.new.volume c.args.self.now.held c.note_events.new.self c.len-before.result c.len.result c.come_due-come.ensures.goes c.come_due-come.ensures.happens c.len-before.ensures c.len.ensures c.note_events.ensures.some c.note_events.ensures.none c.args.self.now.noted;
  eager = events_eager c.args.self.now.volume c.come_due-come.new.volume c.come_due-come.ensures.happens c.args.self.now.eager;
}

pub returns-clause-free : goal.returns-clause-free
returns-clause-free g c = λ a may. events_free c.args.self.now.volume c.come_due-come.new.volume a c.come_due-come.ensures.goes c.come_due-come.ensures.happens may
