-- What a turn tells of locks is noted, and the work that its line ends is counted.
use Rattle.std.proofs.Common.{◌∙◌, ◌<◌}
use Rattle.afr_live.proofs.EndLemmas.{takes_turn}
use Rattle.afr_live.proofs.NotedLemmas.{turn_eager, turn_noted}
use Rattle.afr_volume.proofs.GoingLemmas.{turn_goes}
use Rattle.afr_law_bound.proofs.Standstill.Standing.{actor_low}
use Rattle.afr_live.proofs.shared.Shared.take_turn.Goals as goal

pub note-requires : goal.note-requires
note-requires g c =
    let same = (turn_goes c.args.a c.come_due.new.self.volume c.turn.new.self c.in_ok-turned.turned c.in_ok-turned.ensures.ok).plan ∙ c.come_due.new.self.planned in
    actor_low g.J.Run.plan c.args.a.0 (rw same at c.every_line.ensures.clients) (rw same at c.every_line.ensures.healers) c.requires.actor

pub count-requires-clause-counted : goal.count-requires-clause-counted
count-requires-clause-counted g c = (c.come_due.new.self.volume, c.in_ok-turned.ensures.ok, c.come_due.new.self.counted)

pub invariant_of-self-2 : goal.invariant_of-self-2
invariant_of-self-2 g c =
    let same = (turn_goes c.args.a c.come_due.new.self.volume c.turn.new.self c.in_ok-turned.turned c.in_ok-turned.ensures.ok).plan ∙ c.come_due.new.self.planned in
    let low : c.args.a.0 < 20 = actor_low g.J.Run.plan c.args.a.0 (rw same at c.every_line.ensures.clients) (rw same at c.every_line.ensures.healers) c.requires.actor in
    record {
      planned = same;
      plain = (turn_goes c.args.a c.come_due.new.self.volume c.turn.new.self c.in_ok-turned.turned c.in_ok-turned.ensures.ok).crawl ∙ c.come_due.new.self.plain;
      counted = c.count.ensures.counted;
      noted = rw c.note.ensures (turn_noted c.args.a c.come_due.new.self.volume c.turn.new.self c.in_ok-turned.turned c.come_due.new.self.held c.len.result c.in_ok-turned.ensures.ok low c.len.ensures c.come_due.new.self.noted);
      eager = turn_eager c.args.a c.come_due.new.self.volume c.turn.new.self c.in_ok-turned.turned c.in_ok-turned.ensures.ok c.every_line.ensures.room (c.in_ok-come_due.ensures.free c.args.a.0 c.requires.free) c.come_due.new.self.eager;
    }

pub invariant_of-self : goal.invariant_of-self
invariant_of-self g c = rw c.in_err-turned.ensures.err (record {
  planned = c.come_due.new.self.planned;
  plain = c.come_due.new.self.plain;
  counted = c.come_due.new.self.counted;
  noted = c.come_due.new.self.noted;
  eager = c.come_due.new.self.eager;
})

pub returns-clause-ok : goal.returns-clause-ok
returns-clause-ok g c = takes_turn c.args.a c.args.self.now.volume c.come_due.new.self.volume c.turn.new.self c.in_ok-turned.turned c.come_due.ensures.goes c.in_ok-turned.ensures.ok
