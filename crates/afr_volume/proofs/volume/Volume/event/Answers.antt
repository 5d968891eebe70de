use Rattle.std.proofs.Common.{arith, reverse, sym}
use Rattle.afr_volume.proofs.EventKeeps.{few_events, healer_there, victim_there, whole_happened}
use Rattle.afr_volume.proofs.ListLemmas.{lists_happen}
use Rattle.afr_volume.proofs.SourceLemmas.{comes}
use Rattle.afr_volume.proofs.volume.Volume.event.Goals as goal

pub overflow_add-self : goal.overflow_add-self
overflow_add-self c = omega (arith, c.self.invariant.whole.kept.made_is, few_events (reverse c.self.inside.log.items), c.self.invariant.whole.kept.room, c.self.invariant.whole.kept.runnable.turns)

pub kill-requires-clause-there : goal.kill-requires-clause-there
kill-requires-clause-there c =
    victim_there c.self.inside.plan (reverse c.self.inside.log.items) c.in-Some.event c.self.inside.actors.items c.self.invariant.whole.kept.runnable c.self.invariant.whole.kept.same (rw (← c.self.view_is) at (sym c.in-Some.ensures.value))

pub kill_healer-requires : goal.kill_healer-requires
kill_healer-requires c =
    healer_there c.self.inside.plan (reverse c.self.inside.log.items) c.in-Some.event c.self.inside.healers.items c.self.invariant.whole.kept.runnable c.self.invariant.whole.healing.same (rw (← c.self.view_is) at (sym c.in-Some.ensures.value))

pub invariant_of-self-2 : goal.invariant_of-self-2
invariant_of-self-2 c = record {
  given = lists_happen c.self.inside.crawl c.self.inside.plan c.self.inside.log.items c.add.new.self.items c.in-Some.event c.self.inside.lists.items (rw (← c.in_ok-make_room.ensures.items) c.add.ensures) c.self.invariant.given;
  whole = whole_happened c.laws.ensures.paces c.laws.ensures.rounds c.laws.ensures.events c.self.inside.plan c.self.inside.log.items c.add.new.self.items c.self.inside.servers c.event.new.self c.self.inside.actors.items c.kill.new.actors.items c.self.inside.healers.items c.kill_healer.new.healers.items c.self.inside.made c.in-Some.event
      c.self.invariant.whole c.fits_its_types.ensures (rw (← c.self.view_is) at (sym c.in-Some.ensures.value)) c.event.ensures c.kill.ensures c.kill_healer.ensures (rw (← c.in_ok-make_room.ensures.items) c.add.ensures);
}

pub returns-clause-ok : goal.returns-clause-ok
returns-clause-ok c =
    rw (← c.self.view_is)
    (comes c.self.inside.crawl c.self.inside.plan c.self.inside.log.items c.add.new.self.items c.self.inside.healers.items c.kill_healer.new.healers.items c.self.inside.actors.items c.kill.new.actors.items c.in-Some.event (rw (← c.self.view_is) at (sym c.in-Some.ensures.value)) (rw (← c.in_ok-make_room.ensures.items) c.add.ensures) c.kill_healer.ensures c.kill.ensures)
