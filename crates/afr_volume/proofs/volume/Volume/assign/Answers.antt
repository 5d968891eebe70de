-- A worker that is at nothing stands for no line of a task, so it may have one.
use Rattle.std.proofs.Common.{◌≡◌, true, arith, reverse}
use Rattle.afr_volume.specs.Acting.{picked_of}
use Rattle.afr_volume.proofs.TaskBegins.{assigned_state, assigned_whole, worker_there}
use Rattle.afr_volume.proofs.volume.Volume.assign.Goals as goal

pub give_task-requires-clause-few : goal.give_task-requires-clause-few
give_task-requires-clause-few c = c.self.invariant.whole.kept.runnable.few

pub give_task-requires-clause-some : goal.give_task-requires-clause-some
give_task-requires-clause-some c =
    let crawls : c.self.inside.crawl ≡ true = rw (← c.self.view_is) at c.requires.crawl in
    c.self.invariant.whole.kept.runnable.healed (omega (arith, (c.self.invariant.whole.crawling crawls).can.healers))

pub give_task-requires-clause-low : goal.give_task-requires-clause-low
give_task-requires-clause-low c = omega (arith, c.requires.worker.0)

pub give_task-requires-clause-within : goal.give_task-requires-clause-within
give_task-requires-clause-within c =
    let crawls : c.self.inside.crawl ≡ true = rw (← c.self.view_is) at c.requires.crawl in
    worker_there c.self.inside.plan c.args.a.0 c.self.inside.healers.items (c.self.invariant.whole.crawling crawls).can c.self.invariant.whole.healing.same c.requires.worker

pub invariant_of-self-2 : goal.invariant_of-self-2
invariant_of-self-2 c = record {
  given = c.self.invariant.given;
  whole = assigned_whole c.laws.ensures.rounds c.self.inside.plan c.args.a.0 (reverse c.self.inside.log.items) c.self.inside.servers c.self.inside.actors.items c.self.inside.healers.items c.give_task.new.healers.items c.self.inside.made (c.args.gfid, c.args.what) (picked_of c.self.inside.actors.items) c.requires.worker
      (rw (← c.self.view_is) at c.requires.given) c.in_ok-give_task.ensures.ok c.self.inside.crawl (rw (← c.self.view_is) at c.requires.crawl) c.self.invariant.whole (rw (← c.self.view_is) at c.requires.idle);
}

pub returns-clause-ok : goal.returns-clause-ok
returns-clause-ok c =
    rw (← c.self.view_is)
    (assigned_state c.laws.ensures.rounds c.self.inside.plan c.args.a.0 (reverse c.self.inside.log.items) c.self.inside.servers c.self.inside.actors.items c.self.inside.healers.items c.give_task.new.healers.items c.self.inside.made (c.args.gfid, c.args.what) (picked_of c.self.inside.actors.items) c.requires.worker
    (rw (← c.self.view_is) at c.requires.given) c.in_ok-give_task.ensures.ok c.self.inside.crawl (rw (← c.self.view_is) at c.requires.crawl) c.self.invariant.whole (rw (← c.self.view_is) at c.requires.idle))
