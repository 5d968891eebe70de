use Rattle.std.proofs.Common.{◌≤◌, ◌∙◌, arith, reverse, sym}
use Rattle.std.proofs.lemmas.Bool.Decides.{nat_tests}
use Rattle.afr_law_picks.specs.Sources.Sources.{sources_of}
use Rattle.afr_volume.specs.Acting.{picked_of}
use Rattle.afr_volume.specs.Tasks.{tasks_of}
use Rattle.afr_volume.proofs.HealerTurn.{healer_done}
use Rattle.afr_volume.proofs.TaskDone.{client_done}
use Rattle.afr_volume.proofs.ReadyLemmas.{found_at}
use Rattle.afr_volume.proofs.WholeTurn.{client_there, done_by_count, done_if_killed}
use Rattle.afr_volume.proofs.volume.Volume.is_done.Goals as goal

pub returns-then-actor : goal.returns-then-actor
returns-then-actor c =
    let client : c.args.a.0 ≤ 16 = grind (arith, nat_tests, c.if-a-gt-MOST_CLIENTS.false) in
    rw (← c.self.view_is)
    (done_if_killed c.self.inside.plan c.args.a.0 (reverse c.self.inside.log.items) c.self.inside.servers c.self.inside.actors.items c.self.inside.made c.self.invariant.whole.kept client (rw (← c.self.view_is) at c.requires.actor) c.index-actor.result.now
    (found_at _ _ _ (client_there c.self.inside.plan c.args.a.0 c.self.inside.actors.items c.self.invariant.whole.kept.runnable c.self.invariant.whole.kept.same client (rw (← c.self.view_is) at c.requires.actor)) c.index-actor.ensures) c.if-actor.true
    ∙ sym (client_done c.args.a.0 (record { plan = c.self.inside.plan; log = reverse c.self.inside.log.items; sources = sources_of c.self.inside.healers.items; picked = picked_of c.self.inside.actors.items; crawl = c.self.inside.crawl; tasks = tasks_of c.self.inside.crawl c.self.inside.healers.items }) client))

pub returns-else-actor : goal.returns-else-actor
returns-else-actor c =
    let client : c.args.a.0 ≤ 16 = grind (arith, nat_tests, c.if-a-gt-MOST_CLIENTS.false) in
    rw (← c.self.view_is)
    (done_by_count c.self.inside.plan c.args.a.0 (reverse c.self.inside.log.items) c.self.inside.servers c.self.inside.actors.items c.self.inside.made c.self.invariant.whole.kept client (rw (← c.self.view_is) at c.requires.actor) c.index-actor.result.now
    (found_at _ _ _ (client_there c.self.inside.plan c.args.a.0 c.self.inside.actors.items c.self.invariant.whole.kept.runnable c.self.invariant.whole.kept.same client (rw (← c.self.view_is) at c.requires.actor)) c.index-actor.ensures) c.if-actor.false
    c.item.result.now c.item.ensures c.len.result c.len.ensures
    ∙ sym (client_done c.args.a.0 (record { plan = c.self.inside.plan; log = reverse c.self.inside.log.items; sources = sources_of c.self.inside.healers.items; picked = picked_of c.self.inside.actors.items; crawl = c.self.inside.crawl; tasks = tasks_of c.self.inside.crawl c.self.inside.healers.items }) client))

pub returns-then-a-gt-MOST_CLIENTS : goal.returns-then-a-gt-MOST_CLIENTS
returns-then-a-gt-MOST_CLIENTS c =
    let low : 17 ≤ c.args.a.0 = grind (arith, nat_tests, c.if-a-gt-MOST_CLIENTS.true) in
    rw (← c.self.view_is)
    (healer_done c.self.inside.plan (reverse c.self.inside.log.items) c.self.inside.servers c.self.inside.actors.items c.self.inside.healers.items c.self.inside.made (sources_of c.self.inside.healers.items) (picked_of c.self.inside.actors.items) c.self.invariant.whole c.args.a.0 low
    (rw (← c.self.view_is) at c.requires.actor) c.is_healer_done.result c.is_healer_done.ensures)
