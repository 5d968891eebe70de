use Rattle.std.proofs.Common.{◌∙◌, arith, refl, reverse, subst, sym}
use Rattle.std.proofs.lemmas.Bool.Decides.{nat_tests}
use Rattle.afr_volume.proofs.ListLemmas.{lists_stay}
use Rattle.afr_volume.proofs.LogLemmas.{few_items, newest_at}
use Rattle.afr_volume.proofs.PaceTurns.{ready_paced, turn_paced}
use Rattle.afr_volume.proofs.PickedLemmas.{client_others, unwritten}
use Rattle.afr_volume.proofs.ReadsKeep.{any_steps, reads_kept}
use Rattle.afr_volume.proofs.SourceLemmas.{own_of, whatever}
use Rattle.afr_volume.proofs.TaskDone.{client_left}
use Rattle.afr_volume.specs.Tasks.{tasks_of}
use Rattle.afr_volume.proofs.WholeTurn.{at_least, before, busy, client_low, left_at, mine, ready_volume, steps, took, turned, whole}
use Rattle.afr_law_picks.specs.Sources.Sources.{picks_of, sources_of}
use Rattle.afr_volume.specs.Acting.{picked_of}
use Rattle.afr_volume.specs.State.{ReadsChosen}
use Rattle.afr_volume.proofs.volume.Volume.client_turn.Goals as goal

pub ready_actor-requires-clause-left : goal.ready_actor-requires-clause-left
ready_actor-requires-clause-left g c = left_at c.self.inside.plan c.args.a.0 c.self.inside.log.items c.self.inside.servers c.self.inside.actors.items c.self.inside.made c.self.invariant.whole.kept c.requires.client (rw (← c.self.view_is) at c.requires.actor) (rw (← c.self.view_is) at (client_left c.args.a.0 c.args.self.now c.requires.client c.requires.left))

pub step_actor-requires-clause-busy : goal.step_actor-requires-clause-busy
step_actor-requires-clause-busy g c =
    busy c.laws.ensures.turns c.laws.ensures.begins c.self.inside.plan c.args.a c.self.inside.log.items c.self.inside.actors.items c.ready_actor.new.actors.items c.self.inside.servers c.self.inside.made c.self.invariant.whole.kept c.requires.client (rw (← c.self.view_is) at c.requires.actor)
    (few_items c.self.inside.plan c.self.inside.log.items (rw (← c.self.view_is) at c.requires.room)) c.in_ok-ready_actor.ensures.ok

pub step_actor-requires-clause-can : goal.step_actor-requires-clause-can
step_actor-requires-clause-can g c =
    steps c.laws.ensures.turns c.laws.ensures.begins c.self.inside.plan c.args.a c.self.inside.log.items c.self.inside.actors.items c.ready_actor.new.actors.items c.self.inside.servers c.self.inside.made c.self.invariant.whole.kept c.requires.client (rw (← c.self.view_is) at c.requires.actor)
    (few_items c.self.inside.plan c.self.inside.log.items (rw (← c.self.view_is) at c.requires.room)) c.in_ok-ready_actor.ensures.ok c.len-position.result (grind (arith, nat_tests, c.len-position.ensures))

pub invariant_of-self-in_err-step_actor : goal.invariant_of-self-in_err-step_actor
invariant_of-self-in_err-step_actor g c = record {
  given = rw (c.in_err-step_actor.ensures.err.2, c.in_ok-make_room.ensures.items) c.self.invariant.given;
  whole = rw (c.in_err-step_actor.ensures.err.2, c.in_ok-make_room.ensures.items, c.in_err-step_actor.ensures.err.0, c.in_err-step_actor.ensures.err.1)
      (record {
        crawling = c.self.invariant.whole.crawling;
        kept = ready_volume c.laws.ensures.turns c.laws.ensures.begins c.self.inside.plan c.args.a c.self.inside.log.items c.self.inside.actors.items c.ready_actor.new.actors.items c.self.inside.servers c.self.inside.made c.self.invariant.whole.kept c.requires.client (rw (← c.self.view_is) at c.requires.actor)
            (few_items c.self.inside.plan c.self.inside.log.items (rw (← c.self.view_is) at c.requires.room)) c.in_ok-ready_actor.ensures.ok;
        healing = c.self.invariant.whole.healing;
        pacing = ready_paced c.laws.ensures.paces c.laws.ensures.turns c.laws.ensures.begins c.self.inside.plan c.args.a c.self.inside.log.items c.self.inside.actors.items c.ready_actor.new.actors.items c.self.inside.servers c.self.inside.made c.self.invariant.whole.kept c.requires.client (rw (← c.self.view_is) at c.requires.actor)
            (few_items c.self.inside.plan c.self.inside.log.items (rw (← c.self.view_is) at c.requires.room)) c.in_ok-ready_actor.ensures.ok c.self.inside.healers.items c.self.invariant.whole.pacing;
      });
}

pub invariant_of-self-2 : goal.invariant_of-self-2
invariant_of-self-2 g c =
    let t =
    took c.laws.ensures.turns c.laws.ensures.begins c.self.inside.plan c.args.a c.self.inside.log.items c.self.inside.actors.items c.ready_actor.new.actors.items c.self.inside.servers c.self.inside.made c.self.invariant.whole.kept c.requires.client (rw (← c.self.view_is) at c.requires.actor)
    (few_items c.self.inside.plan c.self.inside.log.items (rw (← c.self.view_is) at c.requires.room)) c.in_ok-ready_actor.ensures.ok c.len-position.result c.step_actor.new.log.items c.step_actor.new.actors.items c.step_actor.new.servers c.in_ok-step_actor.ensures.ok.line
    (rw (← c.self.view_is) at (client_left c.args.a.0 c.args.self.now c.requires.client c.requires.left)) (rw (← c.self.view_is) at c.requires.none) (grind (arith, nat_tests, c.len-position.ensures)) (any_steps g.G.Fn c.args.rule.now c.rule_laws.ensures _ _ _ _ _ _ _ c.in_ok-step_actor.ensures.ok.is_so)
    (rw (← c.in_ok-make_room.ensures.items) c.in_ok-step_actor.ensures.ok.added) in
    record {
      given = lists_stay c.self.inside.crawl c.self.inside.plan c.args.a.0 c.in_ok-step_actor.ensures.ok.line (reverse c.self.inside.log.items) (reverse c.step_actor.new.log.items) c.self.inside.lists.items c.requires.client t.own t.log c.self.invariant.given;
      whole = whole c.laws.ensures.turns c.laws.ensures.begins c.self.inside.plan c.args.a c.self.inside.log.items c.self.inside.actors.items c.ready_actor.new.actors.items c.self.inside.servers c.self.inside.made c.self.invariant.whole.kept c.requires.client (rw (← c.self.view_is) at c.requires.actor)
          (few_items c.self.inside.plan c.self.inside.log.items (rw (← c.self.view_is) at c.requires.room)) c.in_ok-ready_actor.ensures.ok
          c.laws.ensures.rounds c.self.inside.healers.items c.step_actor.new.log.items c.step_actor.new.servers c.step_actor.new.actors.items c.in_ok-step_actor.ensures.ok.line
          t c.self.invariant.whole.healing
          (turn_paced c.laws.ensures.paces c.laws.ensures.turns c.laws.ensures.begins c.self.inside.plan c.args.a c.self.inside.log.items c.self.inside.actors.items c.ready_actor.new.actors.items c.self.inside.servers c.self.inside.made c.self.invariant.whole.kept c.requires.client (rw (← c.self.view_is) at c.requires.actor)
          (few_items c.self.inside.plan c.self.inside.log.items (rw (← c.self.view_is) at c.requires.room)) c.in_ok-ready_actor.ensures.ok c.self.inside.healers.items c.self.invariant.whole.pacing c.len-position.result c.step_actor.new.log.items c.step_actor.new.actors.items c.step_actor.new.servers c.in_ok-step_actor.ensures.ok.line
          (grind (arith, nat_tests, c.len-position.ensures)) (any_steps g.G.Fn c.args.rule.now c.rule_laws.ensures _ _ _ _ _ _ _ c.in_ok-step_actor.ensures.ok.is_so) (rw (← c.in_ok-make_room.ensures.items) c.in_ok-step_actor.ensures.ok.added)) c.self.invariant.whole.crawling;
    }

pub returns-clause-ok : goal.returns-clause-ok
returns-clause-ok g c =
    let t =
    took c.laws.ensures.turns c.laws.ensures.begins c.self.inside.plan c.args.a c.self.inside.log.items c.self.inside.actors.items c.ready_actor.new.actors.items c.self.inside.servers c.self.inside.made c.self.invariant.whole.kept c.requires.client (rw (← c.self.view_is) at c.requires.actor)
    (few_items c.self.inside.plan c.self.inside.log.items (rw (← c.self.view_is) at c.requires.room)) c.in_ok-ready_actor.ensures.ok c.len-position.result c.step_actor.new.log.items c.step_actor.new.actors.items c.step_actor.new.servers c.in_ok-step_actor.ensures.ok.line
    (rw (← c.self.view_is) at (client_left c.args.a.0 c.args.self.now c.requires.client c.requires.left)) (rw (← c.self.view_is) at c.requires.none) (grind (arith, nat_tests, c.len-position.ensures)) (any_steps g.G.Fn c.args.rule.now c.rule_laws.ensures _ _ _ _ _ _ _ c.in_ok-step_actor.ensures.ok.is_so)
    (rw (← c.in_ok-make_room.ensures.items) c.in_ok-step_actor.ensures.ok.added) in
    let newest =
    newest_at c.self.inside.log.items c.step_actor.new.log.items c.in_ok-step_actor.ensures.ok.line c.len-position.result (rw (← c.in_ok-make_room.ensures.items) c.in_ok-step_actor.ensures.ok.added)
    (grind (arith, nat_tests, c.len-position.ensures)) in
    rw (← c.self.view_is)
    (turned c.args.a (record { plan = c.self.inside.plan; log = reverse c.self.inside.log.items; sources = sources_of c.self.inside.healers.items; picked = picked_of c.self.inside.actors.items; crawl = c.self.inside.crawl; tasks = tasks_of c.self.inside.crawl c.self.inside.healers.items })
    (record { plan = c.self.inside.plan; log = reverse c.step_actor.new.log.items; sources = sources_of c.self.inside.healers.items; picked = picked_of c.step_actor.new.actors.items; crawl = c.self.inside.crawl; tasks = tasks_of c.self.inside.crawl c.self.inside.healers.items })
    c.in_ok-step_actor.ensures.ok.line c.waits_at-waits.result c.answer_of.result t.own refl t.log (sym (c.waits_at-waits.ensures.line c.in_ok-step_actor.ensures.ok.line newest)) (λ i other. refl)
    (client_others _ _ _ _ _ _ _ _ _ _ (at_least c.self.inside.plan c.args.a.0 c.self.invariant.whole.kept.runnable c.requires.client (rw (← c.self.view_is) at c.requires.actor)) c.in_ok-ready_actor.ensures.ok c.in_ok-step_actor.ensures.ok.is_so)
    refl (rw (← c.self.view_is) at c.requires.left) (λ i other. refl) (λ item worker is. absurd (omega (arith, worker, c.requires.client))) c.answer_of.ensures.some c.answer_of.ensures.none)

pub returns-in_err-step_actor-clause-err : goal.returns-in_err-step_actor-clause-err
returns-in_err-step_actor-clause-err g c =
    rw (← c.self.view_is)
    (whatever _ (unwritten c.self.inside.crawl (tasks_of c.self.inside.crawl c.self.inside.healers.items) c.self.inside.plan c.args.a.0 c.self.inside.log.items c.step_actor.new.log.items (sources_of c.self.inside.healers.items) c.self.inside.actors.items c.ready_actor.new.actors.items c.step_actor.new.actors.items c.in_ok-ready_actor.ensures.ok c.in_err-step_actor.ensures.err.0
    (c.in_err-step_actor.ensures.err.2 ∙ c.in_ok-make_room.ensures.items)))

pub returns-in_err-step_actor-clause-reads : goal.returns-in_err-step_actor-clause-reads
returns-in_err-step_actor-clause-reads g c =
    rw (← c.self.view_is)
    (λ k. subst (ReadsChosen (picks_of g.G.Fn c.args.rule.now))
    (sym (unwritten c.self.inside.crawl (tasks_of c.self.inside.crawl c.self.inside.healers.items) c.self.inside.plan c.args.a.0 c.self.inside.log.items c.step_actor.new.log.items (sources_of c.self.inside.healers.items) c.self.inside.actors.items c.ready_actor.new.actors.items c.step_actor.new.actors.items c.in_ok-ready_actor.ensures.ok c.in_err-step_actor.ensures.err.0
    (c.in_err-step_actor.ensures.err.2 ∙ c.in_ok-make_room.ensures.items))) k)

pub returns-clause-reads : goal.returns-clause-reads
returns-clause-reads g c =
    let t =
    took c.laws.ensures.turns c.laws.ensures.begins c.self.inside.plan c.args.a c.self.inside.log.items c.self.inside.actors.items c.ready_actor.new.actors.items c.self.inside.servers c.self.inside.made c.self.invariant.whole.kept c.requires.client (rw (← c.self.view_is) at c.requires.actor)
    (few_items c.self.inside.plan c.self.inside.log.items (rw (← c.self.view_is) at c.requires.room)) c.in_ok-ready_actor.ensures.ok c.len-position.result c.step_actor.new.log.items c.step_actor.new.actors.items c.step_actor.new.servers c.in_ok-step_actor.ensures.ok.line
    (rw (← c.self.view_is) at (client_left c.args.a.0 c.args.self.now c.requires.client c.requires.left)) (rw (← c.self.view_is) at c.requires.none) (grind (arith, nat_tests, c.len-position.ensures)) (any_steps g.G.Fn c.args.rule.now c.rule_laws.ensures _ _ _ _ _ _ _ c.in_ok-step_actor.ensures.ok.is_so)
    (rw (← c.in_ok-make_room.ensures.items) c.in_ok-step_actor.ensures.ok.added) in
    rw (← c.self.view_is)
    (reads_kept g.G.Fn c.args.rule.now c.rule_laws.ensures c.laws.ensures.turns c.self.inside.plan c.args.a c.self.inside.log.items c.self.inside.actors.items c.ready_actor.new.actors.items c.self.inside.servers (before c.laws.ensures.turns c.laws.ensures.begins c.self.inside.plan c.args.a c.self.inside.log.items c.self.inside.actors.items c.ready_actor.new.actors.items c.self.inside.servers c.self.inside.made c.self.invariant.whole.kept c.requires.client (rw (← c.self.view_is) at c.requires.actor)
    (few_items c.self.inside.plan c.self.inside.log.items (rw (← c.self.view_is) at c.requires.room)) c.in_ok-ready_actor.ensures.ok) c.in_ok-ready_actor.ensures.ok
    (mine c.laws.ensures.turns c.laws.ensures.begins c.self.inside.plan c.args.a c.self.inside.log.items c.self.inside.actors.items c.ready_actor.new.actors.items c.self.inside.servers c.self.inside.made c.self.invariant.whole.kept c.requires.client (rw (← c.self.view_is) at c.requires.actor)
    (few_items c.self.inside.plan c.self.inside.log.items (rw (← c.self.view_is) at c.requires.room)) c.in_ok-ready_actor.ensures.ok) (λ x is. (busy c.laws.ensures.turns c.laws.ensures.begins c.self.inside.plan c.args.a c.self.inside.log.items c.self.inside.actors.items c.ready_actor.new.actors.items c.self.inside.servers c.self.inside.made c.self.invariant.whole.kept c.requires.client (rw (← c.self.view_is) at c.requires.actor)
    (few_items c.self.inside.plan c.self.inside.log.items (rw (← c.self.view_is) at c.requires.room)) c.in_ok-ready_actor.ensures.ok x is).0) c.len-position.result c.step_actor.new.log.items c.step_actor.new.actors.items c.step_actor.new.servers c.in_ok-step_actor.ensures.ok.line
    (grind (arith, nat_tests, c.len-position.ensures)) (client_low c.self.inside.plan c.args.a.0 c.self.invariant.whole.kept.runnable c.requires.client (rw (← c.self.view_is) at c.requires.actor)) (own_of c.args.a.0 c.in_ok-step_actor.ensures.ok.line t.own)
    c.in_ok-step_actor.ensures.ok.is_so (rw (← c.in_ok-make_room.ensures.items) c.in_ok-step_actor.ensures.ok.added))
