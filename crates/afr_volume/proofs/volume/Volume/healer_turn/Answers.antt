use Rattle.std.proofs.Common.{◌≡◌, ◌∙◌, arith, List, refl, reverse, subst, sym, true}
use Rattle.std.proofs.lemmas.Bool.Decides.{nat_tests}
use Rattle.afr_volume.proofs.HealerTurn.{answered_at, busy, healed, healer_left, known, lists_after, ready_whole, sources_kept, steps}
use Rattle.afr_volume.proofs.TaskDone.{not_killed_in}
use Rattle.afr_lines.specs.declared.line.Line.{Line}
use Rattle.afr_volume.specs.Lists.{given_lists}
use Rattle.afr_volume.specs.Tasks.{tasks_of}
use Rattle.afr_law_picks.specs.Sources.Sources.{picks_of, sources_of}
use Rattle.afr_volume.specs.Acting.{picked_of}
use Rattle.afr_volume.specs.State.{HealsChosen}
use Rattle.afr_volume.proofs.SourceLemmas.{healer_others, unwritten, whatever}
use Rattle.afr_volume.proofs.LogLemmas.{few_items, newest_at}
use Rattle.afr_volume.proofs.WholeTurn.{turned}
use Rattle.afr_volume.proofs.volume.Volume.healer_turn.Goals as goal

pub ready_healer-requires-clause-left : goal.ready_healer-requires-clause-left
ready_healer-requires-clause-left g c = healer_left c.self.inside.plan (reverse c.self.inside.log.items) c.self.inside.servers c.self.inside.actors.items c.self.inside.healers.items c.self.inside.made (sources_of c.self.inside.healers.items) (picked_of c.self.inside.actors.items) c.self.invariant.whole c.args.a.0 c.requires.healer
    (rw (← c.self.view_is) at c.requires.left)

pub step_listed-requires-clause-busy : goal.step_listed-requires-clause-busy
step_listed-requires-clause-busy g c = busy c.laws.ensures.rounds c.laws.ensures.paces c.self.inside.plan c.args.a c.self.inside.log.items c.self.inside.actors.items c.self.inside.healers.items c.ready_healer.new.healers.items c.self.inside.servers c.self.inside.made c.self.invariant.whole c.requires.healer (rw (← c.self.view_is) at c.requires.actor)
    (few_items c.self.inside.plan c.self.inside.log.items (rw (← c.self.view_is) at c.requires.room)) c.in_ok-ready_healer.ensures.ok

pub step_listed-requires-clause-can : goal.step_listed-requires-clause-can
step_listed-requires-clause-can g c = steps c.laws.ensures.rounds c.laws.ensures.paces c.self.inside.plan c.args.a c.self.inside.log.items c.self.inside.actors.items c.self.inside.healers.items c.ready_healer.new.healers.items c.self.inside.servers c.self.inside.made c.self.invariant.whole c.requires.healer (rw (← c.self.view_is) at c.requires.actor)
    (few_items c.self.inside.plan c.self.inside.log.items (rw (← c.self.view_is) at c.requires.room)) c.in_ok-ready_healer.ensures.ok c.len-position.result (grind (arith, nat_tests, c.len-position.ensures))

pub invariant_of-self-in_err-step_listed : goal.invariant_of-self-in_err-step_listed
invariant_of-self-in_err-step_listed g c = record {
  given = rw (c.in_err-step_listed.ensures.err.3, c.in_err-step_listed.ensures.err.2, c.in_ok-make_room.ensures.items) c.self.invariant.given;
  whole = rw (c.in_err-step_listed.ensures.err.2, c.in_ok-make_room.ensures.items, c.in_err-step_listed.ensures.err.0, c.in_err-step_listed.ensures.err.1)
      (ready_whole c.laws.ensures.rounds c.laws.ensures.paces c.self.inside.plan c.args.a c.self.inside.log.items c.self.inside.actors.items c.self.inside.healers.items c.ready_healer.new.healers.items c.self.inside.servers c.self.inside.made c.self.invariant.whole c.requires.healer (rw (← c.self.view_is) at c.requires.actor)
      (few_items c.self.inside.plan c.self.inside.log.items (rw (← c.self.view_is) at c.requires.room)) c.in_ok-ready_healer.ensures.ok);
}

pub invariant_of-self-2 : goal.invariant_of-self-2
invariant_of-self-2 g c =
    let t =
    healed c.laws.ensures.rounds c.laws.ensures.paces c.self.inside.plan c.args.a c.self.inside.log.items c.self.inside.actors.items c.self.inside.healers.items c.ready_healer.new.healers.items c.self.inside.servers c.self.inside.made c.self.invariant.whole c.requires.healer (rw (← c.self.view_is) at c.requires.actor)
    (few_items c.self.inside.plan c.self.inside.log.items (rw (← c.self.view_is) at c.requires.room)) c.in_ok-ready_healer.ensures.ok c.len-position.result c.step_listed.new.log.items c.step_listed.new.healers.items c.step_listed.new.servers c.in_ok-step_listed.ensures.ok.line
    (rw (← c.self.view_is) at (not_killed_in c.args.a.0 c.args.self.now c.requires.left)) (rw (← c.self.view_is) at c.requires.none) (grind (arith, nat_tests, c.len-position.ensures)) (answered_at _ _ _ _ _ _ _ _ _ c.in_ok-step_listed.ensures.ok.is_so.0)
    (rw (← c.in_ok-make_room.ensures.items) c.in_ok-step_listed.ensures.ok.added) in
    record {
      whole = t.whole;
      given = subst (λ (log : List Line). c.self.inside.crawl ≡ true → reverse c.step_listed.new.lists.items ≡ given_lists c.self.inside.plan log) (sym t.log)
          (lists_after c.laws.ensures.rounds c.laws.ensures.paces c.self.inside.plan c.args.a c.self.inside.log.items c.self.inside.actors.items c.self.inside.healers.items c.ready_healer.new.healers.items c.self.inside.servers c.self.inside.made c.self.invariant.whole c.requires.healer (rw (← c.self.view_is) at c.requires.actor)
          (few_items c.self.inside.plan c.self.inside.log.items (rw (← c.self.view_is) at c.requires.room)) c.in_ok-ready_healer.ensures.ok c.len-position.result c.step_listed.new.healers.items c.step_listed.new.servers c.in_ok-step_listed.ensures.ok.line c.self.inside.lists.items c.step_listed.new.lists.items
          (grind (arith, nat_tests, c.len-position.ensures)) (answered_at _ _ _ _ _ _ _ _ _ c.in_ok-step_listed.ensures.ok.is_so.0) c.in_ok-step_listed.ensures.ok.is_so.1 c.self.invariant.given);
    }

pub returns-clause-ok : goal.returns-clause-ok
returns-clause-ok g c =
    let t =
    healed c.laws.ensures.rounds c.laws.ensures.paces c.self.inside.plan c.args.a c.self.inside.log.items c.self.inside.actors.items c.self.inside.healers.items c.ready_healer.new.healers.items c.self.inside.servers c.self.inside.made c.self.invariant.whole c.requires.healer (rw (← c.self.view_is) at c.requires.actor)
    (few_items c.self.inside.plan c.self.inside.log.items (rw (← c.self.view_is) at c.requires.room)) c.in_ok-ready_healer.ensures.ok c.len-position.result c.step_listed.new.log.items c.step_listed.new.healers.items c.step_listed.new.servers c.in_ok-step_listed.ensures.ok.line
    (rw (← c.self.view_is) at (not_killed_in c.args.a.0 c.args.self.now c.requires.left)) (rw (← c.self.view_is) at c.requires.none) (grind (arith, nat_tests, c.len-position.ensures)) (answered_at _ _ _ _ _ _ _ _ _ c.in_ok-step_listed.ensures.ok.is_so.0)
    (rw (← c.in_ok-make_room.ensures.items) c.in_ok-step_listed.ensures.ok.added) in
    let newest =
    newest_at c.self.inside.log.items c.step_listed.new.log.items c.in_ok-step_listed.ensures.ok.line c.len-position.result (rw (← c.in_ok-make_room.ensures.items) c.in_ok-step_listed.ensures.ok.added)
    (grind (arith, nat_tests, c.len-position.ensures)) in
    rw (← c.self.view_is)
    (turned c.args.a (record { plan = c.self.inside.plan; log = reverse c.self.inside.log.items; sources = sources_of c.self.inside.healers.items; picked = picked_of c.self.inside.actors.items; crawl = c.self.inside.crawl; tasks = tasks_of c.self.inside.crawl c.self.inside.healers.items })
    (record { plan = c.self.inside.plan; log = reverse c.step_listed.new.log.items; sources = sources_of c.step_listed.new.healers.items; picked = picked_of c.self.inside.actors.items; crawl = c.self.inside.crawl; tasks = tasks_of c.self.inside.crawl c.step_listed.new.healers.items })
    c.in_ok-step_listed.ensures.ok.line c.waits_at-waits.result c.answer_of.result t.own refl t.log (sym (c.waits_at-waits.ensures.line c.in_ok-step_listed.ensures.ok.line newest))
    (healer_others _ _ _ _ _ _ _ _ _ _ c.requires.healer c.in_ok-ready_healer.ensures.ok c.in_ok-step_listed.ensures.ok.is_so.0) (λ i other. refl) refl (rw (← c.self.view_is) at c.requires.left) t.tasks.others t.tasks.own c.answer_of.ensures.some c.answer_of.ensures.none)

pub returns-in_err-step_listed-clause-err : goal.returns-in_err-step_listed-clause-err
returns-in_err-step_listed-clause-err g c =
    rw (← c.self.view_is)
    (whatever _ (unwritten c.self.inside.crawl c.self.inside.plan c.args.a.0 c.self.inside.log.items c.step_listed.new.log.items (picked_of c.self.inside.actors.items) c.self.inside.healers.items c.ready_healer.new.healers.items c.step_listed.new.healers.items (λ e. (c.self.invariant.whole.crawling e).can) c.requires.healer (known c.laws.ensures.rounds c.laws.ensures.paces c.self.inside.plan c.args.a c.self.inside.log.items c.self.inside.actors.items c.self.inside.healers.items c.ready_healer.new.healers.items c.self.inside.servers c.self.inside.made c.self.invariant.whole c.requires.healer (rw (← c.self.view_is) at c.requires.actor)
    (few_items c.self.inside.plan c.self.inside.log.items (rw (← c.self.view_is) at c.requires.room)) c.in_ok-ready_healer.ensures.ok) c.in_ok-ready_healer.ensures.ok c.in_err-step_listed.ensures.err.0
    (c.in_err-step_listed.ensures.err.2 ∙ c.in_ok-make_room.ensures.items)))

pub returns-in_err-step_listed-clause-heals : goal.returns-in_err-step_listed-clause-heals
returns-in_err-step_listed-clause-heals g c =
    rw (← c.self.view_is)
    (λ k. subst (HealsChosen (picks_of g.F.Fn c.args.rule.now))
    (sym (unwritten c.self.inside.crawl c.self.inside.plan c.args.a.0 c.self.inside.log.items c.step_listed.new.log.items (picked_of c.self.inside.actors.items) c.self.inside.healers.items c.ready_healer.new.healers.items c.step_listed.new.healers.items (λ e. (c.self.invariant.whole.crawling e).can) c.requires.healer (known c.laws.ensures.rounds c.laws.ensures.paces c.self.inside.plan c.args.a c.self.inside.log.items c.self.inside.actors.items c.self.inside.healers.items c.ready_healer.new.healers.items c.self.inside.servers c.self.inside.made c.self.invariant.whole c.requires.healer (rw (← c.self.view_is) at c.requires.actor)
    (few_items c.self.inside.plan c.self.inside.log.items (rw (← c.self.view_is) at c.requires.room)) c.in_ok-ready_healer.ensures.ok) c.in_ok-ready_healer.ensures.ok c.in_err-step_listed.ensures.err.0
    (c.in_err-step_listed.ensures.err.2 ∙ c.in_ok-make_room.ensures.items))) k)

pub returns-clause-heals : goal.returns-clause-heals
returns-clause-heals g c =
    rw (← c.self.view_is)
    (λ k plain. sources_kept c.laws.ensures.rounds c.laws.ensures.paces c.self.inside.plan c.args.a c.self.inside.log.items c.self.inside.actors.items c.self.inside.healers.items c.ready_healer.new.healers.items c.self.inside.servers c.self.inside.made c.self.invariant.whole c.requires.healer (rw (← c.self.view_is) at c.requires.actor)
    (few_items c.self.inside.plan c.self.inside.log.items (rw (← c.self.view_is) at c.requires.room)) c.in_ok-ready_healer.ensures.ok g.F.Fn c.args.rule.now c.a_line_keeps_its_source.ensures.keeps plain c.len-position.result c.step_listed.new.log.items c.step_listed.new.healers.items c.step_listed.new.servers c.in_ok-step_listed.ensures.ok.line
    (grind (arith, nat_tests, c.len-position.ensures)) c.in_ok-step_listed.ensures.ok.is_so.0 (rw (← c.in_ok-make_room.ensures.items) c.in_ok-step_listed.ensures.ok.added) (k plain))

pub step_listed-requires-clause-position : goal.step_listed-requires-clause-position
step_listed-requires-clause-position g c = rw c.in_ok-make_room.ensures.items (grind (arith, nat_tests, c.len-position.ensures))
