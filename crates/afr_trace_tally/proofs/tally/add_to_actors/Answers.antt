use Rattle.std.proofs.Common.{◌∙◌, ◌+◌, ◌<◌, ◌∷◌, length, length-set, refl, reverse, arith}
use Rattle.std.proofs.lemmas.List.{length-reverse}
use Rattle.afr_trace_tally.specs.Actors.{IsActorTally}
use Rattle.afr_trace_tally.proofs.ActorLemmas.{ended_few}
use Rattle.afr_trace_tally.proofs.PlaceLemmas.{all_done, next_left, none_done, one_done}
use Rattle.afr_trace_tally.proofs.tally.add_to_actors.Goals as goal

pub loop-a-init : goal.loop-a-init
loop-a-init c = record {
  twenty = c.requires.was.twenty;
  between = none_done (IsActorTally c.args.plan.now (c.args.line.now ∷ reverse c.args.older.now)) (IsActorTally c.args.plan.now (reverse c.args.older.now)) c.args.actors.now c.requires.was.each;
}

pub next_actor-requires : goal.next_actor-requires
next_actor-requires c =
    ended_few c.args.plan.now c.args.line.now (reverse c.args.older.now) c.loop-a.a c.loop-a.actors _ (omega (arith, c.loop-a.invariant.twenty, c.loop-a-test.true)) (omega (arith, length-reverse c.args.older.now, c.requires.few))
    c.loop-a.invariant.between

pub loop-a-preserved : goal.loop-a-preserved
loop-a-preserved c =
    let low : c.loop-a.a < length c.loop-a.actors = omega (arith, c.loop-a.invariant.twenty, c.loop-a-test.true) in record {
      twenty = length-set c.loop-a.actors c.loop-a.a c.next_actor.result ∙ c.loop-a.invariant.twenty;
      between =
          one_done (IsActorTally c.args.plan.now (c.args.line.now ∷ reverse c.args.older.now)) (IsActorTally c.args.plan.now (reverse c.args.older.now)) c.loop-a.a (c.loop-a.a + 1) c.loop-a.actors _ c.next_actor.result refl low refl
          (c.next_actor.ensures c.args.plan.now (reverse c.args.older.now) c.requires.started
          (next_left (IsActorTally c.args.plan.now (c.args.line.now ∷ reverse c.args.older.now)) (IsActorTally c.args.plan.now (reverse c.args.older.now)) c.loop-a.a c.loop-a.actors _ low c.loop-a.invariant.between))
          c.loop-a.invariant.between;
    }

pub returns : goal.returns
returns c = record {
  twenty = c.loop-a.invariant.twenty;
  each =
      all_done (IsActorTally c.args.plan.now (c.args.line.now ∷ reverse c.args.older.now)) (IsActorTally c.args.plan.now (reverse c.args.older.now)) c.loop-a.a c.loop-a.actors
      (omega (arith, c.loop-a.invariant.twenty, c.loop-a-test.false)) c.loop-a.invariant.between;
}
