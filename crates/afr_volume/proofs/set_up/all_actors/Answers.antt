use Rattle.std.proofs.Common.{subst, inl, inr, arith}
use Rattle.afr_servers.proofs.PlaceLemmas.{got_push}
use Rattle.afr_volume.specs.Starting.{IsNewActor}
use Rattle.afr_volume.specs.declared.actor.Actor.{Actor}
use Rattle.afr_volume.proofs.set_up.all_actors.Goals as goal

pub loop-preserved : goal.loop-preserved
loop-preserved c = record {
  many = omega (arith, c.in_ok-push.ensures.len, c.loop.invariant.many);
  each = λ i x e. elim (got_push c.loop.actors.items c.new_actor.result i x (rw c.in_ok-push.ensures.items at e)) [
    | inl w ↦ c.loop.invariant.each i x w
    | inr w ↦ subst (λ (y : Actor). IsNewActor y) w.1 c.new_actor.ensures
  ];
}
