use Rattle.std.proofs.Common.{◌≡◌, ℕ, Some, slice_get, vec_len}
use Rattle.afr_volume.specs.Starting.{IsNewActor}
use Rattle.afr_volume.specs.declared.actor.Actor.{Actor}
use Rattle.afr_volume.proofs.set_up.all_actors.Given as goal

abbrev pub invariant-loop : goal.invariant-loop
invariant-loop l = record {
  many : vec_len l.actors ≡ l.counter;
  each : (i : ℕ) (x : Actor) → slice_get l.actors.items i ≡ Some x → IsNewActor x;
}
