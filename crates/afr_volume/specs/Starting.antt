-- An actor before any line.
use Rattle.std.specs.Prelude.{◌≡◌, ℕ, false, List, length, slice_get, Some, None}
use Rattle.afr_healer.specs.Acting.{IsNewHealer}
use Rattle.afr_healer.specs.declared.healer.Healer.{Healer}
use Rattle.afr_volume.specs.declared.actor.Actor.{Actor}
use Rattle.afr_client.specs.declared.work.WorkMachine.TheVariants.{Idle}

-- an actor that has begun nothing
pub record IsNewActor (x : Actor) : Type 0 where
  pub ended : x.ended ≡ 0
  pub killed : x.killed ≡ false
  pub met : x.visit.met ≡ false
  pub unpicked : x.picked ≡ None
  pub idle : x.work ≡ Idle

-- so many such actors
pub record AreNewActors (count : ℕ) (actors : List Actor) : Type 0 where
  pub many : length actors ≡ count
  pub each : (i : ℕ) (x : Actor) → slice_get actors i ≡ Some x → IsNewActor x

-- so many healers that have begun nothing
pub record AreNewHealers (count : ℕ) (healers : List Healer) : Type 0 where
  pub many : length healers ≡ count
  pub each : (i : ℕ) (x : Healer) → slice_get healers i ≡ Some x → IsNewHealer x
