use Rattle.std.proofs.Common.{◌≡◌, ℕ, Some, slice_get, vec_len}
use Rattle.afr_healer.specs.Acting.{IsNewHealer}
use Rattle.afr_healer.specs.declared.healer.Healer.{Healer}
use Rattle.afr_volume.proofs.healers.all_healers.Given as goal

abbrev pub invariant-loop : goal.invariant-loop
invariant-loop l = record {
  many : vec_len l.healers ≡ l.counter;
  each : (i : ℕ) (x : Healer) → slice_get l.healers.items i ≡ Some x → IsNewHealer x;
}
