use Rattle.std.proofs.Common.{◌≡◌, ◌<◌, ◌+◌, ℕ, true}
use Rattle.afr_model.specs.Actors.{is_done}
use Rattle.afr_order.proofs.rows.count_done.Given as goal

abbrev pub invariant-loop-i : goal.invariant-loop-i
invariant-loop-i l = (k : ℕ) → k < l.i → is_done l.volume.plan (1 + k) l.volume.log ≡ true
