-- The actors before the present one are done.
use Rattle.std.proofs.Common.{◌≡◌, ◌<◌, ◌+◌, ℕ, true}
use Rattle.afr_volume.specs.Tasks.{is_done_in}
use Rattle.afr_cli.proofs.finished.are_done.Given as goal

abbrev pub invariant-loop-i : goal.invariant-loop-i
invariant-loop-i l = (i : ℕ) → i < l.i → is_done_in (l.first + i) l.volume ≡ true
