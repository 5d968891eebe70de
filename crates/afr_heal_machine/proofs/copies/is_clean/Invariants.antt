use Rattle.std.proofs.Common.{◌≡◌, ℕ, ◌<◌, false}
use Rattle.afr_heal_machine.specs.Outcome.{is_marked}
use Rattle.afr_heal_machine.proofs.copies.is_clean.Given as goal

abbrev pub invariant-loop-brick : goal.invariant-loop-brick
invariant-loop-brick l = (k : ℕ) → k < l.brick → is_marked l.kind l.looked k ≡ false
