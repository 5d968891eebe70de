-- All that were passed come before it.
use Rattle.std.proofs.Common.{ℕ, ◌<◌, get_or}
use Rattle.afr_base.specs.declared.ids.What.TheVariants.{File}
use Rattle.afr_index.proofs.late.spot_of.Given as goal

abbrev pub invariant-loop-at : goal.invariant-loop-at
invariant-loop-at l = (k : ℕ) → k < l.at → (get_or l.list k (record { 0 = 0 }, File)).0.0 < l.g.0
