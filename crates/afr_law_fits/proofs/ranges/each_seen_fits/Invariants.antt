use Rattle.std.proofs.Common.{take}
use Rattle.afr_model_moves.specs.Ranges.{Each, IfSome, ViewInRange}
use Rattle.afr_law_fits.proofs.ranges.each_seen_fits.Given as goal

abbrev pub invariant-loop-view : goal.invariant-loop-view
invariant-loop-view l = Each (IfSome ViewInRange) (take l.view-index l.views)
