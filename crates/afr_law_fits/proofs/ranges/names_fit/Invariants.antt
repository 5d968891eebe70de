use Rattle.std.proofs.Common.{take}
use Rattle.afr_law_fits.specs.Named.{IsNamed}
use Rattle.afr_model_moves.specs.Ranges.{Each}
use Rattle.afr_law_fits.proofs.ranges.names_fit.Given as goal

abbrev pub invariant-loop-pair : goal.invariant-loop-pair
invariant-loop-pair l = Each IsNamed (take l.pair-index l.names)
