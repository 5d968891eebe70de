use Rattle.std.proofs.Common.{take}
use Rattle.afr_model_moves.specs.Ranges.{Each, IfSome, IsWord}
use Rattle.afr_law_fits.proofs.ranges.reads_fit.Given as goal

abbrev pub invariant-loop-read : goal.invariant-loop-read
invariant-loop-read l = Each (IfSome IsWord) (take l.read-index l.reads)
