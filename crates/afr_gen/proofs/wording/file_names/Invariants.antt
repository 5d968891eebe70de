use Rattle.std.proofs.Common.{◌≡◌}
use Rattle.afr_plan.specs.Names.{file_names}
use Rattle.afr_gen.proofs.wording.file_names.Given as goal

abbrev pub invariant-loop-before : goal.invariant-loop-before
invariant-loop-before l = l.names ≡ file_names l.before
