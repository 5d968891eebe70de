use Rattle.std.proofs.Common.{ap}
use Rattle.afr_heal_round.specs.Rounding.{is_beginning}
use Rattle.afr_test_heal.proofs.round_tests.lines.begins.Goals as goal

pub begun-requires : goal.begun-requires
begun-requires c = ap is_beginning c.in-Begin.ensures
