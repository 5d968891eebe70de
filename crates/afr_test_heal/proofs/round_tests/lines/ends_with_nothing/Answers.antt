use Rattle.std.proofs.Common.{ap}
use Rattle.afr_heal_round.specs.Rounding.{is_ending}
use Rattle.afr_test_heal.proofs.round_tests.lines.ends_with_nothing.Goals as goal

pub healed-requires : goal.healed-requires
healed-requires c = ap is_ending c.in-HealEnd.ensures.1
