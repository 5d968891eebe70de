use Rattle.std.proofs.Common.{sym}
use Rattle.afr_test_heal.proofs.machine_tests.lines.begins.Goals as goal

pub begun-requires : goal.begun-requires
begun-requires c = sym c.in-Begin.ensures
