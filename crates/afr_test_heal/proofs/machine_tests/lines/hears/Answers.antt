use Rattle.std.proofs.Common.{subst, sym}
use Rattle.afr_heal.specs.Engine.{NextOfHeal}
use Rattle.afr_heal_machine.specs.Healing.{CanHear}
use Rattle.afr_test_heal.proofs.machine_tests.lines.hears.Goals as goal

pub hear-requires-clause-asked : goal.hear-requires-clause-asked
hear-requires-clause-asked c = sym c.in-Ask.ensures

pub hear-requires-clause-can : goal.hear-requires-clause-can
hear-requires-clause-can c = subst (λ (n : NextOfHeal). CanHear n c.args.answer) c.in-Ask.ensures (c.can_hear.ensures c.if-can_hear.true c.in-Ask.brick.0)
