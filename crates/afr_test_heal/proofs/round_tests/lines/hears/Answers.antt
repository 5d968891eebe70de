use Rattle.afr_test_heal.proofs.round_tests.lines.hears.Goals as goal

pub hear-requires-clause-can : goal.hear-requires-clause-can
hear-requires-clause-can c = c.can_hear_next.ensures c.if-can_hear_next.true c.in-Ask.brick c.in-Ask.ensures
