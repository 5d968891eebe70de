use Rattle.std.proofs.Common.{◌∙◌}
use Rattle.afr_heal.proofs.due.asked_from_locks.Goals as goal

pub returns-in-Some-clause-asks : goal.returns-in-Some-clause-asks
returns-in-Some-clause-asks c g kind rest = c.in-Some.ensures.asks g kind _

pub returns-clause-asks : goal.returns-clause-asks
returns-clause-asks c g kind rest = c.asked-2.ensures.asks g kind rest ∙ c.in_default.ensures.asks g kind _
