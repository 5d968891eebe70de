use Rattle.std.proofs.Common.{◌∙◌}
use Rattle.afr_heal.proofs.due.asked_from_looks.Goals as goal

pub returns-in-Some-clause-asks : goal.returns-in-Some-clause-asks
returns-in-Some-clause-asks c g kind rest = c.in-Some.ensures.asks g kind _

pub returns-in-Some-asked-clause-asks : goal.returns-in-Some-asked-clause-asks
returns-in-Some-asked-clause-asks c g kind rest = c.in-Some-asked.ensures.asks g kind _ ∙ c.in_default.ensures.asks g kind _

pub returns-in-Some-asked-2-clause-asks : goal.returns-in-Some-asked-2-clause-asks
returns-in-Some-asked-2-clause-asks c g kind rest = c.in-Some-asked-2.ensures.asks g kind _ ∙ c.in_default-asked.ensures.asks g kind _ ∙ c.in_default.ensures.asks g kind _

pub returns-in-Some-asked-3-clause-asks : goal.returns-in-Some-asked-3-clause-asks
returns-in-Some-asked-3-clause-asks c g kind rest = c.in-Some-asked-3.ensures.asks g kind _ ∙ c.in_default-asked-2.ensures.asks g kind _ ∙ c.in_default-asked.ensures.asks g kind _ ∙ c.in_default.ensures.asks g kind _

pub returns-in-Some-asked-4-clause-asks : goal.returns-in-Some-asked-4-clause-asks
returns-in-Some-asked-4-clause-asks c g kind rest = c.in-Some-asked-4.ensures.asks g kind _ ∙ c.in_default-asked-3.ensures.asks g kind _ ∙ c.in_default-asked-2.ensures.asks g kind _ ∙ c.in_default-asked.ensures.asks g kind _ ∙ c.in_default.ensures.asks g kind _

pub returns-clause-asks : goal.returns-clause-asks
returns-clause-asks c g kind rest = c.asked-6.ensures.asks g kind rest ∙ c.in_default-asked-4.ensures.asks g kind _ ∙ c.in_default-asked-3.ensures.asks g kind _ ∙ c.in_default-asked-2.ensures.asks g kind _ ∙ c.in_default-asked.ensures.asks g kind _ ∙ c.in_default.ensures.asks g kind _
