-- A turn keeps the three facts and the plan.
use Rattle.std.proofs.Common.{◌∙◌}
use Rattle.afr_workers.proofs.threads.SharedCrowd.step.Goals as goal

pub steps-requires-clause-actor : goal.steps-requires-clause-actor
steps-requires-clause-actor g c = rw c.self.invariant.1 c.requires.actor

pub steps-requires-clause-shop : goal.steps-requires-clause-shop
steps-requires-clause-shop g c = c.self.invariant.0

pub invariant_of-self : goal.invariant_of-self
invariant_of-self g c = (c.steps.ensures.shop, c.steps.ensures.plan ∙ c.self.invariant.1)
