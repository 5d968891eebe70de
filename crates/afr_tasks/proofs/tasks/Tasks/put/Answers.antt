use Rattle.std.proofs.Common.{ap, arith}
use Rattle.afr_tasks.specs.declared.rule.Hand.{Hand}
use Rattle.afr_tasks.proofs.Balances.{puts}
use Rattle.afr_tasks.proofs.tasks.Tasks.put.Goals as goal

pub try_push_as-requires-clause-rule : goal.try_push_as-requires-clause-rule
try_push_as-requires-clause-rule c = puts _ _ _ _ (omega (arith, ap (λ (v : Hand). v.parts) c.self.invariant.puts))
