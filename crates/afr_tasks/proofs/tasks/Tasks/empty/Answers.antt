use Rattle.std.proofs.Common.{rules}
use Rattle.afr_tasks.proofs.Balances.{cuts}
use Rattle.afr_tasks.proofs.tasks.Tasks.empty.Goals as goal

pub another-second-requires-clause-rule : goal.another-second-requires-clause-rule
another-second-requires-clause-rule c = cuts _ _ (search rules)

pub another-third-requires-clause-rule : goal.another-third-requires-clause-rule
another-third-requires-clause-rule c = cuts _ _ (search rules)
