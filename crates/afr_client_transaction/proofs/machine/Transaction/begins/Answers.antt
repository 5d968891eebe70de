use Rattle.std.proofs.Common.{ap, ◌∙◌}
use Rattle.afr_client_transaction.specs.Progress.{TransactionProgress}
use Rattle.afr_client_transaction.proofs.Kept.{over_at}
use Rattle.afr_client_transaction.proofs.machine.Transaction.begins.Goals as goal

pub returns-in_default-clause-none : goal.returns-in_default-clause-none
returns-in_default-clause-none c = λ none asked.
    over_at c.args.self.now.stage c.args.at c.args.self.now (λ h. c.in_default.not-Beginning (ap (λ (m : TransactionProgress). m.stage) c.self.view_is ∙ h)) asked
