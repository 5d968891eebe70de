use Rattle.std.proofs.Common.{sym, ap, ◌∙◌}
use Rattle.afr_client_transaction.specs.Progress.{TransactionProgress, left, request_at}
use Rattle.afr_client_transaction.specs.declared.stage.Stage.{Stage}
use Rattle.afr_client_transaction.specs.declared.stage.Stage.TheVariants.{Locking}
use Rattle.afr_client_transaction.proofs.machine.Transaction.asking.Goals as goal

pub returns-in-Locking-clause-left : goal.returns-in-Locking-clause-left
returns-in-Locking-clause-left c =
    c.to_lock.ensures ∙ ap (λ (m : TransactionProgress). left Locking m) c.self.view_is
    ∙ ap (λ (stage : Stage). left stage c.args.self.now) (sym c.in-Locking.is)

pub returns-in-Locking-clause-request : goal.returns-in-Locking-clause-request
returns-in-Locking-clause-request c =
    c.self.invariant.2 ∙ ap (λ (m : TransactionProgress). request_at Locking m) c.self.view_is
    ∙ ap (λ (stage : Stage). request_at stage c.args.self.now) (sym c.in-Locking.is)
