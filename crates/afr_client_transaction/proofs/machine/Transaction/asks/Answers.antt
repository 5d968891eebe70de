use Rattle.std.proofs.Common.{◌∙◌, sym, ap, subst}
use Rattle.afr_base.specs.Bricks.{is_nothing, lowest}
use Rattle.afr_client_transaction.specs.Progress.{TransactionProgress}
use Rattle.afr_client_transaction.specs.Sound.{Sound}
use Rattle.afr_client_transaction.proofs.Heard.{allowed_asked}
use Rattle.afr_client_transaction.proofs.machine.Transaction.asks.Goals as goal

pub returns-clause-allowed : goal.returns-clause-allowed
returns-clause-allowed c = λ b e. allowed_asked c.args.self.now (subst Sound c.self.view_is c.self.invariant.0.sound) c.self.inside.stage c.lowest.result b c.asking-left.new.request (ap (λ (m : TransactionProgress). m.stage) (sym c.self.view_is))
    (c.lowest.ensures.number ∙ ap lowest c.asking-left.ensures.left) c.asking-left.ensures.request (ap is_nothing (sym c.asking-left.ensures.left) ∙ sym c.is_empty.ensures ∙ c.if-is_empty.false) e
