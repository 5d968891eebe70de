use Rattle.std.proofs.Common.{sym, ap, subst, ◌∙◌}
use Rattle.afr_discipline.specs.declared.register.Register.{Register}
use Rattle.afr_client_transaction.specs.Made.{made_by}
use Rattle.afr_client_transaction.specs.Progress.{TransactionProgress}
use Rattle.afr_client_transaction.specs.Sound.{Sound}
use Rattle.afr_client_transaction.specs.declared.stage.Stage.TheVariants.{Preparing}
use Rattle.afr_client_transaction.proofs.Kept.{kept_begin}
use Rattle.afr_client_transaction.proofs.ReadLemmas.{begins_at}
use Rattle.afr_client_transaction.proofs.machine.Transaction.begun.Goals as goal

pub invariant_of-self : goal.invariant_of-self
invariant_of-self c = (
  record {
    sound =
        subst (λ (q : Register). Sound (record { change = c.self.inside.change; register = q; stage = Preparing; asked = c.self.inside.asked })) (sym c.note.ensures.value)
        (kept_begin (record { change = c.self.inside.change; register = c.self.inside.register; stage = c.self.inside.stage; asked = c.self.inside.asked }) c.self.invariant.0.sound
        (ap (λ (m : TransactionProgress). m.stage) c.self.view_is ∙ begins_at c.args.self.now.stage (sym c.is_beginning.ensures ∙ c.if-not-is_beginning.false)) c.args.at);
    kept = c.made_by.ensures ∙ ap (λ (q : Register). made_by q.begun c.self.inside.change) (sym c.note.ensures.value);
  },
  tt,
  c.self.invariant.2,
)
