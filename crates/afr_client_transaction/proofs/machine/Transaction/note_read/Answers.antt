use Rattle.std.proofs.Common.{sym, ap, subst, ◌∙◌}
use Rattle.afr_discipline.specs.declared.register.Register.{Register}
use Rattle.afr_client_transaction.specs.Between.{noted_read}
use Rattle.afr_client_transaction.specs.Progress.{TransactionProgress, is_beginning}
use Rattle.afr_client_transaction.specs.Sound.{Sound}
use Rattle.afr_client_transaction.proofs.MadeLemmas.{at_beginning}
use Rattle.afr_client_transaction.proofs.ReadLemmas.{kept_read}
use Rattle.afr_client_transaction.proofs.machine.Transaction.note_read.Goals as goal

pub invariant_of-self : goal.invariant_of-self
invariant_of-self c = (
  record {
    sound =
        subst (λ (q : Register). Sound (record { change = c.self.inside.change; register = q; stage = c.self.inside.stage; asked = c.self.inside.asked })) (sym c.note.ensures.value)
        (kept_read (record { change = c.self.inside.change; register = c.self.inside.register; stage = c.self.inside.stage; asked = c.self.inside.asked }) c.self.invariant.0.sound
        (ap (λ (m : TransactionProgress). is_beginning m.stage) c.self.view_is ∙ c.requires.beginning) c.args.brick.0 c.args.request.now c.requires.reads c.args.told.now c.args.at);
    kept = at_beginning c.self.inside.stage c.self.inside.made _ (ap (λ (m : TransactionProgress). is_beginning m.stage) c.self.view_is ∙ c.requires.beginning);
  },
  tt,
  c.self.invariant.2,
)

pub returns : goal.returns
returns c =
    ap (λ (q : Register). record { change = c.self.inside.change; register = q; stage = c.self.inside.stage; asked = c.self.inside.asked }) c.note.ensures.value
    ∙ ap (λ (m : TransactionProgress). noted_read c.args.brick.0 c.args.request.now c.args.told.now c.args.at m) c.self.view_is
