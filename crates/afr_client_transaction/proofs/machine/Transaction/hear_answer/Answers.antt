use Rattle.std.proofs.Common.{◌≡◌, ◌∙◌, ap, sym, subst}
use Rattle.afr_lines.specs.Told.{told_by}
use Rattle.afr_lines.specs.declared.answer.Told.{Told}
use Rattle.afr_client_transaction.specs.Progress.{TransactionProgress, answered}
use Rattle.afr_client_transaction.proofs.WaitsLemmas.{stays_waiting}
use Rattle.afr_client_transaction.proofs.machine.Transaction.hear_answer.Goals as goal

pub returns-then-says_held : goal.returns-then-says_held
returns-then-says_held c =
    subst (λ (m : TransactionProgress). m ≡ answered m.stage (told_by c.args.answer.now) c.args.at m) c.self.view_is
    (stays_waiting c.self.inside.waits (record { change = c.self.inside.change; register = c.self.inside.register; stage = c.self.inside.stage; asked = c.self.inside.asked }) c.self.invariant.1 c.if-self.true c.self.invariant.0.sound (told_by c.args.answer.now)
    (sym c.says_held.ensures ∙ c.if-says_held.true) c.args.at)

pub returns : goal.returns
returns c = c.hear.ensures ∙ ap (λ (told : Told). answered c.args.self.now.stage told c.args.at c.args.self.now) c.told_of.ensures
