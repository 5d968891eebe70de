use Rattle.std.proofs.Common.{◌≡◌, ◌∙◌, sym, subst}
use Rattle.afr_lines.specs.declared.line.Next.TheVariants as next
use Rattle.afr_client_transaction.specs.Progress.{TransactionProgress, answered, next_at}
use Rattle.afr_client_transaction.specs.Sound.{Sound}
use Rattle.afr_client_transaction.proofs.Heard.{heard_is, heard_made, heard_outside, heard_small}
use Rattle.afr_client_transaction.proofs.WaitsLemmas.{has_met, stays_waiting}
use Rattle.afr_client_transaction.proofs.machine.Transaction.hear.Goals as goal

pub note_outside-requires-clause-small : goal.note_outside-requires-clause-small
note_outside-requires-clause-small c = heard_small c.args.self.now c.args.at c.args.brick c.args.request.now c.requires.asked (subst Sound c.self.view_is c.self.invariant.0.sound)

pub left_after-left-requires-clause-small : goal.left_after-left-requires-clause-small
left_after-left-requires-clause-small c = heard_small c.args.self.now c.args.at c.args.brick c.args.request.now c.requires.asked (subst Sound c.self.view_is c.self.invariant.0.sound)

pub after-self-inside-requires-clause-outside : goal.after-self-inside-requires-clause-outside
after-self-inside-requires-clause-outside c =
    heard_outside (record { change = c.self.inside.change; register = c.self.inside.register; stage = c.self.inside.stage; asked = c.self.inside.asked }) c.args.at c.args.brick c.args.request.now
    (subst (λ (m : TransactionProgress). next_at m.stage c.args.at m ≡ next.Ask c.args.brick c.args.request.now) (sym c.self.view_is) c.requires.asked) c.self.invariant.0.sound c.args.told.now c.note_outside.new.register c.note_outside.ensures.value

is_heard : (c : goal.After-self-2-1) → (record { change = c.self.inside.change; register = c.note_outside.new.register; stage = c.after-self-inside.result; asked = c.left_after-left.new.asked }) ≡ answered c.self.inside.stage c.args.told.now c.args.at (record { change = c.self.inside.change; register = c.self.inside.register; stage = c.self.inside.stage; asked = c.self.inside.asked })
is_heard c = heard_is (record { change = c.self.inside.change; register = c.self.inside.register; stage = c.self.inside.stage; asked = c.self.inside.asked }) c.args.at c.args.brick c.args.request.now
    (subst (λ (m : TransactionProgress). next_at m.stage c.args.at m ≡ next.Ask c.args.brick c.args.request.now) (sym c.self.view_is) c.requires.asked) c.self.invariant.0.sound c.args.told.now c.note_outside.new.register c.after-self-inside.result c.left_after-left.new.asked
    c.note_outside.ensures.value c.left_after-left.ensures.asked c.after-self-inside.ensures

pub invariant_of-self : goal.invariant_of-self
invariant_of-self c = (
  heard_made (record { change = c.self.inside.change; register = c.self.inside.register; stage = c.self.inside.stage; asked = c.self.inside.asked }) c.args.at c.args.brick c.args.request.now
      (subst (λ (m : TransactionProgress). next_at m.stage c.args.at m ≡ next.Ask c.args.brick c.args.request.now) (sym c.self.view_is) c.requires.asked) c.self.inside.made c.self.invariant.0 c.args.told.now _ (is_heard c),
  rw c.met_another-self-inside.ensures (has_met (record { change = c.self.inside.change; register = c.self.inside.register; stage = c.self.inside.stage; asked = c.self.inside.asked }) c.args.at c.args.brick c.args.request.now
      (subst (λ (m : TransactionProgress). next_at m.stage c.args.at m ≡ next.Ask c.args.brick c.args.request.now) (sym c.self.view_is) c.requires.asked) c.self.invariant.0.sound c.args.told.now c.note_outside.new.register c.after-self-inside.result c.left_after-left.new.asked
      c.note_outside.ensures.value c.note_outside.ensures.shape c.left_after-left.ensures.asked c.after-self-inside.ensures),
  c.self.invariant.2,
)

pub returns : goal.returns
returns c = subst (λ (m : TransactionProgress). (record { change = c.self.inside.change; register = c.note_outside.new.register; stage = c.after-self-inside.result; asked = c.left_after-left.new.asked }) ≡ answered m.stage c.args.told.now c.args.at m) c.self.view_is (is_heard c)

pub returns-then-is_held : goal.returns-then-is_held
returns-then-is_held c =
    subst (λ (m : TransactionProgress). m ≡ answered m.stage c.args.told.now c.args.at m) c.self.view_is
    (stays_waiting c.self.inside.waits (record { change = c.self.inside.change; register = c.self.inside.register; stage = c.self.inside.stage; asked = c.self.inside.asked }) c.self.invariant.1 c.if-self.true c.self.invariant.0.sound c.args.told.now
    (sym c.is_held.ensures ∙ c.if-is_held.true) c.args.at)
