use Rattle.std.proofs.Common.{◌||◌, ap, sym, ◌∙◌}
use Rattle.afr_discipline.specs.Stands.{no_lines}
use Rattle.afr_discipline.specs.declared.register.Register.{Register}
use Rattle.afr_client_transaction.specs.Progress.{TransactionProgress, answered, fed, is_beginning, is_over, starting}
use Rattle.afr_client_transaction.specs.declared.stage.Stage.TheVariants.{Locking}
use Rattle.afr_client_transaction.proofs.Again.FollowsLemmas.{again_new}
use Rattle.afr_client_transaction.proofs.second_work.again.begins_again.Goals as goal

pub returns-in_default : goal.returns-in_default
returns-in_default c = absurd (cc (sym (c.asks.ensures.none c.in_default.is) ∙ ap (λ (m : TransactionProgress). is_beginning m.stage || is_over m.stage m) c.new-second.ensures.value))

pub returns : goal.returns
returns c =
    c.hear.ensures
    ∙ ap (λ (m : TransactionProgress). answered m.stage c.args.told.now c.args.at m) c.new-second.ensures.value
    ∙ ap (λ (r : Register). fed Locking c.args.told.now c.args.at (starting c.args.change (no_lines r.shape))) c.register.ensures
    ∙ sym (again_new c.args.first.now c.args.change c.args.told.now c.args.at c.stays_sound.ensures c.requires.plain c.requires.over)
