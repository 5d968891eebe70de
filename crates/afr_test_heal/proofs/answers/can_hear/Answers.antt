use Rattle.std.proofs.Common.{◌≡◌, ◌∙◌, subst, sym, true}
use Rattle.afr_heal.specs.Answers.{fits}
use Rattle.afr_heal_machine.specs.Healing.{IsTellable}
use Rattle.afr_lines.specs.declared.answer.Told.{Told}
use Rattle.afr_test_heal.proofs.answers.can_hear.Goals as goal

pub returns-then-fits : goal.returns-then-fits
returns-then-fits c = λ tells b.
    (subst (λ (told : Told). fits c.args.request.now told ≡ true) c.told_of-told.ensures (sym c.fits.ensures ∙ c.if-fits.true), subst IsTellable c.told_of-told.ensures (c.is_tellable.ensures tells))
