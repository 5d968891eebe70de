-- Before any look no source has passed the steps that an unlock comes after.
use Rattle.std.proofs.Common.{◌≡◌, ◌∙◌, arith, false, nat_le, sym}
use Rattle.std.proofs.lemmas.Bool.Decides.{nat_tests}
use Rattle.afr_model_moves.specs.Keeps.{keeps_in}
use Rattle.afr_model_moves.specs.Register.{rank}
use Rattle.afr_discipline.specs.Stands.{seen_as, step_of}
use Rattle.afr_discipline.proofs.AllowedLemmas.{early_unlock}
use Rattle.afr_discipline.proofs.heal_possible.is_early.Goals as goal

pub returns-then-gives_back : goal.returns-then-gives_back
returns-then-gives_back c h n s b =
    let early : nat_le 7 (rank (step_of c.args.register.now.step)) ≡ false = grind (arith, nat_tests, h, c.rank.ensures) in
    early_unlock n (keeps_in c.args.register.now.shape) (seen_as c.args.register.now) s b c.args.request.now (sym c.gives_back.ensures ∙ c.if-gives_back.true) early
