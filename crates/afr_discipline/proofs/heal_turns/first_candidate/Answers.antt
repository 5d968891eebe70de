use Rattle.std.proofs.Common.{◌∙◌, ap, arith}
use Rattle.afr_base.proofs.OfFive.{member_picked}
use Rattle.afr_base.specs.Bricks.{member}
use Rattle.afr_discipline.proofs.FirstLemmas.{find_same}
use Rattle.afr_discipline.proofs.heal_turns.first_candidate.Goals as goal
use Rattle.afr_discipline.specs.Stands.{seen_as}
use Rattle.afr_discipline.specs.Turns.{brick_of, candidate}
use Rattle.afr_model_moves.specs.Keeps.{keeps_in}

pub returns : goal.returns
returns c =
    c.first_of.ensures
    ∙ ap brick_of
    (find_same c.args.register.now.shape.n (member c.of_five-copies.result) (candidate c.args.register.now.shape.n (keeps_in c.args.register.now.shape) (seen_as c.args.register.now))
    (λ x l.
    rw (c.of_five-copies.ensures, c.may_be_source.ensures, c.may_be_source-2.ensures, c.may_be_source-3.ensures, c.may_be_source-4.ensures, c.may_be_source-5.ensures)
    (member_picked (candidate c.args.register.now.shape.n (keeps_in c.args.register.now.shape) (seen_as c.args.register.now)) x (omega (arith, l, c.requires.few)))))
