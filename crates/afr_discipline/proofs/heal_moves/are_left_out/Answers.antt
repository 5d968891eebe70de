use Rattle.std.proofs.Common.{◌∙◌, ◌||◌, Bool, ap, arith, not}
use Rattle.afr_base.specs.Bricks.{member}
use Rattle.afr_discipline.proofs.FirstLemmas.{all_same}
use Rattle.afr_discipline.proofs.heal_moves.are_left_out.Goals as goal
use Rattle.afr_discipline.specs.Stands.{heal_part_of, seen_as}
use Rattle.afr_model_moves.specs.Steps.{locks_at}

pub returns : goal.returns
returns c =
    c.are_asked.ensures
    ∙ all_same c.args.upto (λ x. not (member c.locked.result x) || member c.args.register.now.asked x) (λ x. not (locks_at (seen_as c.args.register.now) (heal_part_of c.args.register.now.part) x) || member c.args.register.now.asked x)
    (λ x l. ap (λ (m : Bool). not m || member c.args.register.now.asked x) (c.locked.ensures x (omega (arith, l, c.requires))))
