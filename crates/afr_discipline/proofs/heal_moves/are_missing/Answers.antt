use Rattle.std.proofs.Common.{◌∙◌, List, ℕ, ap}
use Rattle.afr_base.specs.Bricks.{member}
use Rattle.afr_discipline.proofs.heal_moves.are_missing.Goals as goal
use Rattle.afr_model_moves.specs.Register.{over}

pub returns : goal.returns
returns c = c.are_asked.ensures ∙ ap (λ (t : List ℕ). over c.args.upto (member c.args.set) (member t)) c.none.ensures
