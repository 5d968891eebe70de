use Rattle.std.proofs.Common.{◌∙◌, List, ℕ, ap, arith}
use Rattle.afr_base.proofs.OfFive.{member_picked}
use Rattle.afr_base.specs.Bricks.{member}
use Rattle.afr_discipline.proofs.FirstLemmas.{any_same}
use Rattle.afr_discipline.proofs.heal_asks.some_allows.Goals as goal
use Rattle.afr_discipline.specs.Inside.{allows}
use Rattle.afr_discipline.specs.Stands.{seen_as}
use Rattle.afr_model_moves.specs.Keeps.{keeps_in}

pub returns : goal.returns
returns c =
    c.has_some.ensures
    ∙ any_same c.args.register.now.shape.n (member c.each_possible.result) (allows c.args.register.now.shape.n (keeps_in c.args.register.now.shape) (seen_as c.args.register.now) c.args.b.0 c.args.request.now)
    (λ x l.
    ap (λ (t : List ℕ). member t x) c.each_possible.ensures
    ∙ member_picked (allows c.args.register.now.shape.n (keeps_in c.args.register.now.shape) (seen_as c.args.register.now) c.args.b.0 c.args.request.now) x (omega (arith, l, c.requires.few)))
