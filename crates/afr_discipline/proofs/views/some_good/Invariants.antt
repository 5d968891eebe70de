use Rattle.std.proofs.Common.{◌≡◌, ◌&&◌, false}
use Rattle.afr_base.specs.Bricks.{member}
use Rattle.afr_choice.specs.Looks.{views_of}
use Rattle.afr_discipline.proofs.views.some_good.Given as goal
use Rattle.afr_model_moves.specs.Keeps.{keeps_in}
use Rattle.afr_model_moves.specs.Register.{good}
use Rattle.afr_model_moves.specs.Sets.{any}

-- none of those before is one
abbrev pub invariant-loop-s : goal.invariant-loop-s
invariant-loop-s l = any l.s (λ x. member l.set x && good l.shape.n (keeps_in l.shape) l.kind (views_of l.looked) x) ≡ false
