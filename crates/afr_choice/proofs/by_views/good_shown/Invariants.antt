use Rattle.std.proofs.Common.{◌≡◌, take, filter}
use Rattle.afr_base.specs.Bricks.{all_five}
use Rattle.afr_choice.specs.Looks.{views_of}
use Rattle.afr_model_moves.specs.Keeps.{keeps_in}
use Rattle.afr_model_moves.specs.Register.{good}
use Rattle.afr_choice.proofs.by_views.good_shown.Given as goal

abbrev pub invariant-loop-b : goal.invariant-loop-b
invariant-loop-b l = l.set ≡ filter (good l.shape.n (keeps_in l.shape) l.kind (views_of l.looked)) (take l.b all_five)
