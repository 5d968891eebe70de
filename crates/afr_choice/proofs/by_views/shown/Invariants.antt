use Rattle.std.proofs.Common.{◌≡◌, take, filter}
use Rattle.afr_base.specs.Bricks.{all_five}
use Rattle.afr_choice.specs.Looks.{views_of}
use Rattle.afr_model_moves.specs.Register.{holder}
use Rattle.afr_choice.proofs.by_views.shown.Given as goal

abbrev pub invariant-loop-b : goal.invariant-loop-b
invariant-loop-b l = l.set ≡ filter (holder (views_of l.looked)) (take l.b all_five)
