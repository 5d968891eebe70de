use Rattle.std.proofs.Common.{◌≡◌, true}
use Rattle.afr_choice.specs.Looks.{views_of}
use Rattle.afr_model_moves.specs.Register.{unaccused}
use Rattle.afr_choice.proofs.by_views.is_unaccused.Given as goal

-- none of those before accuses it
abbrev pub invariant-loop-x : goal.invariant-loop-x
invariant-loop-x l = unaccused l.x l.kind (views_of l.looked) l.s.0 ≡ true
