-- What the look for a view that shows a number knows on its way.
use Rattle.std.proofs.Common.{◌≡◌, false}
use Rattle.afr_model_moves.specs.Register.{shows_number}
use Rattle.afr_model_moves.specs.Sets.{any}
use Rattle.afr_discipline.specs.Stands.{views_of}
use Rattle.afr_discipline.proofs.heals.some_numbered.Given as goal

-- none of those before shows one
abbrev pub invariant-loop-x : goal.invariant-loop-x
invariant-loop-x l = any l.x (λ x. shows_number l.kind (views_of l.looked x)) ≡ false
