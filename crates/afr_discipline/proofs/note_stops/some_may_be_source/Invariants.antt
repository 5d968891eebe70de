-- What the look for a copy that may be the source knows on its way.
use Rattle.std.proofs.Common.{◌≡◌, ◌&&◌, false}
use Rattle.afr_base.specs.Bricks.{member}
use Rattle.afr_model_moves.specs.Keeps.{keeps_in}
use Rattle.afr_model_moves.specs.Sets.{any}
use Rattle.afr_model_moves.specs.Steps.{goes_on}
use Rattle.afr_discipline.specs.Stands.{seen_as}
use Rattle.afr_discipline.proofs.note_stops.some_may_be_source.Given as goal

-- none of those before may be it
abbrev pub invariant-loop-s : goal.invariant-loop-s
invariant-loop-s l = any l.s (λ s. member l.register.possible s && goes_on l.register.shape.n (keeps_in l.register.shape) (seen_as l.register) s) ≡ false
