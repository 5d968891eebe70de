-- The bricks that a step of a heal has not asked.
use Rattle.std.specs.Prelude.{◌≡◌, ℕ, ◌<◌, Bool, List, ◌&&◌, not}
use Rattle.afr_base.specs.Bricks.{member}
use Rattle.afr_base.specs.declared.ids.Kind.{Kind}
use Rattle.afr_discipline.specs.Stands.{seen_as, step_of}
use Rattle.afr_discipline.specs.declared.register.Register.{Register}
use Rattle.afr_discipline.specs.declared.register.Step.{Step as TheStep}
use Rattle.afr_model_moves.specs.Keeps.{keeps_in}
use Rattle.afr_model_moves.specs.Register.{Exact, Step, asked_in}
use Rattle.afr_model_moves.specs.Steps.{set_of}

-- the step asks the brick, and hasn't yet
abbrev pub waits : ℕ → (ℕ → Kind → Bool) → Exact → ℕ → Step → ℕ → Bool
waits n keeps r s step x = set_of n keeps r s step x && not (asked_in r step x)

-- of the five bricks, these are the ones that it has not asked
abbrev pub AreLeft : Register → ℕ → TheStep → List ℕ → Type 0
AreLeft register s step left = (x : ℕ) → x < 5 → member left x ≡ waits register.shape.n (keeps_in register.shape) (seen_as register) s (step_of step) x
