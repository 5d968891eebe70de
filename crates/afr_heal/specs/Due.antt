-- The step of a heal in which it is some brick's turn, and what comes where there is none.
use Rattle.std.specs.Prelude.{ℕ, Bool, ◌≡◌, Option, None, Some}
use Rattle.afr_base.specs.declared.ids.Gfid.{Gfid}
use Rattle.afr_base.specs.declared.ids.Kind.{Kind}
use Rattle.afr_discipline.specs.Stands.{seen_as, step_of}
use Rattle.afr_discipline.specs.declared.register.Register.{Register}
use Rattle.afr_discipline.specs.declared.register.Step.{Step as TheStep}
use Rattle.afr_heal.specs.Engine.{NextOfHeal, Ask, Begins, Ends, has_part, part_or_end, step_or, whole_next}
use Rattle.afr_heal.specs.Requests.{request_in}
use Rattle.afr_heal.specs.declared.due.Due.{Due}
use Rattle.afr_lines.specs.declared.request.Request.TheVariants.{Lock}
use Rattle.afr_model_moves.specs.Keeps.{keeps_in}
use Rattle.afr_model_moves.specs.Register.{Exact, HealLocks, HealPres, Looks, Mends, Reads, Settles, Step, Unlocks, Untouched, WorkLocks}
use Rattle.afr_model_moves.specs.Rules.{heal_area}
use Rattle.afr_lines.specs.declared.lock.Domain.TheVariants.{Heal}

-- the request of the step that is due, at its brick, or else the line that is there
abbrev pub due_or : ℕ → (ℕ → Kind → Bool) → Exact → ℕ → Gfid → Kind → Option Due → NextOfHeal → NextOfHeal
due_or n keeps r s g kind None rest = rest
due_or n keeps r s g kind (Some due) rest = Ask due.brick.0 (request_in n keeps r s g kind (step_of due.step) due.brick.0)

-- whatever comes after it, the step asks so, if it is somebody's turn
abbrev pub Asks : Register → ℕ → TheStep → Option Due → Type 0
Asks register s step asked =
    (g : Gfid) (kind : Kind) (rest : NextOfHeal) → due_or register.shape.n (keeps_in register.shape) (seen_as register) s g kind asked rest ≡ step_or register.shape.n (keeps_in register.shape) (seen_as register) s g kind (step_of step) rest

-- the first step from the looks to the unlocks of a part that asks somebody
abbrev pub from_looks : ℕ → (ℕ → Kind → Bool) → Exact → ℕ → Gfid → Kind → NextOfHeal → NextOfHeal
from_looks n keeps r s g kind rest =
    step_or n keeps r s g kind Looks (step_or n keeps r s g kind Reads (step_or n keeps r s g kind HealPres (step_or n keeps r s g kind Mends (step_or n keeps r s g kind Settles (step_or n keeps r s g kind Unlocks rest)))))

-- whatever comes after them, one of these asks so
abbrev pub AsksFromLooks : Register → ℕ → Option Due → Type 0
AsksFromLooks register s asked =
    (g : Gfid) (kind : Kind) (rest : NextOfHeal) → due_or register.shape.n (keeps_in register.shape) (seen_as register) s g kind asked rest ≡ from_looks register.shape.n (keeps_in register.shape) (seen_as register) s g kind rest

-- the same of the Heal locks and the Work locks
abbrev pub AsksFromLocks : Register → ℕ → Option Due → Type 0
AsksFromLocks register s asked =
    (g : Gfid) (kind : Kind) (rest : NextOfHeal) → due_or register.shape.n (keeps_in register.shape) (seen_as register) s g kind asked rest
    ≡ step_or register.shape.n (keeps_in register.shape) (seen_as register) s g kind HealLocks (step_or register.shape.n (keeps_in register.shape) (seen_as register) s g kind WorkLocks rest)

-- what comes where no step asks anybody
abbrev pub rest_next : ℕ → (ℕ → Kind → Bool) → Exact → ℕ → Gfid → Kind → Step → NextOfHeal
rest_next n keeps r s g kind HealLocks = Ends
rest_next n keeps r s g kind WorkLocks = Begins
rest_next n keeps r s g kind Untouched = Ask 0 (Lock Heal (heal_area g.0))
rest_next n keeps r s g kind step = part_or_end n keeps r s g kind (has_part kind r.part)

-- a heal that goes on asks so, or else that comes
abbrev pub AsksWhole : Register → ℕ → TheStep → Option Due → Type 0
AsksWhole register s step asked =
    (g : Gfid) (kind : Kind) → due_or register.shape.n (keeps_in register.shape) (seen_as register) s g kind asked (rest_next register.shape.n (keeps_in register.shape) (seen_as register) s g kind (step_of step))
    ≡ whole_next register.shape.n (keeps_in register.shape) (seen_as register) s g kind (step_of step)
