-- Why bytes are no image: the refusals in their order, of which the first that applies counts.
use Rattle.std.specs.Prelude.{◌≡◌, ◌⊎◌, ℕ, List, Option, Some, None, if◌then◌else◌}
use Rattle.afr_plan.specs.declared.plan.Plan.{Plan}
use Rattle.afr_plan.specs.Spells.{Spells}
use Rattle.afr_plan_print.specs.PrintedPlan.{plan_text}
use Rattle.afr_image.specs.declared.image.ImageFault.{ImageFault}
use Rattle.afr_image.specs.Images.{is_over}
use Rattle.afr_image.specs.Frame.{count_at, frame_fault, refusal, step_count, step_fault, steps_at, steps_of_bytes, text_in}
use Rattle.afr_image.specs.Steps.{first_bad}

-- a text is the one that is printed of the plan that it spells
pub record IsPlanText (text : List ℕ) (plan : Plan) : Type 0 where
  pub spelled : Spells text plan
  pub printed : plan_text plan ≡ text

-- a text is that of no plan
abbrev pub IsNoPlanText : List ℕ → Type 0
IsNoPlanText text = (plan : Plan) → IsPlanText text plan → ⊥

-- there are too many steps for the plan's turns, or one that no line can have
abbrev pub steps_fault : Option ℕ → Plan → List ℕ → Option ImageFault
steps_fault most plan bytes = if is_over most plan.turns (step_count bytes) then Some (refusal (count_at bytes) 16) else step_fault (steps_at bytes) (first_bad (steps_of_bytes bytes))

-- the text is that of no plan, or of a plan whose steps have a fault
abbrev pub IsPlanFault : Option ℕ → List ℕ → ImageFault → Type 0
IsPlanFault most bytes fault = (IsNoPlanText (text_in bytes) × (fault ≡ refusal 12 13)) ⊎ ((plan : Plan) × IsPlanText (text_in bytes) plan × (steps_fault most plan bytes ≡ Some fault))

-- the first of the refusals: those of the frame come before those of the plan
abbrev pub IsFault : Option ℕ → List ℕ → Option ImageFault → ImageFault → Type 0
IsFault most bytes (Some first) fault = fault ≡ first
IsFault most bytes None fault = IsPlanFault most bytes fault

-- the bytes are refused with this fault
pub record IsRefused (most : Option ℕ) (bytes : List ℕ) (fault : ImageFault) : Type 0 where
  pub first : IsFault most bytes (frame_fault bytes) fault
