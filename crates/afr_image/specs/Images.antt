-- Which images are read again from their bytes.
use Rattle.std.specs.Prelude.{◌≡◌, ◌<◌, ◌^◌, ℕ, ◌||◌, Bool, true, false, List, Option, Some, None, length, nat_lt}
use Rattle.afr_plan.specs.Spells.{Spells}
use Rattle.afr_plan_print.specs.PrintedPlan.{plan_text}
use Rattle.afr_image.specs.declared.image.Image.{Image}
use Rattle.afr_image.specs.Frame.{bytes_with}
use Rattle.afr_image.specs.Steps.{are_steps}

-- the bytes of an image
abbrev pub image_bytes : Image → List ℕ
image_bytes i = bytes_with (plan_text i.plan) i.steps

-- there are more steps than the plan has turns, or than some reader allows
abbrev pub is_over : Option ℕ → ℕ → ℕ → Bool
is_over None turns steps = nat_lt turns steps
is_over (Some most) turns steps = nat_lt turns steps || nat_lt most steps

-- the two numbers of an image are of four bytes
pub record HasShortNumbers (i : Image) : Type 0 where
  pub text : length (plan_text i.plan) < 2 ^ 32
  pub steps : length i.steps < 2 ^ 32

-- an image that its bytes stand for: a text spells its plan, and its steps are of lines, at most as many as there are turns
pub record IsImage (most : Option ℕ) (i : Image) : Type 0 where
  pub plan : Spells (plan_text i.plan) i.plan
  pub numbers : HasShortNumbers i
  pub few : is_over most i.plan.turns (length i.steps) ≡ false
  pub steps : are_steps i.steps ≡ true

-- the bytes are those of an image
pub record IsImageOf (most : Option ℕ) (bytes : List ℕ) (i : Image) : Type 0 where
  pub image : IsImage most i
  pub spelled : bytes ≡ image_bytes i
