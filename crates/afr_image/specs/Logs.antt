-- Logs whose lines have steps.
use Rattle.std.specs.Prelude.{◌≡◌, ℕ, ◌<◌, ◌^◌, List, Some, map, reverse, slice_get}
use Rattle.afr_lines.specs.declared.line.Line.{Line}
use Rattle.afr_plan.specs.declared.plan.Plan.{Plan}
use Rattle.afr_image.specs.declared.image.Image.{Image}
use Rattle.afr_image.specs.Steps.{step_of}

-- the actor of each line has a number of one byte
pub record HasShortActors (lines : List Line) : Type 0 where
  pub each : (i : ℕ) (line : Line) → slice_get lines i ≡ Some line → (step_of line).who < 2 ^ 8

-- the image of a plan and its log, which has the newest line first
abbrev pub image_of : Plan → List Line → Image
image_of p log = record { plan = p; steps = map step_of (reverse log) }
