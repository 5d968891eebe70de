-- What reading an image answers, part by part.
use Rattle.std.specs.Prelude.{◌≡◌, ℕ, List, Option, None, Result, Ok, Err}
use Rattle.afr_image.specs.declared.image.Image.{Image}
use Rattle.afr_image.specs.declared.image.ImageStop.{ImageStop}
use Rattle.afr_image.specs.declared.image.ImageStop.TheVariants.{Refused, NoMemory}
use Rattle.afr_image.specs.Frame.{frame_fault, steps_of_bytes, text_in}
use Rattle.afr_image.specs.Refusals.{IsPlanText, IsRefused, steps_fault}

-- no part has a fault, and they give this image
pub record IsRead (most : Option ℕ) (bytes : List ℕ) (i : Image) : Type 0 where
  pub frame : frame_fault bytes ≡ None
  pub text : IsPlanText (text_in bytes) i.plan
  pub whole : steps_fault most i.plan bytes ≡ None
  pub steps : i.steps ≡ steps_of_bytes bytes

-- the image of the parts, or their first fault
abbrev pub Answers : Option ℕ → List ℕ → Result Image ImageStop → Type 0
Answers most bytes (Ok image) = IsRead most bytes image
Answers most bytes (Err (Refused fault)) = IsRefused most bytes fault
Answers most bytes (Err NoMemory) = Unit {0}
