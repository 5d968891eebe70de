-- What a replay reads, what it makes of it, and why it makes nothing.
use Rattle.std.specs.Prelude.{◌≡◌, ◌<◌, ◌≤◌, ◌⊎◌, ℕ, List, ◌++◌, ◌==◌, if◌then◌else◌, Option, Some, String, codes, decimal, length}
use Rattle.std.specs.Global.{Global}
use Rattle.std.specs.Io.KnownBytes.{Appends}
use Rattle.afr_text.specs.Causes.{Rose}
use Rattle.afr_text.specs.Parts.{CameMore}
use Rattle.afr_plan.specs.declared.plan.Plan.{Plan}
use Rattle.afr_image.specs.declared.image.Image.{Image}
use Rattle.afr_image.specs.declared.image.ImageFault.{ImageFault}
use Rattle.afr_image.specs.Frame.{refusal}
use Rattle.afr_image.specs.Images.{IsImageOf}
use Rattle.afr_image.specs.Refusals.{IsRefused}
use Rattle.afr_order.specs.Replays.Made.{DiffersAt, HasSteps, Retraces}
use Rattle.afr_volume.specs.State.{State}
use Rattle.afr_words.specs.Forms.{AskFor}
use Rattle.afr_words.specs.declared.form.Form.TheVariants as kind
use Rattle.afr_cli.specs.Reading.{WasRead}

-- the words ask for a replay
abbrev pub AreReplay : List (String Global) → Type 0
AreReplay words = (turns : ℕ) × AskFor words (kind.Replay turns)

-- ---- the image
-- what the source gave, to its end, is this image, which has at most so many steps as the replay has turns
pub record IsGivenImage (turns : ℕ) (left now : Option (List ℕ)) (image : Image) : Type 0 where
  pub bytes : List ℕ
  pub read : WasRead 33554432 left now bytes
  pub spelled : IsImageOf (Some turns) bytes image

-- the plan of an image, with the turns of the replay in place of its own
abbrev pub replayed_plan : ℕ → Image → Plan
replayed_plan turns image = record image.plan { turns = turns }

-- the source gave an image whose plan is this one but for its turns
pub record IsImagePlan (turns : ℕ) (left now : Option (List ℕ)) (plan : Plan) : Type 0 where
  pub image : Image
  pub given : IsGivenImage turns left now image
  pub same : plan ≡ replayed_plan turns image

-- ---- an image that is refused
-- the source was read to its end, and its bytes are refused with this fault
pub record IsFaultyImage (turns : ℕ) (left now : Option (List ℕ)) (fault : ImageFault) : Type 0 where
  pub bytes : List ℕ
  pub read : WasRead 33554432 left now bytes
  pub refused : IsRefused (Some turns) bytes fault

-- the source's bytes are refused with this fault; or they are more than 32 MiB, at 0 with code 0
abbrev pub IsImageRefused : ℕ → Option (List ℕ) → Option (List ℕ) → ImageFault → Type 0
IsImageRefused turns left now fault = IsFaultyImage turns left now fault ⊎ ((fault ≡ refusal 0 0) × CameMore left now 33554432)

-- the name of a refused image's code
abbrev pub image_code_name : ℕ → List ℕ
image_code_name code =
    if code == 0 then codes "long"
    else if code == 11 then codes "magic"
    else if code == 12 then codes "short"
    else if code == 13 then codes "plan"
    else if code == 14 then codes "step"
    else if code == 15 then codes "tail"
    else codes "turns"

-- the line that refuses an image
abbrev pub image_refusal_line : ImageFault → List ℕ
image_refusal_line fault = codes "image refused: at " ++ decimal fault.at ++ codes ", code " ++ decimal fault.code ++ codes " " ++ image_code_name fault.code ++ codes "\n"

-- the image is refused, and the sink took the line that says so, to its end
pub record IsImageRefusal (turns : ℕ) (left left' taken taken' : Option (List ℕ)) : Type 0 where
  pub fault : ImageFault
  pub cause : IsImageRefused turns left left' fault
  pub line : Appends taken taken' (image_refusal_line fault)

-- ---- a run that was made again
-- the plan of the source's image was run with these turns, and the first lines of the log, as many as there are steps, were
-- made of them
pub record Repeats (turns : ℕ) (left now : Option (List ℕ)) (v : State) : Type 0 where
  pub image : Image
  pub given : IsGivenImage turns left now image
  pub plan : v.plan ≡ replayed_plan turns image
  pub made : Retraces v.plan image.steps v.log
  pub steps : HasSteps image.steps v.log

-- so many lines were made of the first steps of the source's image, and then one wasn't
pub record Differs (turns : ℕ) (left now : Option (List ℕ)) (v : State) (line : ℕ) : Type 0 where
  pub image : Image
  pub given : IsGivenImage turns left now image
  pub plan : v.plan ≡ replayed_plan turns image
  pub differs : DiffersAt v.plan image.steps line v.log

-- the line that tells where a replay differs from its image
abbrev pub difference_line : ℕ → List ℕ
difference_line line = codes "replay differs: line " ++ decimal line ++ codes "\n"

-- a step of the image wasn't made again, and the sink took the line that tells which, to its end
pub record IsDifference (turns : ℕ) (left left' taken taken' : Option (List ℕ)) (v : State) : Type 0 where
  pub line : ℕ
  pub cause : Differs turns left left' v line
  pub text : Appends taken taken' (difference_line line)

-- ---- a source that tells its bytes
-- the words ask for a replay with these turns, the source tells these bytes, and no read of it failed
pub record IsGivenReplay (words : List (String Global)) (turns : ℕ) (left : Option (List ℕ)) (faults faults' : ℕ) (bytes : List ℕ) : Type 0 where
  pub asked : AskFor words (kind.Replay turns)
  pub told : left ≡ Some bytes
  pub sound : Rose faults faults' → ⊥

-- bytes of which no run is made again: more than 32 MiB, at 0 with code 0; or no more, and they are refused with this fault
pub data HasImageFault (turns : ℕ) (bytes : List ℕ) : ImageFault → Type 0 where
  Long : 33554432 < length bytes → HasImageFault turns bytes (refusal 0 0)
  Faulty : length bytes ≤ 33554432 → (fault : ImageFault) → IsRefused (Some turns) bytes fault → HasImageFault turns bytes fault
