-- What each status of the program says.
use Rattle.std.specs.Prelude.{◌≡◌, ◌<◌, ◌≤◌, ◌⊎◌, ℕ, true, false, List, ◌++◌, ◌==◌, if◌then◌else◌, Option, Some, String, codes, decimal, length}
use Rattle.std.specs.Global.{Global}
use Rattle.std.specs.Io.KnownBytes.{Appends}
use Rattle.afr_law_bound.specs.Ends.Left.{bound_of}
use Rattle.afr_text.specs.Causes.{Rose}
use Rattle.afr_text.specs.Parts.{AppendsFront, CameMore}
use Rattle.afr_lines.specs.declared.line.Line.{Line}
use Rattle.afr_plan.specs.declared.plan.Plan.{Plan}
use Rattle.afr_plan.specs.declared.plan.PlanFault.{PlanFault}
use Rattle.afr_image.specs.declared.image.ImageFault.{ImageFault}
use Rattle.afr_plan.specs.Judging.{first_fault}
use Rattle.afr_plan.specs.Spells.{Spells}
use Rattle.afr_volume.specs.State.{State, no_volume}
use Rattle.afr_gen.specs.Generated.{generated}
use Rattle.afr_model.specs.Actors.{IsActor, is_done}
use Rattle.afr_model.specs.Complete.{IsComplete}
use Rattle.afr_words.specs.Forms.{AreForm, AskCheck, AskFor}
use Rattle.afr_words.specs.declared.form.Form.{Form}
use Rattle.afr_words.specs.declared.form.Form.TheVariants as kind
use Rattle.afr_cli.specs.Checking.{IsGivenTrace, IsPartRefused, IsSaidOf}
use Rattle.afr_cli.specs.Forms.{reads, text_of}
use Rattle.afr_cli.specs.Reading.{WasRead}
use Rattle.afr_cli.specs.Replay.{Differs, IsImagePlan, IsImageRefused, difference_line, image_refusal_line}

-- the line that tells how the program is called
abbrev pub usage_line : List ℕ
usage_line = codes "usage: afr run | trace | info | gen N | live | crawl | record | replay T | check\n"

-- the name of a refused plan's code
abbrev pub name_of : ℕ → List ℕ
name_of code =
    if code == 0 then codes "long"
    else if code == 1 then codes "byte"
    else if code == 2 then codes "unended"
    else if code == 3 then codes "head"
    else if code == 4 then codes "word"
    else if code == 5 then codes "form"
    else if code == 6 then codes "range"
    else if code == 7 then codes "order"
    else if code == 8 then codes "total"
    else codes "end"

-- the line that refuses a plan
abbrev pub refusal_line : PlanFault → List ℕ
refusal_line fault = codes "plan refused: line " ++ decimal fault.line ++ codes ", code " ++ decimal fault.code ++ codes " " ++ name_of fault.code ++ codes "\n"

-- what the source gave, to its end and at most 16 MiB, spells the plan
pub record IsSpelled (left now : Option (List ℕ)) (plan : Plan) : Type 0 where
  pub bytes : List ℕ
  pub read : WasRead 16777216 left now bytes
  pub spells : Spells bytes plan

-- the plan of the form: the generated one of its number, that of the image that the source gave, with these turns, or the one
-- that is spelled by what the source gave, to its end
abbrev pub IsPlanOf : Form → Option (List ℕ) → Option (List ℕ) → Plan → Type 0
IsPlanOf (kind.Gen n) left now plan = plan ≡ generated n
IsPlanOf (kind.Replay turns) left now plan = IsImagePlan turns left now plan
IsPlanOf form left now plan = IsSpelled left now plan

-- the words ask for a form, and this is its plan
pub record IsPlanOfWords (words : List (String Global)) (left now : Option (List ℕ)) (plan : Plan) : Type 0 where
  pub form : Form
  pub asked : AskFor words form
  pub planned : IsPlanOf form left now plan

-- the words ask for a form that reads its plan from the source
pub record AreReading (words : List (String Global)) : Type 0 where
  pub form : Form
  pub asked : AskFor words form
  pub reading : reads form ≡ true

-- the words ask for a form, its plan was run, and the sink took the form's text, to its end
pub record Reports (words : List (String Global)) (left left' taken taken' : Option (List ℕ)) (now : State) : Type 0 where
  pub form : Form
  pub asked : AskFor words form
  pub planned : IsPlanOf form left left' now.plan
  pub text : Appends taken taken' (text_of form now.plan now.log)

-- each actor was killed or has ended all its works
abbrev pub AreDone : Plan → List Line → Type 0
AreDone p log = (a : ℕ) → IsActor p a → is_done p a log ≡ true

-- a living actor has work left
pub record IsWorkLeft (p : Plan) (log : List Line) : Type 0 where
  pub actor : ℕ
  pub planned : IsActor p actor
  pub left : is_done p actor log ≡ false

-- the log has as many lines as the plan gives room for
abbrev pub IsFull : Plan → List Line → Type 0
IsFull p log = length log ≡ p.turns

-- the plan gives fewer turns than the bound on its run in the stated order
abbrev pub IsShort : Plan → Type 0
IsShort p = p.turns < bound_of p

-- a run is over: all work is done, or the log is full while a living actor has work left
abbrev pub IsOver : Plan → List Line → Type 0
IsOver p log = AreDone p log ⊎ (IsFull p log × IsWorkLeft p log)

-- the source was read to its end, and has this first fault; so it spells no plan
pub record IsFaulty (left now : Option (List ℕ)) (fault : PlanFault) : Type 0 where
  pub bytes : List ℕ
  pub read : WasRead 16777216 left now bytes
  pub first : first_fault bytes ≡ Some fault
  pub none : (plan : Plan) → Spells bytes plan → ⊥

-- the source has this first fault; or it is longer than 16 MiB, at line 0 with code 0
abbrev pub IsRefused : Option (List ℕ) → Option (List ℕ) → PlanFault → Type 0
IsRefused left now fault = IsFaulty left now fault ⊎ ((fault ≡ record { line = 0; code = 0 }) × CameMore left now 16777216)

-- the plan is refused, and the sink took the line that says so, to its end
pub record IsRefusal (left left' taken taken' : Option (List ℕ)) : Type 0 where
  pub fault : PlanFault
  pub cause : IsRefused left left' fault
  pub line : Appends taken taken' (refusal_line fault)

-- a text of the program, and why it was to be written: the usage, a refusal, the form's text of a run that is over, where a
-- replay differs from its image, or what is said of a trace
pub data IsText {S : Type 0} (words : List (String Global)) (left : S → Option (List ℕ)) (source source' : S) (now : State) : List ℕ → Type 0 where
  Usage : (AreForm words → ⊥) → (AskCheck words → ⊥) → source' ≡ source → now ≡ no_volume
      → IsText words left source source' now usage_line
  Refusal : AreReading words → (fault : PlanFault) → IsRefused (left source) (left source') fault → now ≡ no_volume
      → IsText words left source source' now (refusal_line fault)
  Report : (form : Form) → AskFor words form → IsPlanOf form (left source) (left source') now.plan → IsComplete now.plan now.log → IsOver now.plan now.log
      → IsText words left source source' now (text_of form now.plan now.log)
  ImageRefusal : (turns : ℕ) → AskFor words (kind.Replay turns) → (fault : ImageFault) → IsImageRefused turns (left source) (left source') fault → now ≡ no_volume
      → IsText words left source source' now (image_refusal_line fault)
  Difference : (turns : ℕ) → AskFor words (kind.Replay turns) → (line : ℕ) → Differs turns (left source) (left source') now line
      → IsText words left source source' now (difference_line line)
  PartRefusal : AskCheck words → (fault : PlanFault) → IsPartRefused (left source) (left source') fault → now ≡ no_volume
      → IsText words left source source' now (refusal_line fault)
  Checked : AskCheck words → (plan : Plan) (trace : List ℕ) → IsGivenTrace (left source) (left source') plan trace
      → (status : ℕ) (text : List ℕ) → IsSaidOf plan trace status text → now ≡ no_volume → IsText words left source source' now text

-- the sink took a front of the text that was to be written
pub record StopsWriting {S : Type 0} (words : List (String Global)) (left : S → Option (List ℕ)) (source source' : S) (taken taken' : Option (List ℕ)) (now : State) : Type 0 where
  pub text : List ℕ
  pub known : IsText words left source source' now text
  pub front : AppendsFront taken taken' text

-- the words ask for a form that reads, the source tells these bytes, and no read of it failed
pub record AreGiven (words : List (String Global)) (left : Option (List ℕ)) (faults faults' : ℕ) (bytes : List ℕ) : Type 0 where
  pub asked : AreReading words
  pub told : left ≡ Some bytes
  pub sound : Rose faults faults' → ⊥

-- bytes that aren't run: more than 16 MiB, at line 0 with code 0; or no more, and they have this first fault
pub data HasFault (bytes : List ℕ) : PlanFault → Type 0 where
  Long : 16777216 < length bytes → HasFault bytes (record { line = 0; code = 0 })
  Faulty : length bytes ≤ 16777216 → (fault : PlanFault) → first_fault bytes ≡ Some fault → HasFault bytes fault
