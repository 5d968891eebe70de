-- What a check reads, and what it says.
use Rattle.std.specs.Prelude.{◌≡◌, ◌<◌, ◌≤◌, ◌⊎◌, ℕ, List, ◌++◌, Option, Some, String, codes, decimal, drop, length, take}
use Rattle.std.specs.Global.{Global}
use Rattle.std.specs.Io.KnownBytes.{Appends}
use Rattle.afr_text.specs.Causes.{Rose}
use Rattle.afr_text.specs.Parts.{AppendsFront, CameMore}
use Rattle.afr_plan.specs.declared.plan.Plan.{Plan}
use Rattle.afr_plan.specs.declared.plan.PlanFault.{PlanFault}
use Rattle.afr_plan.specs.Judging.{first_fault}
use Rattle.afr_plan.specs.Spells.{Spells}
use Rattle.afr_trace_check.specs.Right.{IsFound, IsPastLimit}
use Rattle.afr_trace_check.specs.declared.finding.Finding.{Finding}
use Rattle.afr_trace_check.specs.declared.finding.Finding.TheVariants as finding
use Rattle.afr_trace_check.specs.declared.finding.Rule.{Rule}
use Rattle.afr_trace_check.specs.declared.finding.Rule.TheVariants as rule
use Rattle.afr_words.specs.Forms.{AskCheck}
use Rattle.afr_cli.specs.Parts.{IsPlanPart}
use Rattle.afr_cli.specs.Reading.{WasRead}

-- ---- what is read
-- the plan part of the bytes spells the plan, and the rest is the trace
pub record HasTrace (bytes : List ℕ) (plan : Plan) (trace : List ℕ) : Type 0 where
  pub len : ℕ
  pub part : IsPlanPart bytes len
  pub spells : Spells (take len bytes) plan
  pub rest : trace ≡ drop len bytes

-- the source was read to its end, and gave at most 16 MiB, which are the plan and the trace
pub record IsGivenTrace (left now : Option (List ℕ)) (plan : Plan) (trace : List ℕ) : Type 0 where
  pub bytes : List ℕ
  pub read : WasRead 16777216 left now bytes
  pub parts : HasTrace bytes plan trace

-- ---- what is said of it
abbrev pub rule_name : Rule → List ℕ
rule_name rule.Text = codes "text"
rule_name rule.Follows = codes "follows"
rule_name rule.Honest = codes "honest"
rule_name rule.Blamed = codes "blamed"
rule_name rule.Safe = codes "safe"

-- the line that tells what was found
abbrev pub finding_line : Finding → List ℕ
finding_line (finding.Yes count) = codes "check yes: " ++ decimal count ++ codes " lines\n"
finding_line (finding.No line broken) = codes "check no: line " ++ decimal line ++ codes ", " ++ rule_name broken ++ codes "\n"

-- its status
abbrev pub finding_status : Finding → ℕ
finding_status (finding.Yes count) = 0
finding_status (finding.No line broken) = 11

-- the line that tells that a check is past its limit
abbrev pub limit_line : List ℕ
limit_line = codes "check limit\n"

-- what is said of a trace, with its status: that it is past the limit, or what is found of it
pub data IsSaidOf (plan : Plan) (trace : List ℕ) : ℕ → List ℕ → Type 0 where
  PastLimit : IsPastLimit plan trace → IsSaidOf plan trace 12 limit_line
  Finds : (IsPastLimit plan trace → ⊥) → (found : Finding) → IsFound plan trace found → IsSaidOf plan trace (finding_status found) (finding_line found)

-- the sink took what is said of the trace with this status, to its end
pub record IsToldOf (plan : Plan) (trace : List ℕ) (status : ℕ) (taken taken' : Option (List ℕ)) : Type 0 where
  pub text : List ℕ
  pub said : IsSaidOf plan trace status text
  pub line : Appends taken taken' text

-- the sink took a front of it
pub record StopsTelling (plan : Plan) (trace : List ℕ) (taken taken' : Option (List ℕ)) : Type 0 where
  pub status : ℕ
  pub text : List ℕ
  pub said : IsSaidOf plan trace status text
  pub front : AppendsFront taken taken' text

-- the source's trace was checked, and the sink took what is said of it with this status, to its end
pub record IsChecked (left left' taken taken' : Option (List ℕ)) (status : ℕ) : Type 0 where
  pub plan : Plan
  pub trace : List ℕ
  pub given : IsGivenTrace left left' plan trace
  pub told : IsToldOf plan trace status taken taken'

-- ---- a plan part that is refused
-- the source was read to its end, and its plan part has this first fault; so it spells no plan
pub record IsFaultyPart (left now : Option (List ℕ)) (fault : PlanFault) : Type 0 where
  pub bytes : List ℕ
  pub len : ℕ
  pub read : WasRead 16777216 left now bytes
  pub part : IsPlanPart bytes len
  pub first : first_fault (take len bytes) ≡ Some fault
  pub none : (plan : Plan) → Spells (take len bytes) plan → ⊥

-- the plan part has this first fault; or the source is longer than 16 MiB, at line 0 with code 0
abbrev pub IsPartRefused : Option (List ℕ) → Option (List ℕ) → PlanFault → Type 0
IsPartRefused left now fault = IsFaultyPart left now fault ⊎ ((fault ≡ record { line = 0; code = 0 }) × CameMore left now 16777216)

-- ---- a source that tells its bytes
-- the words ask for a check, the source tells these bytes, and no read of it failed
pub record IsGivenCheck (words : List (String Global)) (left : Option (List ℕ)) (faults faults' : ℕ) (bytes : List ℕ) : Type 0 where
  pub asked : AskCheck words
  pub told : left ≡ Some bytes
  pub sound : Rose faults faults' → ⊥

-- bytes that aren't checked: more than 16 MiB, at line 0 with code 0; or no more, and the plan part has this first fault
pub data HasPartFault (bytes : List ℕ) : PlanFault → Type 0 where
  Long : 16777216 < length bytes → HasPartFault bytes (record { line = 0; code = 0 })
  Faulty : length bytes ≤ 16777216 → (len : ℕ) → IsPlanPart bytes len → (fault : PlanFault) → first_fault (take len bytes) ≡ Some fault → HasPartFault bytes fault
