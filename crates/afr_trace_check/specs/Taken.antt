-- The lines of a trace that were taken, and where it stops.
use Rattle.std.specs.Prelude.{◌≡◌, ◌∷◌, List, Option, Some, None, reverse}
use Rattle.afr_lines.specs.Log.{EveryPrefix}
use Rattle.afr_lines.specs.declared.line.Line.{Line}
use Rattle.afr_plan.specs.declared.plan.Plan.{Plan}
use Rattle.afr_trace_build.specs.declared.filling.Filled.{Filled}
use Rattle.afr_trace_build.specs.declared.filling.Filled.TheVariants as filled
use Rattle.afr_trace_check.specs.Grounds.{IsGrounded}
use Rattle.afr_trace_check.specs.Honest.{IsHonestBySums}
use Rattle.afr_trace_check.specs.Right.{BreaksFirst, IsRight}
use Rattle.afr_trace_check.specs.declared.finding.Rule.{Rule}
use Rattle.afr_trace_check.specs.declared.finding.Rule.TheVariants as rule
use Rattle.afr_trace_check.specs.declared.checking.Taken.{Taken}
use Rattle.afr_trace_follow.specs.Lists.{AreLists}
use Rattle.afr_trace_follow.specs.Planned.{IsPlanned}
use Rattle.afr_trace_tally.specs.Tally.{IsTally}

-- the log of the lines that were taken, the newest first
abbrev pub log_of : Taken → List Line
log_of t = reverse t.log.items

-- what is kept beside them is what they have made
pub record IsTaken (p : Plan) (t : Taken) : Type 0 where
  pub tally : IsTally p (log_of t) t.tally
  pub lists : AreLists p (log_of t) t.lists

-- a line keeps the rules that speak of it alone
pub record KeepsRules (p : Plan) (line : Line) (older : List Line) : Type 0 where
  pub follows : IsPlanned p line older
  pub honest : IsHonestBySums p line older
  pub blamed : IsGrounded p line older

-- one of these rules is the first that it breaks, where the log before it is right
abbrev pub BreaksOne : Plan → Line → List Line → Rule → Type 0
BreaksOne p line older broken = EveryPrefix (IsRight p) older → BreaksFirst p (line ∷ older) broken

-- what comes of a line: it is taken, or a rule is the first that it breaks
abbrev pub IsOutcome : Plan → Line → List Line → List Line → Option Rule → Type 0
IsOutcome p line older log None = (log ≡ line ∷ older) × EveryPrefix (IsRight p) log
IsOutcome p line older log (Some broken) = BreaksFirst p (line ∷ older) broken

-- what comes of a text, by what it stands for
abbrev pub IsOutcomeOf : Plan → List Line → List Line → Filled → Option Rule → Type 0
IsOutcomeOf p older log (filled.Stands line) outcome = IsOutcome p line older log outcome
IsOutcomeOf p older log filled.NoLine outcome = outcome ≡ Some rule.Text
IsOutcomeOf p older log filled.OtherWords outcome = outcome ≡ Some rule.Follows
