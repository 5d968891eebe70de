-- What the check of a trace says, by the log that the trace builds.
use Rattle.std.specs.Prelude.{◌≡◌, ◌⊎◌, ◌<◌, ℕ, List, ◌∷◌, ◌++◌, true, length}
use Rattle.afr_lines.specs.Log.{EveryPrefix}
use Rattle.afr_lines.specs.declared.line.Line.{Line}
use Rattle.afr_model.specs.Safe.{IsSafe}
use Rattle.afr_plan.specs.declared.plan.Plan.{Plan}
use Rattle.afr_trace_build.specs.Built.{Built, End, NoLine, OtherWords, Whole, built}
use Rattle.afr_trace_check.specs.Grounds.{AreGrounded}
use Rattle.afr_trace_check.specs.Honest.{AreHonestBySums}
use Rattle.afr_trace_check.specs.declared.finding.Finding.{Finding}
use Rattle.afr_trace_check.specs.declared.finding.Finding.TheVariants as finding
use Rattle.afr_trace_check.specs.declared.finding.Rule.{Rule}
use Rattle.afr_trace_check.specs.declared.finding.Rule.TheVariants as rule
use Rattle.afr_trace_follow.specs.Planned.{FollowsPlan}
use Rattle.afr_trace_read.specs.Trace.{line_feeds}
use Rattle.afr_trace_tally.specs.Limits.{is_past_limit}

-- the check of a trace is past its limit: the trace has too many lines, or its plan files that are too long
abbrev pub IsPastLimit : Plan → List ℕ → Type 0
IsPastLimit p text = (2000 < line_feeds text) ⊎ (is_past_limit p ≡ true)

-- a log keeps every rule
pub record IsRight (p : Plan) (log : List Line) : Type 0 where
  pub follows : FollowsPlan p log
  pub honest : AreHonestBySums p log
  pub blamed : AreGrounded p log
  pub safe : IsSafe p log

-- the first rule that a log breaks; that a text stands for a line is no rule of logs
abbrev pub BreaksFirst : Plan → List Line → Rule → Type 0
BreaksFirst p log rule.Text = ⊥
BreaksFirst p log rule.Follows = FollowsPlan p log → ⊥
BreaksFirst p log rule.Honest = FollowsPlan p log × (AreHonestBySums p log → ⊥)
BreaksFirst p log rule.Blamed = FollowsPlan p log × AreHonestBySums p log × (AreGrounded p log → ⊥)
BreaksFirst p log rule.Safe = FollowsPlan p log × AreHonestBySums p log × AreGrounded p log × (IsSafe p log → ⊥)

-- the rule that the next line of a trace breaks, where it builds no further
abbrev pub EndsBy : End → Rule → Type 0
EndsBy Whole broken = ⊥
EndsBy NoLine broken = broken ≡ rule.Text
EndsBy OtherWords broken = broken ≡ rule.Follows

-- what is found of a log that was built, and of how its trace ends
pub data IsFoundIn (p : Plan) (built : Built) : Finding → Type 0 where
  IsRightAlways : built.end ≡ Whole → EveryPrefix (IsRight p) built.log → IsFoundIn p built (finding.Yes (length built.log))
  Breaks : (newer older : List Line) (line : Line) (broken : Rule) → built.log ≡ newer ++ line ∷ older → EveryPrefix (IsRight p) older → BreaksFirst p (line ∷ older) broken
      → IsFoundIn p built (finding.No (length older) broken)
  Ends : (broken : Rule) → EveryPrefix (IsRight p) built.log → EndsBy built.end broken → IsFoundIn p built (finding.No (length built.log) broken)

-- what is found of a trace
abbrev pub IsFound : Plan → List ℕ → Finding → Type 0
IsFound p text found = IsFoundIn p (built p text) found
