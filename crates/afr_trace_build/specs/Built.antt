-- The log that a trace builds, line by line.
use Rattle.std.specs.Prelude.{ℕ, Bool, true, false, List, [], ◌∷◌, reverse}
use Rattle.afr_lines.specs.declared.line.Line.{Line}
use Rattle.afr_plan.specs.declared.plan.Plan.{Plan}
use Rattle.afr_trace_build.specs.Filling.{fill}
use Rattle.afr_trace_build.specs.declared.filling.Filled.{Filled}
use Rattle.afr_trace_build.specs.declared.filling.Filled.TheVariants as filled
use Rattle.afr_trace_read.specs.Trace.{trace_told}
use Rattle.afr_trace_read.specs.declared.kinds.TraceLine.{TraceLine}

-- how a trace ends: it is whole; its next line is the text of no line; or that line begins what the actor's command doesn't name
pub data End : Type 0 where
  Whole : End
  NoLine : End
  OtherWords : End

-- the lines that were built, the newest first, and how the trace ends
pub record Built : Type 0 where
  pub log : List Line
  pub end : End

-- how it ends after its last line that was read
abbrev pub end_of : Bool → End
end_of true = NoLine
end_of false = Whole

-- a line more, or the end
abbrev pub and_on : List Line → Filled → (List Line → Built) → Built
and_on older (filled.Stands l) more = more (l ∷ older)
and_on older filled.NoLine more = record { log = older; end = NoLine }
and_on older filled.OtherWords more = record { log = older; end = OtherWords }

-- what these lines build on others
abbrev pub built_on : Plan → Bool → List (TraceLine × List ℕ) → List Line → Built
built_on p broken [] older = record { log = older; end = end_of broken }
built_on p broken (x ∷ xs) older = and_on older (fill p older x) (λ log. built_on p broken xs log)

-- what a trace builds
abbrev pub built : Plan → List ℕ → Built
built p bytes = built_on p (trace_told p bytes).broken (reverse (trace_told p bytes).lines) []
