-- The lines of a trace, each at its position.
use Rattle.std.specs.Prelude.{ℕ, Bool, true, false, List, [], ◌∷◌, Option, Some, None, length}
use Rattle.afr_plan.specs.declared.plan.Plan.{Plan}
use Rattle.afr_plan.specs.TextLines.{text_of}
use Rattle.afr_trace_read.specs.Reading.{line_told}
use Rattle.afr_trace_read.specs.declared.kinds.TraceLine.{TraceLine}

-- the lines, each with what its command gave, up to the first that is the text of no line, the newest first, and whether there is such a one
pub record Told : Type 0 where
  pub lines : List (TraceLine × List ℕ)
  pub broken : Bool

-- what stands after the last line feed must be nothing
abbrev pub is_left : List ℕ → Bool
is_left [] = false
is_left (b ∷ bs) = true

-- a line more, or the end
abbrev pub onward : List (TraceLine × List ℕ) → Option (TraceLine × List ℕ) → (TraceLine × List ℕ → Told) → Told
onward before None f = record { lines = before; broken = true }
onward before (Some s) f = f s

-- what the lines after some lines say
abbrev pub told_on : Plan → List ℕ → List (List ℕ) → List (TraceLine × List ℕ) → Told
told_on p tail [] before = record { lines = before; broken = is_left tail }
told_on p tail (line ∷ lines) before = onward before (line_told p (length before) line) (λ s. told_on p tail lines (s ∷ before))

-- how many line feeds there are
abbrev pub line_feeds : List ℕ → ℕ
line_feeds bytes = length (text_of bytes).lines

-- what a trace says
unfoldable pub trace_told : Plan → List ℕ → Told
trace_told p bytes = told_on p (text_of bytes).tail (text_of bytes).lines []
