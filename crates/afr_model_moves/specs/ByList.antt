-- The discipline in full over a list of lines, the newest first: each line is judged by those before it.
use Rattle.std.specs.Prelude.{ℕ, Bool, length, Some, List as Seq}
use Rattle.afr_base.specs.declared.ids.Kind.{Kind}
use Rattle.afr_lines.specs.Log.{EachLine}
use Rattle.afr_lines.specs.declared.line.Line.{Line}
use Rattle.afr_model_moves.specs.Discipline.{BeginsKnown, MayExactly, exact, in_force}
use Rattle.afr_model_moves.specs.Past.{Beginning, Log, opens, place}
use Rattle.afr_model_moves.specs.Positions.{by_position}
use Rattle.afr_model_moves.specs.Ranges.{InRange}

-- the line at t, after these lines, is a move that they allow its actor
abbrev pub MayExactlyNext : ℕ → (ℕ → Kind → Bool) → Log → ℕ → Line → Type 0
MayExactlyNext n keeps past t line = MayExactly n keeps (λ a. in_force (opens (place past t a) (Some line)) (exact n keeps past t a)) (Some line)

-- a line keeps the discipline after the lines before it
abbrev pub IsExactLine : ℕ → Beginning → Line → Seq Line → Type 0
IsExactLine n files line older = InRange line × MayExactlyNext n files.keeps (by_position older) (length older) line × BeginsKnown files (by_position older) (length older) (Some line)

-- each line of the log keeps the discipline
abbrev pub IsExactlyLawful : ℕ → Beginning → Seq Line → Type 0
IsExactlyLawful n files log = EachLine (IsExactLine n files) log
