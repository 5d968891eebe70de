-- The law, of lists of lines: each line by those before it.
use Rattle.std.specs.Prelude.{◌≡◌, ℕ, suc, ◌≤◌, Bool, ◌&&◌, ◌||◌, List, length, take, slice_get, Option, Some}
use Rattle.afr_model_moves.specs.Past.{Beginning, Log, before, is_of, place, opens, started, linked, joined}
use Rattle.afr_model_moves.specs.Honest.{HonestAsk, KnownMake, asked}
use Rattle.afr_lines.specs.declared.fault.Fault.{Fault}
use Rattle.afr_model_moves.specs.Rules.{in_force, register, May}
use Rattle.afr_law.specs.Safe.{Safe}
use Rattle.afr_law.specs.Dirty.{ShowsDirty}
use Rattle.afr_law.specs.Alike.{Alike}
use Rattle.afr_base.specs.declared.ids.Kind.{Kind}
use Rattle.afr_lines.specs.declared.line.Line.{Line}
use Rattle.afr_lines.specs.declared.line.Line.TheVariants.{Ask, Begin}
use Rattle.afr_model_moves.specs.Lines.{ask_by}

-- the line opens a session of a with b
abbrev pub opening_by : Log → ℕ → ℕ → ℕ → Option Line → Bool
opening_by past t a b line = is_of a line && opens (place past t a) line && started past t b && linked past t a b

-- the line at t, after these lines, was told what the bricks tell
abbrev pub HonestNext : Beginning → (ℕ → ℕ → Option Fault) → Log → ℕ → Line → Type 0
HonestNext files faults past t (Ask a b request told took) =
    HonestAsk files past t a.0 b.0 request told took (joined past t a.0 b.0 || opening_by past t a.0 b.0 (Some (ask_by a.0 b.0 request told took))) (faults b.0 (suc (asked past t b.0)))
HonestNext files faults past t (Begin a change) = KnownMake files past t change
HonestNext _ _ _ _ _ = Unit {0}

-- the line at t, after these lines, keeps the discipline
abbrev pub MayNext : ℕ → (ℕ → Kind → Bool) → Log → ℕ → Line → Type 0
MayNext n keeps past t line =
    May n keeps past t (λ a. opens (place past t a) (Some line)) (λ a. in_force (opens (place past t a) (Some line)) (register n past t a)) (Some line)

-- each line of the list is honest after those before it
abbrev pub HonestLog : Beginning → (ℕ → ℕ → Option Fault) → List Line → Type 0
HonestLog files faults lines = (t : ℕ) (line : Line) → slice_get lines t ≡ Some line → HonestNext files faults (before (slice_get lines) t) t line

-- each line of the list is a move that those before it allow
abbrev pub LawfulLog : ℕ → (ℕ → Kind → Bool) → List Line → Type 0
LawfulLog n keeps lines = (t : ℕ) (line : Line) → slice_get lines t ≡ Some line → MayNext n keeps (before (slice_get lines) t) t line

-- the list is safe at its end
abbrev pub SafeLog : ℕ → (ℕ → Kind → Bool) → Beginning → List Line → Type 0
SafeLog n keeps files lines = Safe n keeps files (slice_get lines) (length lines)

-- every prefix of an honest and lawful log is safe
abbrev pub LawfulIsSafe : Type 0
LawfulIsSafe =
    (n : ℕ) (files : Beginning) (faults : ℕ → ℕ → Option Fault) (lines : List Line)
    → HonestLog files faults lines → LawfulLog n files.keeps lines → (i : ℕ) → i ≤ length lines → SafeLog n files.keeps files (take i lines)

-- each look shows the dirty numbers that the lines before it leave
abbrev pub DirtyShownLog : Beginning → List Line → Type 0
DirtyShownLog files lines = (t : ℕ) (line : Line) → slice_get lines t ≡ Some line → ShowsDirty files (before (slice_get lines) t) t (Some line)

-- at the end of the list nothing diverges unrecorded
abbrev pub AlikeLog : ℕ → Beginning → List Line → Type 0
AlikeLog n files lines = Alike n files (slice_get lines) (length lines)

-- in every prefix of an honest and lawful log, what no brick holds a number against is alike on all copies
abbrev pub NothingDivergesUnrecorded : Type 0
NothingDivergesUnrecorded =
    (n : ℕ) (files : Beginning) (faults : ℕ → ℕ → Option Fault) (lines : List Line)
    → HonestLog files faults lines → DirtyShownLog files lines → LawfulLog n files.keeps lines → (i : ℕ) → i ≤ length lines → AlikeLog n files (take i lines)
