-- No acknowledged change is lost, of logs by their positions.
use Rattle.std.specs.Prelude.{◌≡◌, ℕ, ◌<◌, ◌≤◌, Bool, true, List, slice_get, Option, Some}
use Rattle.afr_base.specs.Majority.{IsMajority}
use Rattle.afr_lines.specs.declared.fault.Fault.{Fault}
use Rattle.afr_lines.specs.declared.answer.Told.TheVariants.{Done}
use Rattle.afr_lines.specs.declared.line.Line.{Line}
use Rattle.afr_lines.specs.declared.request.Request.TheVariants.{Apply}
use Rattle.afr_model_moves.specs.Cells.{Cell, kind_of}
use Rattle.afr_model_moves.specs.Lines.{ask_by}
use Rattle.afr_model_moves.specs.Past.{Beginning, Log, changes, leaves_of, value}
use Rattle.afr_law.specs.Law.{HonestLog, LawfulLog}
use Rattle.afr_law.specs.Safe.{Acknowledged}

-- before position t brick b told that it did the operation of attempt q
pub record DoneAt (log : Log) (t b q : ℕ) : Type 0 where
  pub m : ℕ
  pub a : ℕ
  pub is : log m ≡ Some (ask_by a b (Apply q) Done true)
  pub past : m < t

-- what stands in the cell was left by attempt q or a later one
pub record SinceAt (files : Beginning) (log : Log) (t b : ℕ) (cell : Cell) (q : ℕ) : Type 0 where
  pub from : ℕ
  pub past : from < t
  pub touch : changes (log from) cell ≡ true
  pub left : value files log t b cell ≡ leaves_of (log from) cell
  pub late : q ≤ from

-- a majority did the operation of attempt q, and wherever it was done each cell of it has what it or a later attempt left
pub record KeptAt (n : ℕ) (files : Beginning) (log : Log) (t q : ℕ) : Type 0 where
  pub among : ℕ → Bool
  pub majority : IsMajority n among
  pub done : (b : ℕ) → b < n → among b ≡ true → DoneAt log t b q
  pub since : (b : ℕ) (cell : Cell) → DoneAt log t b q → files.keeps b (kind_of cell) ≡ true → changes (log q) cell ≡ true → SinceAt files log t b cell q

-- at each position of an honest and lawful log, each acknowledged attempt is kept
abbrev pub AcknowledgedIsDurable : Type 0
AcknowledgedIsDurable =
    (n : ℕ) (files : Beginning) (faults : ℕ → ℕ → Option Fault) (lines : List Line)
    → HonestLog files faults lines → LawfulLog n files.keeps lines
    → (t q : ℕ) → Acknowledged (slice_get lines) t q → KeptAt n files (slice_get lines) t q
