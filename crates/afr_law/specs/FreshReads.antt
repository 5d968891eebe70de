-- What a copy shows to a reader whom the looks at a majority let read it.
use Rattle.std.specs.Prelude.{◌≡◌, ℕ, ◌<◌, ◌≤◌, Bool, true, List, slice_index, slice_get, Option, Some}
use Rattle.afr_base.specs.Majority.{IsMajority}
use Rattle.afr_base.specs.Marks.{marks_of}
use Rattle.afr_base.specs.declared.ids.Kind.{Kind}
use Rattle.afr_lines.specs.declared.fault.Fault.{Fault}
use Rattle.afr_lines.specs.declared.answer.Told.{Told}
use Rattle.afr_lines.specs.declared.answer.Told.TheVariants.{Seen, NoObject}
use Rattle.afr_lines.specs.declared.line.Line.{Line}
use Rattle.afr_model_moves.specs.Cells.{Cell, object_of, kind_of}
use Rattle.afr_law.specs.Law.{HonestLog, LawfulLog}
use Rattle.afr_model_moves.specs.Lines.{ask_by, look_at}
use Rattle.afr_model_moves.specs.Past.{Beginning, Log, changes, leaves_of, value}
use Rattle.afr_law.specs.Safe.{Acknowledged}

-- the answer to a look shows nothing that brick b missed: a view with no number against it, or that there is no such object
abbrev pub ShowsNoMiss : Kind → ℕ → Told → Type 0
ShowsNoMiss kind b (Seen view) = slice_index (marks_of kind view.marks).pending b ≡ 0
ShowsNoMiss kind b NoObject = Unit {0}
ShowsNoMiss kind b told = ⊥

-- actor a looked at brick x, from position `since` on and before position r, and saw nothing against brick b
pub record ClearLook (log : Log) (a since r x g : ℕ) (kind : Kind) (b : ℕ) : Type 0 where
  pub l : ℕ
  pub told : Told
  pub took : Bool
  pub is : log l ≡ Some (ask_by a x (look_at g) told took)
  pub after : since ≤ l
  pub past : l < r
  pub clear : ShowsNoMiss kind b told

-- such looks at a majority of the bricks let actor a read the copy of brick b
pub record LooksLet (n : ℕ) (keeps : ℕ → Kind → Bool) (log : Log) (a since r g : ℕ) (kind : Kind) (b : ℕ) : Type 0 where
  pub below : b < n
  pub copy : keeps b kind ≡ true
  pub among : ℕ → Bool
  pub majority : IsMajority n among
  pub looks : (x : ℕ) → x < n → among x ≡ true → ClearLook log a since r x g kind b

-- what stands in the cell at position r is no older than what was acknowledged before position `since`
pub data NoOlder (files : Beginning) (log : Log) (r since b : ℕ) (cell : Cell) : Type 0 where
  Opening : value files log r b cell ≡ files.cells cell → ((k : ℕ) → Acknowledged log since k → changes (log k) cell ≡ true → ⊥) → NoOlder files log r since b cell
  Left : (q : ℕ) → q < r → changes (log q) cell ≡ true → value files log r b cell ≡ leaves_of (log q) cell
      → ((k : ℕ) → Acknowledged log since k → changes (log k) cell ≡ true → k ≤ q) → NoOlder files log r since b cell

-- whatever an actor reads where its looks let it, at any position of an honest and lawful log, is no older than what was acknowledged before the looks
abbrev pub ReadsAreFresh : Type 0
ReadsAreFresh =
    (n : ℕ) (files : Beginning) (faults : ℕ → ℕ → Option Fault) (lines : List Line)
    → HonestLog files faults lines → LawfulLog n files.keeps lines
    → (a since r b : ℕ) (cell : Cell) → LooksLet n files.keeps (slice_get lines) a since r (object_of cell) (kind_of cell) b → NoOlder files (slice_get lines) r since b cell
