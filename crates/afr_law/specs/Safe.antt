-- What a good copy has.
use Rattle.std.specs.Prelude.{◌≡◌, ℕ, zero, suc, ◌<◌, ◌≤◌, Bool, true, ◌==◌, nat_lt, if◌then◌else◌, Option, None, Some}
use Rattle.afr_base.specs.Majority.{IsMajority}
use Rattle.afr_model_moves.specs.Cells.{Cell, object_of, kind_of}
use Rattle.afr_model_moves.specs.Past.{Beginning, Log, holds, changes, leaves_of, pending, value}
use Rattle.afr_base.specs.declared.ids.Kind.{Kind}
use Rattle.afr_object.specs.declared.change.Change.{Change}
use Rattle.afr_lines.specs.declared.line.Line.{Line}
use Rattle.afr_lines.specs.declared.line.Line.TheVariants.{End}
use Rattle.afr_model_moves.specs.Lines.{is_ok, begin_by}

-- the reply of the first End line of a after position q
abbrev pub end_of : ℕ → Option Line → Option Bool
end_of a (Some (End x reply)) = if x.0 == a then Some (is_ok reply) else None
end_of a _ = None

-- the first of two ends
abbrev pub or_else : Option Bool → Option Bool → Option Bool
or_else None b = b
or_else (Some ok) b = Some ok

-- whether the work of a that was going on at q ended with ok before t, if it ended
unfoldable pub outcome : Log → ℕ → ℕ → ℕ → Option Bool
outcome log zero a q = None
outcome log (suc t) a q = or_else (outcome log t a q) (if nat_lt q t then end_of a (log t) else None)

-- the attempt that began at q was acknowledged before t: the first end of its actor after it says ok
pub record Acknowledged (log : Log) (t q : ℕ) : Type 0 where
  pub a : ℕ
  pub change : Change
  pub is : log q ≡ Some (begin_by a change)
  pub past : q < t
  pub ok : outcome log t a q ≡ Some true

-- what stands in the cell is no older than what was acknowledged
pub data Current (files : Beginning) (log : Log) (t b : ℕ) (cell : Cell) : Type 0 where
  Opening : value files log t b cell ≡ files.cells cell → ((k : ℕ) → Acknowledged log t k → changes (log k) cell ≡ true → ⊥) → Current files log t b cell
  Left : (q : ℕ) → q < t → changes (log q) cell ≡ true → value files log t b cell ≡ leaves_of (log q) cell
      → ((k : ℕ) → Acknowledged log t k → changes (log k) cell ≡ true → k ≤ q) → Current files log t b cell

-- b is a good copy among these bricks
pub record IsGoodCopy (n : ℕ) (keeps : ℕ → Kind → Bool) (files : Beginning) (log : Log) (t : ℕ) (among : ℕ → Bool) (g : ℕ) (kind : Kind) (b : ℕ) : Type 0 where
  pub below : b < n
  pub member : among b ≡ true
  pub holder : holds files log t b g ≡ true
  pub copy : keeps b kind ≡ true
  pub unaccused : (x : ℕ) → x < n → among x ≡ true → pending files log t x b g kind ≡ 0

-- whatever majority is asked, each copy that it shows good is current in each cell
abbrev pub Safe : ℕ → (ℕ → Kind → Bool) → Beginning → Log → ℕ → Type 0
Safe n keeps files log t =
    (among : ℕ → Bool) → IsMajority n among → (b : ℕ) (cell : Cell) → IsGoodCopy n keeps files log t among (object_of cell) (kind_of cell) b → Current files log t b cell
