-- Nothing diverges unrecorded.
use Rattle.std.specs.Prelude.{◌≡◌, ℕ, ◌<◌, true}
use Rattle.afr_model_moves.specs.Cells.{Cell, object_of, kind_of}
use Rattle.afr_law.specs.Dirty.{dirty}
use Rattle.afr_model_moves.specs.Past.{Beginning, Log, pending, value}
use Rattle.afr_base.specs.declared.ids.Kind.{Kind}

-- no brick holds anything against the object and kind
pub record Unrecorded (n : ℕ) (files : Beginning) (log : Log) (t g : ℕ) (kind : Kind) : Type 0 where
  pub clean : (x : ℕ) → x < n → dirty files log t x g kind ≡ 0
  pub unaccused : (x c : ℕ) → x < n → c < n → pending files log t x c g kind ≡ 0

-- all copies have the cell alike; the arbiter keeps no bytes
abbrev pub Alike : ℕ → Beginning → Log → ℕ → Type 0
Alike n files log t =
    (cell : Cell) → Unrecorded n files log t (object_of cell) (kind_of cell) → (b c : ℕ) → b < n → c < n → files.keeps b (kind_of cell) ≡ true → files.keeps c (kind_of cell) ≡ true
    → value files log t b cell ≡ value files log t c cell
