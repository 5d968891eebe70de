-- The dirty numbers: what Pre lines raised and Post and Settle lines took back.
use Rattle.std.specs.Prelude.{◌≡◌, ℕ, zero, suc, ◌+◌, ◌-◌, ◌≤◌, Bool, false, ◌&&◌, ◌==◌, if◌then◌else◌, Option, Some}
use Rattle.afr_model_moves.specs.Past.{Beginning, Log, holds}
use Rattle.afr_model_moves.specs.Honest.{view_marks}
use Rattle.afr_base.specs.declared.ids.Kind.{Kind}
use Rattle.afr_base.specs.Kinds.{same_kind}
use Rattle.afr_lines.specs.declared.request.Request.TheVariants.{Look, Pre, Post, Settle}
use Rattle.afr_lines.specs.declared.answer.Told.TheVariants.{Seen}
use Rattle.afr_lines.specs.declared.line.Line.{Line}
use Rattle.afr_lines.specs.declared.line.Line.TheVariants.{Ask}

-- the line raises what x holds dirty on the object and kind
abbrev pub raising : ℕ → ℕ → Kind → Option Line → Bool
raising x g kind (Some (Ask a y (Pre h k) told took)) = (y.0 == x) && took && (h.0 == g) && same_kind k kind
raising _ _ _ _ = false

-- how many lines before t raised it, where x had the object
unfoldable pub raised : Beginning → Log → ℕ → ℕ → ℕ → Kind → ℕ
raised files log zero x g kind = 0
raised files log (suc t) x g kind = (if holds files log t x g && raising x g kind (log t) then 1 else 0) + raised files log t x g kind

-- what the line takes back of it: a Post its own, a Settle a number
abbrev pub lowering : ℕ → ℕ → Kind → Option Line → ℕ
lowering x g kind (Some (Ask a y (Post q h k missed) told took)) = if (y.0 == x) && took && (h.0 == g) && same_kind k kind then 1 else 0
lowering x g kind (Some (Ask a y (Settle h k less) told took)) = if (y.0 == x) && took && (h.0 == g) && same_kind k kind then less.dirty else 0
lowering _ _ _ _ = 0

-- how much the lines before t took back, where x had the object
unfoldable pub lowered : Beginning → Log → ℕ → ℕ → ℕ → Kind → ℕ
lowered files log zero x g kind = 0
lowered files log (suc t) x g kind = (if holds files log t x g then lowering x g kind (log t) else 0) + lowered files log t x g kind

-- what x holds dirty on the object and kind
abbrev pub dirty : Beginning → Log → ℕ → ℕ → ℕ → Kind → ℕ
dirty files log t x g kind = raised files log t x g kind - lowered files log t x g kind

-- up to t no more was taken back than raised
abbrev pub NoneBelow : Beginning → Log → ℕ → ℕ → ℕ → Kind → Type 0
NoneBelow files log t x g kind = (v : ℕ) → v ≤ t → lowered files log v x g kind ≤ raised files log v x g kind

-- a look shows the dirty number of each kind
abbrev pub ShowsDirty : Beginning → Log → ℕ → Option Line → Type 0
ShowsDirty files log t (Some (Ask a b (Look g) (Seen view) took)) = (kind : Kind) → (view_marks view kind).dirty ≡ dirty files log t b.0 g.0 kind
ShowsDirty _ _ _ _ = Unit {0}

-- each look shows the dirty numbers
abbrev pub DirtyShown : Beginning → Log → Type 0
DirtyShown files log = (t : ℕ) → ShowsDirty files log t (log t)

-- the same, as long as no more was taken back than raised
abbrev pub TracksDirty : Beginning → Log → ℕ → Option Line → Type 0
TracksDirty files log t (Some (Ask a b (Look g) (Seen view) took)) = (kind : Kind) → NoneBelow files log t b.0 g.0 kind → (view_marks view kind).dirty ≡ dirty files log t b.0 g.0 kind
TracksDirty _ _ _ _ = Unit {0}

-- each look does
abbrev pub DirtyTracked : Beginning → Log → Type 0
DirtyTracked files log = (t : ℕ) → TracksDirty files log t (log t)
