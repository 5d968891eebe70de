-- The answers that the bricks may give.
use Rattle.std.specs.Prelude.{◌≡◌, ℕ, zero, suc, ◌+◌, ◌≤◌, Bool, true, false, ◌||◌, ◌==◌, if◌then◌else◌, slice_index, ◌⊎◌, ◌<◌, Option, None, Some, ◌&&◌}
use Rattle.afr_base.specs.declared.ids.What.{What}
use Rattle.afr_model_moves.specs.Cells.{Byte, Entry, what_code, entry_code}
use Rattle.afr_model_moves.specs.Past.{Beginning, Log, before, joined, opening, held, blocks, kind_at, holds, pending, value, object_of_line, repaired}
use Rattle.afr_base.specs.declared.ids.Kind.{Kind}
use Rattle.afr_base.specs.declared.ids.Kind.TheVariants.{Bytes, Attrs, Names}
use Rattle.afr_base.specs.declared.marks.Marks.{Marks}
use Rattle.afr_base.specs.Marks.{marks_of}
use Rattle.afr_lines.specs.declared.fault.Fault.{Fault}
use Rattle.afr_lines.specs.declared.fault.Fault.TheVariants.{Fail, Lost}
use Rattle.afr_object.specs.declared.entry.View.{View}
use Rattle.afr_object.specs.declared.change.Change.{Change}
use Rattle.afr_object.specs.declared.change.Change.TheVariants.{Write, Cut, SetAttr, Make, Remove}
use Rattle.afr_lines.specs.declared.request.Request.{Request}
use Rattle.afr_lines.specs.declared.request.Request.TheVariants.{Lock, Unlock, Look, ReadBytes, ReadName, List, ReadAttr, ReadAttrs, Index, Pre, Apply, Post, Mend, Settle}
use Rattle.afr_lines.specs.declared.answer.Told.{Told}
use Rattle.afr_lines.specs.declared.answer.Told.TheVariants.{Granted, Held, Seen, Done, Given, NoObject, NotConnected, Failed}
use Rattle.afr_lines.specs.declared.line.Line.{Line}
use Rattle.afr_lines.specs.declared.line.Line.TheVariants.{Ask, Begin}

-- how many Ask lines there are at brick b before t
abbrev pub asks : ℕ → Option Line → Bool
asks b (Some (Ask x y request told took)) = y.0 == b
asks _ _ = false

-- how many requests brick b was asked before t
unfoldable pub asked : Log → ℕ → ℕ → ℕ
asked log zero b = 0
asked log (suc t) b = (if asks b (log t) then 1 else 0) + asked log t b

-- the marks of a kind that a view shows
abbrev pub view_marks : View → Kind → Marks
view_marks view kind = marks_of kind view.marks

-- the kind of the cells that a change writes
abbrev pub plane_kind : Change → Kind
plane_kind (Write g at bytes) = Bytes
plane_kind (Cut g len) = Bytes
plane_kind (SetAttr g key v) = Attrs
plane_kind (Make dir name g what) = Names
plane_kind (Remove dir name what) = Names

-- whether a line begins an attempt
abbrev pub begins_attempt : Option Line → Bool
begins_attempt (Some (Begin a change)) = true
begins_attempt _ = false

-- whether the brick has the object that the request is about
abbrev pub finds : Beginning → Log → ℕ → ℕ → Request → Bool
finds files log t b (Look g) = holds files log t b g.0
finds files log t b (ReadBytes g at len) = holds files log t b g.0
finds files log t b (ReadName g name) = holds files log t b g.0
finds files log t b (List g) = holds files log t b g.0
finds files log t b (ReadAttr g key) = holds files log t b g.0
finds files log t b (ReadAttrs g) = holds files log t b g.0
finds files log t b (Pre g kind) = holds files log t b g.0
finds files log t b (Apply q) = begins_attempt (before log t q) && holds files log t b (object_of_line (before log t q))
finds files log t b (Post q g kind missed) = holds files log t b g.0
finds files log t b (Mend repair) = holds files log t b (repaired repair)
finds files log t b (Settle g kind less) = holds files log t b g.0
finds files log t b _ = true

-- the view shows the marks of the brick against those that keep such cells; its length is no less than the place of any byte that isn't 0
pub record Shows (files : Beginning) (log : Log) (t b g : ℕ) (view : View) : Type 0 where
  pub marks : (kind : Kind) (c : ℕ) → files.keeps c kind ≡ true → slice_index (view_marks view kind).pending c ≡ pending files log t b c g kind
  pub what : what_code view.what ≡ kind_at files log t b g
  pub length : files.keeps b Bytes ≡ true → (i : ℕ) → view.len ≤ i → value files log t b (Byte g i) ≡ 0

-- what a brick that has what the request needs tells
abbrev pub Answers : Beginning → Log → ℕ → ℕ → ℕ → Request → Told → Type 0
Answers files log t a b (Lock domain area) Granted = (p : ℕ) → held log t b p ≡ true → blocks a domain area (log p) ≡ false
Answers files log t a b (Lock domain area) (Held owner) = (p : ℕ) × (held log t b p ≡ true) × (blocks a domain area (log p) ≡ true)
Answers files log t a b (Look g) (Seen view) = Shows files log t b g.0 view
Answers files log t a b (Unlock domain area) Done = Unit {0}
Answers files log t a b (ReadBytes g at len) Given = Unit {0}
Answers files log t a b (ReadName g name) Given = Unit {0}
Answers files log t a b (List g) Given = Unit {0}
Answers files log t a b (ReadAttr g key) Given = Unit {0}
Answers files log t a b (ReadAttrs g) Given = Unit {0}
Answers files log t a b Index Given = Unit {0}
Answers files log t a b (Pre g kind) Done = Unit {0}
Answers files log t a b (Apply q) Done = Unit {0}
Answers files log t a b (Post q g kind missed) Done = Unit {0}
Answers files log t a b (Mend repair) Done = Unit {0}
Answers files log t a b (Settle g kind less) Done = Unit {0}
Answers _ _ _ _ _ _ _ = ⊥

-- a brick that has what the request needs answers it; one that lacks it says so
abbrev pub Tells : Beginning → Log → ℕ → ℕ → ℕ → Request → Told → Bool → Type 0
Tells files log t a b request told true = Answers files log t a b request told
Tells files log t a b request told false = told ≡ NoObject

-- what is told: not connected without a session, else the planned failure, else the answer, which a planned loss hides
abbrev pub HonestAsk : Beginning → Log → ℕ → ℕ → ℕ → Request → Told → Bool → Bool → Option Fault → Type 0
HonestAsk files log t a b request told took false fault = (told ≡ NotConnected) × (took ≡ false)
HonestAsk files log t a b request told took true (Some Fail) = (told ≡ Failed) × (took ≡ false)
HonestAsk files log t a b request told took true (Some Lost) = (told ≡ NotConnected) × (took ≡ true)
HonestAsk files log t a b request told took true None = Tells files log t a b request told (finds files log t b request) × (took ≡ true)

-- an entry that was read, of this gfid and kind
pub record Shown (files : Beginning) (log : Log) (t g : ℕ) (what : What) : Type 0 where
  pub r : ℕ
  pub a : ℕ
  pub b : ℕ
  pub dir : ℕ
  pub name : ℕ
  pub past : r < t
  pub same : value files log r b (Entry dir name) ≡ entry_code g what

-- a Make has a fresh gfid, or the gfid and kind of an entry that was read
abbrev pub KnownMake : Beginning → Log → ℕ → Change → Type 0
KnownMake files log t (Make dir name g what) = ((g.0 ≡ t + 2) × (files.kinds g.0 ≡ 0)) ⊎ Shown files log t g.0 what
KnownMake files log t _ = Unit {0}

-- a request was answered so, and what a Begin makes is known
abbrev pub HonestLine : Beginning → (ℕ → ℕ → Option Fault) → Log → ℕ → Option Line → Type 0
HonestLine files faults log t (Some (Ask a b request told took)) =
    HonestAsk files log t a.0 b.0 request told took (joined log t a.0 b.0 || opening log t a.0 b.0) (faults b.0 (suc (asked log t b.0)))
HonestLine files faults log t (Some (Begin a change)) = KnownMake files log t change
HonestLine _ _ _ _ _ = Unit {0}

-- each line is honest
abbrev pub Honest : Beginning → (ℕ → ℕ → Option Fault) → Log → Type 0
Honest files faults log = (t : ℕ) → HonestLine files faults log t (log t)
