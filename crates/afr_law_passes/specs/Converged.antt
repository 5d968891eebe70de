-- What quiet rounds leave of the copies that every brick has: clear and alike, or in split-brain and as they were.
use Rattle.std.specs.Prelude.{◌≡◌, ◌⊎◌, ℕ, ◌<◌, ◌≤◌, List, [], ◌∷◌, false, Some, length, slice_get, true}
use Rattle.afr_base.specs.Bricks.{below}
use Rattle.afr_base.specs.Keeping.{keeps}
use Rattle.afr_base.specs.declared.ids.ActorId.{ActorId}
use Rattle.afr_base.specs.declared.ids.BrickId.{BrickId}
use Rattle.afr_base.specs.declared.ids.Gfid.{Gfid}
use Rattle.afr_base.specs.declared.ids.Kind.{Kind}
use Rattle.afr_base.specs.declared.ids.Kind.TheVariants.{Attrs, Bytes, Names}
use Rattle.afr_base.specs.declared.ids.What.{What}
use Rattle.afr_object.specs.Repairs.{Contents}
use Rattle.afr_object.specs.Repairs as contents
use Rattle.afr_object.specs.Tables.{copy_at}
use Rattle.afr_object.specs.Object.{Object}
use Rattle.afr_lines.specs.Log.{EachLine, EveryPrefix}
use Rattle.afr_lines.specs.Work.{ended, work}
use Rattle.afr_lines.specs.declared.line.Line.{Line}
use Rattle.afr_lines.specs.declared.line.Line.TheVariants.{End}
use Rattle.afr_lines.specs.declared.reply.Reply.{Reply}
use Rattle.afr_plan.specs.declared.plan.Plan.{Plan}
use Rattle.afr_model.specs.Actors.{rounds_of}
use Rattle.afr_model.specs.Cells.{Cell, kind_of_cell, object_of_cell, value_of}
use Rattle.afr_model.specs.Following.{Follows}
use Rattle.afr_model.specs.Honest.{Honest}
use Rattle.afr_model.specs.Quiet.{IsQuiet}
use Rattle.afr_model.specs.Replied.{Replied}
use Rattle.afr_model.specs.Rounds.{kind_within}
use Rattle.afr_model.specs.Safe.{log_before}
use Rattle.afr_model.specs.Splits.{IsSplit}
use Rattle.afr_model.specs.Sums.{dirty_of, pending_of}
use Rattle.afr_model.specs.Tables.{holds}
use Rattle.afr_law_tables.specs.Clear.{IsClear}
use Rattle.afr_law_quiet.specs.Undisturbed.{IsEverywhere}
use Rattle.afr_law_quiet.specs.Rounds.Whole.{RoundsAreLow}
use Rattle.afr_law.specs.Exactly.{IsLawfulExactly}

-- ---- unchanged
-- what an object has of a kind: its bytes, its attributes or its names
abbrev pub contents_in : Kind → Object → Contents
contents_in Bytes o = contents.Bytes o.content
contents_in Attrs o = contents.Attrs o.attrs
contents_in Names o = contents.Names o.names

-- brick b has the object, as a file or directory of this sort, and this is its part of the kind
abbrev pub HasPart : Plan → List Line → ℕ → Gfid → Kind → What × Contents → Type 0
HasPart p log b g kind part = (o : Object) × (copy_at g (holds p log b) ≡ Some o) × ((o.what, contents_in kind o) ≡ part)

-- on every brick the numbers of the object and kind are what they were, and so is what its copy has of the kind
pub record IsUnchanged (p : Plan) (was log : List Line) (g : Gfid) (kind : Kind) : Type 0 where
  pub dirty : (x : ℕ) → x < p.shape.n → dirty_of p log x g kind ≡ dirty_of p was x g kind
  pub pending : (x c : ℕ) → x < p.shape.n → pending_of p log x c g kind ≡ pending_of p was x c g kind
  pub parts : (x : ℕ) → x < p.shape.n → (part : What × Contents) → HasPart p was x g kind part → HasPart p log x g kind part

-- ---- one round
-- what was clear is clear; and where every brick had the object, what was clear or in split-brain is as it was
pub record IsLeft (p : Plan) (was log : List Line) (g : Gfid) (kind : Kind) : Type 0 where
  pub clear : IsClear p was g kind → IsClear p log g kind
  pub still : IsEverywhere p was g → IsClear p was g kind → IsUnchanged p was log g kind
  pub split : IsEverywhere p was g → IsSplit p was (below p.shape.n) g kind → IsUnchanged p was log g kind

-- so the undisturbed round that a line ends leaves each object and kind
abbrev pub IsQuietLeft : Plan → Line → List Line → Type 0
IsQuietLeft p (End a said) older =
    17 ≤ a.0 → (b : BrickId) → slice_get (rounds_of p a.0) (ended a.0 older) ≡ Some b → IsQuiet p a.0 older
    → (g : Gfid) (kind : Kind) → IsLeft p (log_before (work a.0 older) older) older g kind
IsQuietLeft p line older = Unit {0}

-- so do all undisturbed rounds of a log that is the plan's, honest, lawful and replied
abbrev pub QuietRoundsLeave : Type 0
QuietRoundsLeave =
    (p : Plan) (log : List Line) → p.shape.n ≤ 5 → length p.clients ≤ 16 → length log ≤ 4000000
    → Follows false p log → Honest p log → IsLawfulExactly p log → Replied p log → RoundsAreLow p → EachLine (IsQuietLeft p) log

-- ---- round after round
-- the log ends with an undisturbed round over brick b
pub record EndsRound (p : Plan) (b : BrickId) (log : List Line) : Type 0 where
  pub healer : ActorId
  pub said : Reply
  pub older : List Line
  pub last : log ≡ End healer said ∷ older
  pub high : 17 ≤ healer.0
  pub over : slice_get (rounds_of p healer.0) (ended healer.0 older) ≡ Some b
  pub quiet : IsQuiet p healer.0 older

-- after the start come undisturbed rounds over these bricks, the newest first, one right after the other
abbrev pub AreRounds : Plan → List Line → List BrickId → List Line → Type 0
AreRounds p start [] log = log ≡ start
AreRounds p start (b ∷ before) log = (r : EndsRound p b log) × AreRounds p start before (log_before (work r.healer.0 r.older) r.older)

-- every brick of the volume is among them
abbrev pub AreAll : Plan → List BrickId → Type 0
AreAll p bricks = (b : ℕ) → b < p.shape.n → (i : ℕ) × (slice_get bricks i ≡ Some (record { 0 = b }))

-- every brick has the object, and all as a file, or all as a directory
abbrev pub IsEverywhereAs : Plan → List Line → Gfid → What → Type 0
IsEverywhereAs p log g what = (b : ℕ) → b < p.shape.n → (o : Object) × (copy_at g (holds p log b) ≡ Some o) × (o.what ≡ what)

-- a kind that such an object is healed of: its attributes, and its bytes or its names
abbrev pub IsKindOf : What → Kind → Type 0
IsKindOf what kind = (kind ≡ Attrs) ⊎ (kind ≡ kind_within what)

-- all numbers are 0, and all copies that keep the kind have the same in each of its cells
pub record IsClearAlike (p : Plan) (log : List Line) (g : Gfid) (kind : Kind) : Type 0 where
  pub clear : IsClear p log g kind
  pub alike : (b c : ℕ) → b < p.shape.n → c < p.shape.n → keeps p.shape kind b ≡ true → keeps p.shape kind c ≡ true → (cell : Cell) → object_of_cell cell ≡ g → kind_of_cell cell ≡ kind → value_of p log b cell ≡ value_of p log c cell

-- clear and alike, or in split-brain from the start and unchanged
abbrev pub IsConverged : Plan → List Line → List Line → Gfid → Kind → Type 0
IsConverged p start log g kind = IsClearAlike p log g kind ⊎ (IsSplit p start (below p.shape.n) g kind × IsUnchanged p start log g kind)

-- where the last lines are undisturbed rounds at all bricks, one right after the other, each object that every brick had at their start has converged
abbrev pub HasConverged : Plan → List Line → Type 0
HasConverged p log =
    (start : List Line) (bricks : List BrickId) → AreRounds p start bricks log → AreAll p bricks
    → (g : Gfid) (what : What) (kind : Kind) → IsEverywhereAs p start g what → IsKindOf what kind → IsConverged p start log g kind

-- so it is at every moment
abbrev pub QuietRoundsConverge : Type 0
QuietRoundsConverge =
    (p : Plan) (log : List Line) → p.shape.n ≤ 5 → length p.clients ≤ 16 → length log ≤ 4000000
    → Follows false p log → Honest p log → IsLawfulExactly p log → Replied p log → RoundsAreLow p → EveryPrefix (HasConverged p) log
