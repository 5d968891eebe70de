-- Where one attempt at a time works on an object and kind, some copy lacks nothing that was acknowledged.
use Rattle.std.specs.Prelude.{◌≡◌, ◌⊎◌, ℕ, ◌<◌, ◌≤◌, true, false, List, length, Some}
use Rattle.afr_base.specs.Bricks.{IsWithin}
use Rattle.afr_base.specs.Majority.{is_majority}
use Rattle.afr_base.specs.declared.ids.ActorId.{ActorId}
use Rattle.afr_base.specs.declared.ids.BrickId.{BrickId}
use Rattle.afr_base.specs.declared.ids.Gfid.{Gfid}
use Rattle.afr_base.specs.declared.ids.Kind.{Kind}
use Rattle.afr_object.specs.declared.entry.View.{View}
use Rattle.afr_lines.specs.Log.{EveryPrefix, from_oldest}
use Rattle.afr_lines.specs.declared.answer.Told.{Told}
use Rattle.afr_lines.specs.declared.answer.Told.TheVariants.{Seen}
use Rattle.afr_lines.specs.declared.line.Line.{Line}
use Rattle.afr_lines.specs.declared.line.Line.TheVariants.{Ask, End}
use Rattle.afr_lines.specs.declared.reply.Reply.{Reply}
use Rattle.afr_lines.specs.declared.request.Request.TheVariants.{Look, Post}
use Rattle.afr_plan.specs.declared.plan.Plan.{Plan}
use Rattle.afr_model.specs.Attempts.{IsCurrent}
use Rattle.afr_model.specs.Cells.{Cell, kind_of_cell, object_of_cell}
use Rattle.afr_model.specs.Honest.{Honest}
use Rattle.afr_model.specs.Safe.{accuses, is_good_copy}
use Rattle.afr_law.specs.Exactly.{IsLawfulExactly}

-- the line at this position is a post-op of an attempt of the actor, which its brick carried out
pub record IsPosted (log : List Line) (position : ℕ) (actor : ActorId) (attempt : ℕ) (g : Gfid) (kind : Kind) : Type 0 where
  pub brick : BrickId
  pub missed : List ℕ
  pub told : Told
  pub line : from_oldest position log ≡ Some (Ask actor brick (Post attempt g kind missed) told true)

-- two attempts overlap: between a look at the object and a post-op of one work stands a post-op of another attempt
pub record AreOverlapping (log : List Line) (g : Gfid) (kind : Kind) : Type 0 where
  pub look : ℕ
  pub other : ℕ
  pub close : ℕ
  pub after : look < other
  pub before : other < close
  pub actor : ActorId
  pub brick : BrickId
  pub view : View
  pub looked : from_oldest look log ≡ Some (Ask actor brick (Look g) (Seen view) true)
  pub attempt : ℕ
  pub closes : IsPosted log close actor attempt g kind
  pub one_work : (position : ℕ) (said : Reply) → look ≤ position → position < close → from_oldest position log ≡ Some (End actor said) → ⊥
  pub stranger : ActorId
  pub second : ℕ
  pub comes : IsPosted log other stranger second g kind
  pub apart : second ≡ attempt → ⊥

-- one attempt at a time works on the object and kind
abbrev pub IsOneByOne : List Line → Gfid → Kind → Type 0
IsOneByOne log g kind = AreOverlapping log g kind → ⊥

-- nobody accuses anybody
abbrev pub AreUnaccused : Plan → List Line → Gfid → Kind → Type 0
AreUnaccused p log g kind = (x c : ℕ) → accuses p log g kind x c ≡ false

-- a majority of all bricks holds nothing against one of its copies, so each cell of it is current
pub record HasWholeCopy (p : Plan) (log : List Line) (g : Gfid) (kind : Kind) : Type 0 where
  pub brick : ℕ
  pub bricks : List ℕ
  pub within : IsWithin p.shape.n bricks
  pub majority : is_majority p.shape.n bricks ≡ true
  pub good : is_good_copy p log bricks g kind brick ≡ true
  pub current : (cell : Cell) → object_of_cell cell ≡ g → kind_of_cell cell ≡ kind → IsCurrent p log brick cell

-- where one attempt at a time works on an object and kind, some copy is whole, whatever a split-brain looks like
abbrev pub AreWhole : Plan → List Line → Type 0
AreWhole p log = (g : Gfid) (kind : Kind) → IsOneByOne log g kind → AreUnaccused p log g kind ⊎ HasWholeCopy p log g kind

-- so it is at every moment of an honest log of at most 4,000,000 lines that keeps the discipline in full
abbrev pub ModelExactWhole : Type 0
ModelExactWhole = (p : Plan) (log : List Line) → p.shape.n ≤ 5 → length log ≤ 4000000 → Honest p log → IsLawfulExactly p log → EveryPrefix (AreWhole p) log
