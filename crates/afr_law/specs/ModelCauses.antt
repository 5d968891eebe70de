-- The causes of accusations in the words of the model.
use Rattle.std.specs.Prelude.{◌≡◌, ◌⊎◌, ℕ, ◌<◌, ◌≤◌, true, List, length, Some}
use Rattle.afr_base.specs.Bricks.{member}
use Rattle.afr_base.specs.declared.ids.ActorId.{ActorId}
use Rattle.afr_base.specs.declared.ids.Gfid.{Gfid}
use Rattle.afr_base.specs.declared.ids.Kind.{Kind}
use Rattle.afr_object.specs.Tables.{object_of}
use Rattle.afr_object.specs.declared.change.Change.{Change}
use Rattle.afr_lines.specs.Areas.{kind_for}
use Rattle.afr_lines.specs.Log.{EveryPrefix, from_oldest}
use Rattle.afr_lines.specs.declared.answer.Told.{Told}
use Rattle.afr_lines.specs.declared.answer.Told.TheVariants.{Done, NotConnected}
use Rattle.afr_lines.specs.declared.line.Line.{Line}
use Rattle.afr_lines.specs.declared.line.Line.TheVariants.{Ask, Begin}
use Rattle.afr_lines.specs.declared.request.Request.TheVariants.{Apply, Post}
use Rattle.afr_plan.specs.declared.plan.Plan.{Plan}
use Rattle.afr_model.specs.Honest.{Honest}
use Rattle.afr_model.specs.Safe.{accuses}
use Rattle.afr_law.specs.Exactly.{IsLawfulExactly}
use Rattle.afr_law.specs.ModelLaw.{IsLawful}

-- brick x carried out a post-op of an attempt on the object and kind, which names brick c as having missed it
pub record IsCause (log : List Line) (x c : ℕ) (g : Gfid) (kind : Kind) : Type 0 where
  pub position : ℕ
  pub actor : ActorId
  pub attempt : ℕ
  pub missed : List ℕ
  pub told : Told
  pub posted : from_oldest position log ≡ Some (Ask actor (record { 0 = x }) (Post attempt g kind missed) told true)
  -- that it was done may not have been heard
  pub heard : (told ≡ Done) ⊎ (told ≡ NotConnected)
  pub named : member missed c ≡ true
  pub change : Change
  pub earlier : attempt < position
  pub begun : from_oldest attempt log ≡ Some (Begin actor change)
  pub object_same : object_of change ≡ g
  pub kind_same : kind_for change ≡ kind
  -- brick c had not told anybody that it did the operation
  pub not_done : (m : ℕ) (other : ActorId) → m < position → from_oldest m log ≡ Some (Ask other (record { 0 = c }) (Apply attempt) Done true) → ⊥

-- where a brick accuses another there is a cause
abbrev pub HaveCauses : Plan → List Line → Type 0
HaveCauses p log = (x c : ℕ) (g : Gfid) (kind : Kind) → accuses p log g kind x c ≡ true → IsCause log x c g kind

-- so it is at every moment of an honest and lawful log
abbrev pub ModelAccusationsHaveCauses : Type 0
ModelAccusationsHaveCauses = (p : Plan) (log : List Line) → p.shape.n ≤ 5 → Honest p log → IsLawful p log → EveryPrefix (HaveCauses p) log

-- and of an honest log of at most 4,000,000 lines that keeps the discipline in full
abbrev pub ModelExactAccusations : Type 0
ModelExactAccusations = (p : Plan) (log : List Line) → p.shape.n ≤ 5 → length log ≤ 4000000 → Honest p log → IsLawfulExactly p log → EveryPrefix (HaveCauses p) log
