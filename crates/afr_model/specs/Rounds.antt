-- A round: the list that its Index line gave, and the heals of that list.
use Rattle.std.specs.Prelude.{◌≡◌, ℕ, ◌+◌, List, [], ◌∷◌, Option, Some, None, slice_get, if◌then◌else◌}
use Rattle.afr_base.specs.declared.ids.BrickId.{BrickId}
use Rattle.afr_base.specs.declared.ids.Gfid.{Gfid}
use Rattle.afr_base.specs.declared.ids.Kind.{Kind}
use Rattle.afr_base.specs.declared.ids.Kind.TheVariants.{Bytes, Attrs, Names}
use Rattle.afr_base.specs.declared.ids.What.{What}
use Rattle.afr_object.specs.Repairs.{repaired}
use Rattle.afr_object.specs.Tables.{is_file}
use Rattle.afr_lines.specs.Areas.{object_of_area}
use Rattle.afr_lines.specs.Work.{Work}
use Rattle.afr_lines.specs.declared.answer.Told.TheVariants.{Given}
use Rattle.afr_lines.specs.declared.line.Line.{Line}
use Rattle.afr_lines.specs.declared.line.Line.TheVariants.{Ask, HealBegin, End, HealEnd}
use Rattle.afr_lines.specs.declared.request.Request.{Request}
use Rattle.afr_lines.specs.declared.request.Request.TheVariants as request
use Rattle.afr_plan.specs.declared.plan.Plan.{Plan}
use Rattle.afr_object.specs.Indexed.{index_of}
use Rattle.afr_model.specs.Tables.{holds}

-- the list that the round's Index line gave: the objects with a number above 0, in rising gfid
abbrev pub listed_after : Plan → Line → List Line → List (Gfid × What) → List (Gfid × What)
listed_after p (Ask a b request.Index Given took) older was = index_of (holds p older b.0)
listed_after p line older was = was

-- the same of all lines of a round
abbrev pub listed_by : Plan → Work → List (Gfid × What)
listed_by p [] = []
listed_by p (x ∷ w) = listed_after p x.0 x.1 (listed_by p w)

-- the kind that is healed after the attributes
abbrev pub kind_within : What → Kind
kind_within what = if is_file what then Bytes else Names

-- the heals of a list: for each object its attributes, then its bytes or its names
abbrev pub heals_of : List (Gfid × What) → List (Gfid × Kind)
heals_of [] = []
heals_of (x ∷ more) = (x.0, Attrs) ∷ (x.0, kind_within x.1) ∷ heals_of more

-- one more where the line ends a heal
abbrev pub plus_healed : Line → ℕ → ℕ
plus_healed (HealEnd a g kind reply) n = n + 1
plus_healed line n = n

-- how many heals of a round have ended
abbrev pub heals_ended : Work → ℕ
heals_ended [] = 0
heals_ended (x ∷ w) = plus_healed x.0 (heals_ended w)

-- the heal of a list that a work is at, or none where all have ended
abbrev pub due_in : List (Gfid × What) → Work → Option (Gfid × Kind)
due_in list w = slice_get (heals_of list) (heals_ended w)

-- the heal that a round is at
abbrev pub heal_due : Plan → Work → Option (Gfid × Kind)
heal_due p w = due_in (listed_by p w) w

-- the object of a heal's request; requests that no heal makes have none
abbrev pub object_healed : Request → Option Gfid
object_healed (request.Lock domain area) = Some (object_of_area area)
object_healed (request.Unlock domain area) = Some (object_of_area area)
object_healed (request.Look g) = Some g
object_healed (request.ReadBytes g at len) = Some g
object_healed (request.List g) = Some g
object_healed (request.ReadAttrs g) = Some g
object_healed (request.Pre g kind) = Some g
object_healed (request.Mend repair) = Some (repaired repair)
object_healed (request.Settle g kind less) = Some g
object_healed other = None

-- a request is about the object of the heal of a list that the work is at
pub record IsOfHeal (list : List (Gfid × What)) (asked : Request) (w : Work) : Type 0 where
  pub object : Gfid
  pub kind : Kind
  pub due : due_in list w ≡ Some (object, kind)
  pub about : object_healed asked ≡ Some object

-- the work has begun, and no heal of the list is left
pub record IsHealed (list : List (Gfid × What)) (w : Work) : Type 0 where
  pub first : Line × List Line
  pub older : Work
  pub begun : w ≡ first ∷ older
  pub done : due_in list w ≡ None

-- a line of a work keeps to the heals of a list, and to its end
abbrev pub KeepsToHeals : List (Gfid × What) → Line → Work → Type 0
KeepsToHeals list (Ask a y asked told took) w = IsOfHeal list asked w
KeepsToHeals list (HealBegin a g kind) w = due_in list w ≡ Some (g, kind)
KeepsToHeals list (HealEnd a g kind reply) w = due_in list w ≡ Some (g, kind)
KeepsToHeals list (End a reply) w = IsHealed list w
KeepsToHeals list line w = ⊥

-- the index of a brick is asked first, then come the heals of a list
abbrev pub KeepsToIndexed : BrickId → List (Gfid × What) → Line → Work → Type 0
KeepsToIndexed b list (Ask a y request.Index told took) w = (w ≡ []) × (y ≡ b)
KeepsToIndexed b list line w = KeepsToHeals list line w

-- a line of a work keeps to the round: the heals are those of the list that the index gave
abbrev pub KeepsToRound : Plan → BrickId → Line → Work → Type 0
KeepsToRound p b line w = KeepsToIndexed b (listed_by p w) line w
