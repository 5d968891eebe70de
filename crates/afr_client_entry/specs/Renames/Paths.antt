-- The two paths of a rename: what they lead to, and what is asked and changed there.
use Rattle.std.specs.Prelude.{◌≡◌, ℕ, ◌-◌, Bool, true, false, List, Some, if◌then◌else◌, length, slice_get, slice_index_or, take}
use Rattle.afr_base.specs.declared.ids.Gfid.{Gfid}
use Rattle.afr_base.specs.declared.ids.NameId.{NameId}
use Rattle.afr_base.specs.declared.ids.Shape.{Shape}
use Rattle.afr_base.specs.declared.ids.What.TheVariants.{File}
use Rattle.afr_object.specs.Tables.{is_file, root}
use Rattle.afr_object.specs.declared.change.Change.{Change}
use Rattle.afr_object.specs.declared.change.Change.TheVariants.{Make, Remove}
use Rattle.afr_lines.specs.declared.answer.Answer.{Answer}
use Rattle.afr_lines.specs.declared.request.Request.{Request}
use Rattle.afr_lines.specs.declared.request.Request.TheVariants.{ReadName}
use Rattle.afr_base.specs.declared.ids.BrickId.{BrickId}
use Rattle.afr_client_walk.specs.Walk.{IsWalk, walk_from, walked}
use Rattle.afr_client_walk.specs.declared.walk.WalkStep.{WalkStep}
use Rattle.afr_client_walk.specs.declared.walk.WalkStep.TheVariants.{Arrived}
use Rattle.afr_client_entry.specs.declared.renaming.paths.Paths.{Paths}

-- the names before a path's last one
abbrev pub front : List NameId → List NameId
front path = take (length path - 1) path

-- its last name
abbrev pub last : List NameId → NameId
last path = slice_index_or path (length path - 1) (record { 0 = 0 })

-- nobody was asked yet
abbrev pub paths_from : Shape → List NameId → List NameId → Paths
paths_from shape from to = record { first = walk_from shape from; second = walk_from shape (front to); dir = root; old_name = last from; new_name = last to }

-- the change of the first transaction, in this directory: the new name leads to the file
abbrev pub making_of : Paths → Gfid → Change
making_of x dir = Make dir x.new_name x.first.object.gfid File

-- the change of the second transaction
abbrev pub removal_of : Paths → Change
removal_of x = Remove x.dir x.old_name File

-- the request for the new name
abbrev pub reads_new : Paths → Request
reads_new x = ReadName x.second.object.gfid x.new_name

-- the request for the old name
abbrev pub reads_old : Paths → Request
reads_old x = ReadName x.dir x.old_name

-- the first walk has its answer: the directory is where it stood before, and the second walk will go on with its register
abbrev pub first_walked : BrickId → Answer → ℕ → Paths → Paths
first_walked chosen a at x = (let w = walked chosen a at x.first in record x { first = w; second = record x.second { register = w.register }; dir = x.first.object.gfid })

-- the second walk has its answer
abbrev pub second_walked : BrickId → Answer → ℕ → Paths → Paths
second_walked chosen a at x = record x { second = walked chosen a at x.second }

-- a walk has led to its object
abbrev pub has_arrived : WalkStep → Bool
has_arrived Arrived = true
has_arrived step = false

-- the first path has led to a file
abbrev pub found_in : Paths → Bool
found_in x = if has_arrived x.first.step then is_file x.first.object.what else false

-- two sound walks in one volume, the first along a path that ends in the old name
pub record IsPaths (x : Paths) : Type 0 where
  pub first : IsWalk x.first
  pub second : IsWalk x.second
  pub shape : x.second.shape ≡ x.first.shape
  pub old : slice_get x.first.path (length x.first.path - 1) ≡ Some x.old_name
