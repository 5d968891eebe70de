-- What a line of a rename keeps to: the names of both paths in their order, and two changes.
use Rattle.std.specs.Prelude.{◌≡◌, ℕ, ◌+◌, ◌-◌, ◌==◌, nat_lt, List, Option, Some, None, length, slice_get, if◌then◌else◌}
use Rattle.std.specs.Option.{option_map}
use Rattle.afr_base.specs.declared.ids.Gfid.{Gfid}
use Rattle.afr_base.specs.declared.ids.NameId.{NameId}
use Rattle.afr_base.specs.declared.ids.What.TheVariants.{File}
use Rattle.afr_lines.specs.Work.{Work}
use Rattle.afr_lines.specs.declared.line.Line.{Line}
use Rattle.afr_lines.specs.declared.line.Line.TheVariants.{Ask, Begin, HealBegin, HealEnd}
use Rattle.afr_lines.specs.declared.request.Request.TheVariants.{ReadName}
use Rattle.afr_model.specs.Commands.{last_of}
use Rattle.afr_model.specs.Parts.{names_asked}
use Rattle.afr_object.specs.Tables.{root}
use Rattle.afr_object.specs.declared.change.Change.{Change}
use Rattle.afr_object.specs.declared.change.Change.TheVariants as change
use Rattle.afr_object.specs.declared.entry.Entry.{Entry}
use Rattle.afr_plan.specs.declared.plan.Plan.{Plan}
use Rattle.afr_trace_follow.specs.Asked.{attempts, dir_next, dir_of, entry_of}

-- ---- the names
-- the name that comes after so many: one of the first path, then one of the second, and then the first path's last one again
abbrev pub name_due : List NameId → List NameId → ℕ → Option NameId
name_due from to k = if nat_lt k (length from) then slice_get from k else (if k - length from == length to then last_of from else slice_get to (k - length from))

-- where it is asked: the second path's first name in the root, the last of all where it was asked first, and any other as in one path
abbrev pub dir_due : Plan → List NameId → List NameId → Work → Option Gfid
dir_due p from to w = if names_asked w == length from then Some root else (if names_asked w == length from + length to then dir_of (length from) w else dir_next p w)

-- the name that a line asks is the one that comes next
pub record IsDueName (p : Plan) (from to : List NameId) (g : Gfid) (name : NameId) (w : Work) : Type 0 where
  pub named : name_due from to (names_asked w) ≡ Some name
  pub within : dir_due p from to w ≡ Some g

-- ---- the changes
-- a file's new name: the second path's last one in this directory, for what the first path has led to
abbrev pub name_given : Gfid → Option Gfid → List NameId → Option Change
name_given file None to = None
name_given file (Some dir) to = option_map (λ name. change.Make dir name file File) (last_of to)

abbrev pub link_to : Option Entry → Option Gfid → List NameId → Option Change
link_to None dir to = None
link_to (Some found) dir to = name_given found.gfid dir to

-- the removal of the first path's last name from this directory
abbrev pub unlink_from : Option Gfid → List NameId → Option Change
unlink_from None from = None
unlink_from (Some dir) from = option_map (λ name. change.Remove dir name File) (last_of from)

-- the change that is begun next: the link, in the directory where the second path's last name was asked; then the removal, from the directory where the first path's last name was asked; then none
abbrev pub change_due : Plan → List NameId → List NameId → Work → Option Change
change_due p from to w =
    if attempts w == 0 then link_to (entry_of p (length from) w) (dir_of (length from + length to) w) to else (if attempts w == 1 then unlink_from (dir_of (length from) w) from else None)

-- ---- each line
-- a line of a rename asks the next name, begins the next change, or does neither
abbrev pub KeepsToPaths : Plan → List NameId → List NameId → Line → Work → Type 0
KeepsToPaths p from to (Ask a b (ReadName g name) told took) w = IsDueName p from to g name w
KeepsToPaths p from to (Begin a begun) w = change_due p from to w ≡ Some begun
KeepsToPaths p from to (HealBegin a g kind) w = ⊥
KeepsToPaths p from to (HealEnd a g kind reply) w = ⊥
KeepsToPaths p from to line w = Unit {0}
