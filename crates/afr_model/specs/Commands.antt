-- What the words of a command name: its path, its change, what it locks, and what it reads.
use Rattle.std.specs.Prelude.{ℕ, ◌+◌, ◌-◌, ◌==◌, Bool, true, false, List, Option, Some, None, length, slice_get, if◌then◌else◌}
use Rattle.std.specs.Option.{option_map}
use Rattle.afr_base.specs.declared.ids.Gfid.{Gfid}
use Rattle.afr_base.specs.declared.ids.Kind.{Kind}
use Rattle.afr_base.specs.declared.ids.Kind.TheVariants.{Bytes, Attrs, Names}
use Rattle.afr_base.specs.declared.ids.NameId.{NameId}
use Rattle.afr_base.specs.declared.ids.What.{What}
use Rattle.afr_base.specs.declared.ids.What.TheVariants.{File, Dir}
use Rattle.afr_object.specs.declared.change.Change.{Change}
use Rattle.afr_object.specs.declared.change.Change.TheVariants as change
use Rattle.afr_lines.specs.Areas.{area_for}
use Rattle.afr_lines.specs.declared.request.Area.{Area}
use Rattle.afr_lines.specs.declared.request.Area.TheVariants.{Name}
use Rattle.afr_lines.specs.declared.request.Request.{Request}
use Rattle.afr_lines.specs.declared.request.Request.TheVariants as request
use Rattle.afr_plan.specs.declared.command.Command.{Command}
use Rattle.afr_plan.specs.declared.command.Command.TheVariants as command
pub use Rattle.afr_plan.specs.OnNames.{is_on_name}

-- the path of a command, the first one of a rename
abbrev pub path_of : Command → List NameId
path_of (command.Write path at bytes) = path
path_of (command.Cut path len) = path
path_of (command.Read path at len) = path
path_of (command.Create path) = path
path_of (command.Mkdir path) = path
path_of (command.Unlink path) = path
path_of (command.Rmdir path) = path
path_of (command.Ls path) = path
path_of (command.Stat path) = path
path_of (command.SetAttr path key value) = path
path_of (command.GetAttr path key) = path
path_of (command.Rename from to) = from

-- the command removes a directory
abbrev pub is_rmdir : Command → Bool
is_rmdir (command.Rmdir path) = true
is_rmdir other = false

-- the last name of a path
abbrev pub last_of : List NameId → Option NameId
last_of path = slice_get path (length path - 1)

-- how many names lead to the object of a command: all, but for a command on a name all but the last
abbrev pub steps_of : Command → ℕ
steps_of c = if is_on_name c then length (path_of c) - 1 else length (path_of c)

-- a change to an existing object, as a command's words name it
abbrev pub change_on : Gfid → Command → Option Change
change_on g (command.Write path at bytes) = Some (change.Write g at bytes)
change_on g (command.Cut path len) = Some (change.Cut g len)
change_on g (command.SetAttr path key value) = Some (change.SetAttr g key value)
change_on g other = None

-- a change of a name in directory d; an object that it makes has the number of its Begin line plus 2
abbrev pub change_in : Gfid → ℕ → Command → Option Change
change_in d at (command.Create path) = option_map (λ name. change.Make d name (record { 0 = at + 2 }) File) (last_of path)
change_in d at (command.Mkdir path) = option_map (λ name. change.Make d name (record { 0 = at + 2 }) Dir) (last_of path)
change_in d at (command.Unlink path) = option_map (λ name. change.Remove d name File) (last_of path)
change_in d at (command.Rmdir path) = option_map (λ name. change.Remove d name Dir) (last_of path)
change_in d at other = None

-- the change that a command's words name, begun at this position on the object that its path has led to
abbrev pub change_named : Gfid → ℕ → Command → Option Change
change_named g at c = if is_on_name c then change_in g at c else change_on g c

-- what a command locks first, on the object that its path has led to; a write of no bytes locks nothing
abbrev pub area_on : Gfid → Command → Option Area
area_on g (command.Write path at bytes) = if length bytes == 0 then None else Some (area_for (change.Write g at bytes))
area_on g (command.Cut path len) = Some (area_for (change.Cut g len))
area_on g (command.SetAttr path key value) = Some (area_for (change.SetAttr g key value))
area_on g (command.Create path) = option_map (λ name. Name g (Some name)) (last_of path)
area_on g (command.Mkdir path) = option_map (λ name. Name g (Some name)) (last_of path)
area_on g (command.Unlink path) = option_map (λ name. Name g (Some name)) (last_of path)
area_on g (command.Rmdir path) = option_map (λ name. Name g (Some name)) (last_of path)
area_on g other = None

-- what a command reads of the object at its path's end; a read of no bytes, and a stat, read nothing
abbrev pub request_on : Gfid → Command → Option Request
request_on g (command.Read path at len) = if len == 0 then None else Some (request.ReadBytes g at len)
request_on g (command.GetAttr path key) = Some (request.ReadAttr g key)
request_on g (command.Ls path) = Some (request.List g)
request_on g (command.Rmdir path) = Some (request.List g)
request_on g other = None

-- the kind of which a lookup needs a good copy
abbrev pub kind_looked : Command → What → Kind
kind_looked (command.Read path at len) what = Bytes
kind_looked (command.GetAttr path key) what = Attrs
kind_looked (command.Ls path) what = Names
kind_looked other File = Bytes
kind_looked other Dir = Names
