-- Commands on the last name of their path.
use Rattle.std.specs.Prelude.{Bool, true, false, List, length, nat_lt}
use Rattle.afr_base.specs.declared.ids.NameId.{NameId}
use Rattle.afr_plan.specs.declared.command.Command.{Command}
use Rattle.afr_plan.specs.declared.command.Command.TheVariants as command

-- a path has a name
abbrev pub has_name : List NameId → Bool
has_name path = nat_lt 0 (length path)

-- a command on the last name of its path, in the directory before it
abbrev pub is_on_name : Command → Bool
is_on_name (command.Create path) = true
is_on_name (command.Mkdir path) = true
is_on_name (command.Unlink path) = true
is_on_name (command.Rmdir path) = true
is_on_name other = false
