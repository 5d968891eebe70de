-- The second path of a rename.
use Rattle.std.specs.Prelude.{List, Option, Some, None}
use Rattle.afr_base.specs.declared.ids.NameId.{NameId}
use Rattle.afr_plan.specs.declared.command.Command.{Command}
use Rattle.afr_plan.specs.declared.command.Command.TheVariants.{Rename}

-- the second path; no other command has one
abbrev pub new_path : Command → Option (List NameId)
new_path (Rename from to) = Some to
new_path command = None
