-- The work that a command begins.
use Rattle.std.specs.Prelude.{◌&&◌, Bool, true}
use Rattle.afr_base.specs.declared.ids.Shape.{Shape}
use Rattle.afr_plan.specs.declared.command.Command.{Command}
use Rattle.afr_plan.specs.declared.command.Command.TheVariants as command
use Rattle.afr_plan.specs.OnNames.{has_name}
use Rattle.afr_client_entry.specs.Entry.{entry_from}
use Rattle.afr_client_entry.specs.declared.job.EntryJob.TheVariants as name
use Rattle.afr_client_read.specs.Lookup.{lookup_from}
use Rattle.afr_client_read.specs.declared.job.LookupJob.TheVariants.{Read, GetAttr, Ls, Stat}
use Rattle.afr_client_write.specs.Write.{write_from}
use Rattle.afr_client_write.specs.declared.job.WriteJob.TheVariants as job
use Rattle.afr_client_entry.specs.Renames.Paths.{front, last}
use Rattle.afr_client_entry.specs.Renames.Rename.{rename_from}
use Rattle.afr_client.specs.declared.work.WorkMachine.{WorkMachine}
use Rattle.afr_client.specs.declared.work.WorkMachine.TheVariants.{Lookup, Write, Entry, Rename}

-- a machine carries out each command; one on the last name of a path needs that name, and a rename both of its last names
abbrev pub has_machine : Command → Bool
has_machine (command.Create path) = has_name path
has_machine (command.Mkdir path) = has_name path
has_machine (command.Unlink path) = has_name path
has_machine (command.Rmdir path) = has_name path
has_machine (command.Rename from to) = has_name from && has_name to
has_machine other = true

-- the work of a command that begins
abbrev pub work_from : Shape → Command → WorkMachine
work_from shape (command.Write path at bytes) = Write (write_from shape path (job.Write at bytes))
work_from shape (command.Cut path len) = Write (write_from shape path (job.Cut len))
work_from shape (command.SetAttr path key value) = Write (write_from shape path (job.SetAttr key value))
work_from shape (command.Read path at len) = Lookup (lookup_from shape path (Read at len))
work_from shape (command.GetAttr path key) = Lookup (lookup_from shape path (GetAttr key))
work_from shape (command.Ls path) = Lookup (lookup_from shape path Ls)
work_from shape (command.Stat path) = Lookup (lookup_from shape path Stat)
work_from shape (command.Create path) = Entry (entry_from shape (front path) (name.Create (last path)))
work_from shape (command.Mkdir path) = Entry (entry_from shape (front path) (name.Mkdir (last path)))
work_from shape (command.Unlink path) = Entry (entry_from shape (front path) (name.Unlink (last path)))
work_from shape (command.Rmdir path) = Entry (entry_from shape (front path) (name.Rmdir (last path)))
work_from shape (command.Rename from to) = Rename (rename_from shape from to)
