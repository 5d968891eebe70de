-- What is done with a name of a directory, and what rules it out.
use Rattle.std.specs.Prelude.{Option, Some, None, if◌then◌else◌}
use Rattle.afr_base.specs.declared.ids.Gfid.{Gfid}
use Rattle.afr_base.specs.declared.ids.NameId.{NameId}
use Rattle.afr_base.specs.declared.ids.What.TheVariants.{File, Dir}
use Rattle.afr_object.specs.Tables.{is_dir}
use Rattle.afr_object.specs.declared.change.Change.{Change}
use Rattle.afr_object.specs.declared.change.Change.TheVariants as change
use Rattle.afr_object.specs.declared.entry.Entry.{Entry}
use Rattle.afr_lines.specs.declared.answer.Answer.{Answer}
use Rattle.afr_lines.specs.declared.answer.Answer.TheVariants as answer
use Rattle.afr_lines.specs.declared.reply.Reply.{Reply}
use Rattle.afr_lines.specs.declared.reply.Reply.TheVariants as reply
use Rattle.afr_client_entry.specs.declared.job.EntryJob.{EntryJob}
use Rattle.afr_client_entry.specs.declared.job.EntryJob.TheVariants.{Create, Mkdir, Unlink, Rmdir}
use Rattle.afr_client_entry.specs.declared.refusal.Refusal.{Refusal}
use Rattle.afr_client_entry.specs.declared.refusal.Refusal.TheVariants.{Failed, NoEntry, Exists, IsDir, NotDir}

-- the name that a job is about
abbrev pub name_of : EntryJob → NameId
name_of (Create name) = name
name_of (Mkdir name) = name
name_of (Unlink name) = name
name_of (Rmdir name) = name

-- the change of a directory that a job asks for; the Begin line gives a new object its number
abbrev pub change_of : Gfid → EntryJob → Change
change_of g (Create name) = change.Make g name (record { 0 = 0 }) File
change_of g (Mkdir name) = change.Make g name (record { 0 = 0 }) Dir
change_of g (Unlink name) = change.Remove g name File
change_of g (Rmdir name) = change.Remove g name Dir

-- a name is made where there is none, unlinked where it leads to a file, and removed with the directory that it leads to
abbrev pub ruled_by : EntryJob → Option Entry → Option Refusal
ruled_by (Create name) (Some entry) = Some Exists
ruled_by (Create name) None = None
ruled_by (Mkdir name) (Some entry) = Some Exists
ruled_by (Mkdir name) None = None
ruled_by (Unlink name) (Some entry) = if is_dir entry.what then Some IsDir else None
ruled_by (Unlink name) None = Some NoEntry
ruled_by (Rmdir name) (Some entry) = if is_dir entry.what then None else Some NotDir
ruled_by (Rmdir name) None = Some NoEntry

-- what the answer for the name says against a job: a refused read isn't tried again
abbrev pub ruled_out : EntryJob → Answer → Option Refusal
ruled_out job (answer.Entry found) = ruled_by job found
ruled_out job other = Some Failed

-- the reply of a refusal
abbrev pub reply_to : Refusal → Reply
reply_to Failed = reply.Failed
reply_to NoEntry = reply.NoEntry
reply_to Exists = reply.Exists
reply_to IsDir = reply.IsDir
reply_to NotDir = reply.NotDir

-- the directory that a removal goes on to
abbrev pub child_by : EntryJob → Answer → Option Gfid
child_by (Rmdir name) (answer.Entry (Some entry)) = if is_dir entry.what then Some entry.gfid else None
child_by job other = None
