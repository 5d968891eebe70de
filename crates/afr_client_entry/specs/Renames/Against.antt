-- What the readings of the two names say against a rename, and what it ends with.
use Rattle.std.specs.Prelude.{◌==◌, Bool, true, false, Option, Some, None, if◌then◌else◌}
use Rattle.afr_base.specs.declared.ids.Gfid.{Gfid}
use Rattle.afr_object.specs.Tables.{is_file}
use Rattle.afr_object.specs.declared.entry.Entry.{Entry}
use Rattle.afr_lines.specs.declared.answer.Answer.{Answer}
use Rattle.afr_lines.specs.declared.answer.Answer.TheVariants as answer
use Rattle.afr_lines.specs.declared.reply.Good.TheVariants as good
use Rattle.afr_lines.specs.declared.reply.Reply.{Reply}
use Rattle.afr_lines.specs.declared.reply.Reply.TheVariants as reply
use Rattle.afr_client_entry.specs.declared.refusal.Refusal.{Refusal}
use Rattle.afr_client_entry.specs.declared.refusal.Refusal.TheVariants.{Failed, Exists, NoEntry}
use Rattle.afr_client_transaction.specs.declared.reply.TransactionOutcome.{TransactionOutcome}
use Rattle.afr_client_transaction.specs.declared.reply.TransactionOutcome.TheVariants.{Acknowledged}

-- the new name is made where there is none; a refused read isn't tried again
abbrev pub against_new : Answer → Option Refusal
against_new (answer.Entry None) = None
against_new (answer.Entry (Some entry)) = Some Exists
against_new other = Some Failed

-- an entry leads to the file
abbrev pub is_same : Gfid → Entry → Bool
is_same file entry = if is_file entry.what then entry.gfid.0 == file.0 else false

-- the old name is removed where it leads to the file still; where it leads elsewhere, the file's name is gone
abbrev pub against_old : Gfid → Answer → Option Refusal
against_old file (answer.Entry (Some entry)) = if is_same file entry then None else Some NoEntry
against_old file (answer.Entry None) = Some NoEntry
against_old file other = Some Failed

-- a majority has done post-op
abbrev pub is_acknowledged : TransactionOutcome → Bool
is_acknowledged Acknowledged = true
is_acknowledged other = false

-- once the new name stands: the rename is carried out where the removal is acknowledged
abbrev pub half_reply : TransactionOutcome → Reply
half_reply ended = if is_acknowledged ended then reply.Ok good.Done else reply.Half
