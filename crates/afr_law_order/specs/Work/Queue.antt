-- In which order a client's work has asked for its locks: the bricks of each area in rising order.
use Rattle.std.specs.Prelude.{◌≡◌, ℕ}
use Rattle.afr_base.specs.declared.ids.BrickId.{BrickId}
use Rattle.afr_base.specs.declared.ids.Shape.{Shape}
use Rattle.afr_client_entry.specs.declared.stage.EntryStage.TheVariants as entering
use Rattle.afr_client_entry.specs.declared.stage.EntryStage.{EntryStage}
use Rattle.afr_client_write.specs.declared.stage.WriteStage.TheVariants as writing
use Rattle.afr_client_write.specs.declared.stage.WriteStage.{WriteStage}
use Rattle.afr_lines.specs.declared.answer.Answer.{Answer}
use Rattle.afr_lines.specs.declared.line.Heard.TheVariants as heard
use Rattle.afr_lines.specs.declared.line.Next.TheVariants as next
use Rattle.afr_lines.specs.declared.request.Request.{Request}
use Rattle.afr_object.specs.declared.change.Change.{Change}
use Rattle.afr_law_pace.proofs.Order.{Rises}
use Rattle.afr_law_pace.specs.Left as transaction
use Rattle.afr_plan.specs.declared.command.Command.{Command}
use Rattle.afr_law_order.specs.Queue as removal
use Rattle.afr_client_entry.specs.declared.renaming.stage.RenameStage.TheVariants as renaming
use Rattle.afr_client_entry.specs.declared.renaming.stage.RenameStage.{RenameStage}
use Rattle.afr_client_walk.specs.Choosing.{IsAmong}
use Rattle.afr_client.specs.Begin.{work_from}
use Rattle.afr_client.specs.Work.{IsWork, choices_of, heard_by, next_of}
use Rattle.afr_client.specs.declared.work.WorkMachine.TheVariants.{Entry, Idle, Lookup, Rename, Write}
use Rattle.afr_client.specs.declared.work.WorkMachine.{WorkMachine}

-- a write: of two bricks its transaction asked the lower one first
abbrev pub IsQueuedWrite : WriteStage → Type 0
IsQueuedWrite (writing.Changing t) = transaction.IsQueued t.stage t
IsQueuedWrite stage = Unit {0}

-- a command on a name: so did its transaction, and the bricks where the name is locked stand in rising order; and so did a removal that asks for its directory
abbrev pub IsQueuedEntry : EntryStage → Type 0
IsQueuedEntry (entering.Changing t found) = transaction.IsQueued t.stage t × Rises t.register.held
IsQueuedEntry (entering.Removes m) = removal.IsQueued m.stage m
IsQueuedEntry stage = Unit {0}

-- a rename: so did each of its transactions
abbrev pub IsQueuedRename : RenameStage → Type 0
IsQueuedRename (renaming.Making t found) = transaction.IsQueued t.stage t
IsQueuedRename (renaming.Removing t found) = transaction.IsQueued t.stage t
IsQueuedRename stage = Unit {0}

-- of two bricks a work asked the lower one first, for each lock that it takes
abbrev pub IsQueued : WorkMachine → Type 0
IsQueued Idle = Unit {0}
IsQueued (Lookup m) = Unit {0}
IsQueued (Write m) = IsQueuedWrite m.stage
IsQueued (Entry m) = IsQueuedEntry m.stage
IsQueued (Rename m) = IsQueuedRename m.stage

-- the work of a command begins so
abbrev pub WorkBeginsQueued : Type 0
WorkBeginsQueued = (shape : Shape) (c : Command) → IsQueued (work_from shape c)

-- and each answer keeps it so
abbrev pub WorkStaysQueued : Type 0
WorkStaysQueued =
    (w : WorkMachine) → IsWork w → IsQueued w → (at : ℕ) (b : BrickId) (request : Request) → next_of at w ≡ next.Ask b request → (chosen : BrickId) (a : Answer) → IsAmong (choices_of a at w) chosen
    → IsQueued (heard_by chosen (heard.Answer a at) w)

-- and the Begin line
abbrev pub WorkBegunQueued : Type 0
WorkBegunQueued = (w : WorkMachine) → IsWork w → IsQueued w → (at : ℕ) (change : Change) → next_of at w ≡ next.Begin change → (chosen : BrickId) → IsQueued (heard_by chosen (heard.Begun at) w)
