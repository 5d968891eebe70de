-- How many lines a client's work has left at most, whatever its bricks answer, in the words in which a log is counted.
use Rattle.std.specs.Prelude.{◌≡◌, ℕ, ◌+◌, ◌≤◌, ◌⊎◌, Bool}
use Rattle.afr_base.specs.declared.ids.ActorId.{ActorId}
use Rattle.afr_base.specs.declared.ids.BrickId.{BrickId}
use Rattle.afr_base.specs.declared.ids.Shape.{Shape}
use Rattle.afr_law_bound.specs.Ends.Cost.{cost_of, counted}
use Rattle.afr_law_pace.specs.Entry.Entries.{entry_left}
use Rattle.afr_lines.specs.Told.{told_by}
use Rattle.afr_lines.specs.declared.answer.Answer.{Answer}
use Rattle.afr_lines.specs.declared.answer.Told.TheVariants.{Done, Failed, NotConnected}
use Rattle.afr_lines.specs.declared.answer.Told.{Told}
use Rattle.afr_lines.specs.declared.line.Heard.TheVariants as heard
use Rattle.afr_lines.specs.declared.line.Line.TheVariants.{Ask, Begin}
use Rattle.afr_lines.specs.declared.line.Next.TheVariants as next
use Rattle.afr_lines.specs.declared.request.Request.TheVariants.{Unlock}
use Rattle.afr_lines.specs.declared.request.Request.{Request}
use Rattle.afr_object.specs.declared.change.Change.{Change}
use Rattle.afr_law_pace.specs.Lookups.{read_left}
use Rattle.afr_law_pace.specs.Writes.{write_left}
use Rattle.afr_plan.specs.declared.command.Command.{Command}
use Rattle.afr_client_walk.specs.Choosing.{IsAmong}
use Rattle.afr_client.specs.Begin.{work_from}
use Rattle.afr_client.specs.Work.{IsBusy, IsWork, choices_of, heard_by, next_of}
use Rattle.afr_law_pace.specs.Rename.Renames.{rename_left}
use Rattle.afr_client.specs.declared.work.WorkMachine.TheVariants.{Entry, Idle, Lookup, Rename, Write}
use Rattle.afr_client.specs.declared.work.WorkMachine.{WorkMachine}

-- the lines that a work has left, its end among them
abbrev pub work_left : WorkMachine → ℕ
work_left Idle = 0
work_left (Lookup m) = read_left m
work_left (Write m) = write_left m
work_left (Entry m) = entry_left m
work_left (Rename m) = rename_left m

-- the answers that an unlock may get
abbrev pub FitsUnlock : Request → Told → Type 0
FitsUnlock (Unlock domain area) told = (told ≡ Done) ⊎ (told ≡ NotConnected) ⊎ (told ≡ Failed)
FitsUnlock request told = Unit {0}

-- a request that is answered takes what its line counts
abbrev pub WorkComesNearer : Type 0
WorkComesNearer =
    (w : WorkMachine) → IsWork w → (at : ℕ) (b : BrickId) (request : Request) → next_of at w ≡ next.Ask b request → (chosen : BrickId) (a : Answer) → IsAmong (choices_of a at w) chosen → FitsUnlock request (told_by a)
    → (x : ActorId) (took : Bool) → work_left (heard_by chosen (heard.Answer a at) w) + counted (Ask x b request (told_by a) took) ≤ work_left w

-- and so does a Begin line
abbrev pub WorkBeginsNearer : Type 0
WorkBeginsNearer = (w : WorkMachine) (at : ℕ) (change : Change) → next_of at w ≡ next.Begin change → (chosen : BrickId) (x : ActorId) → work_left (heard_by chosen (heard.Begun at) w) + counted (Begin x change) ≤ work_left w

-- the end is left, and at the beginning no more than the cost of the command
abbrev pub WorkKeepsEnd : Type 0
WorkKeepsEnd = (w : WorkMachine) → IsBusy w → 1 ≤ work_left w

abbrev pub WorkStartsWithin : Type 0
WorkStartsWithin = (shape : Shape) (c : Command) → work_left (work_from shape c) ≤ cost_of shape.n c
