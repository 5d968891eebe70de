-- What holds of each command on a name and the lines of its work.
use Rattle.std.specs.Prelude.{◌≡◌, ℕ, ◌<◌, ◌≤◌, Bool, List, [], ◌∷◌, length}
use Rattle.afr_base.specs.declared.ids.ActorId.{ActorId}
use Rattle.afr_base.specs.declared.ids.BrickId.{BrickId}
use Rattle.afr_base.specs.declared.ids.NameId.{NameId}
use Rattle.afr_lines.specs.Told.{told_by}
use Rattle.afr_lines.specs.Work.{Work}
use Rattle.afr_lines.specs.declared.answer.Answer.{Answer}
use Rattle.afr_lines.specs.declared.answer.Told.{Told}
use Rattle.afr_lines.specs.declared.line.Heard.TheVariants as heard_of
use Rattle.afr_lines.specs.declared.line.Line.{Line}
use Rattle.afr_lines.specs.declared.line.Line.TheVariants.{Ask, Begin}
use Rattle.afr_lines.specs.declared.line.Next.TheVariants as next
use Rattle.afr_lines.specs.declared.reply.Reply.{Reply}
use Rattle.afr_lines.specs.declared.request.Request.{Request}
use Rattle.afr_object.specs.declared.change.Change.{Change}
use Rattle.afr_plan.specs.declared.command.Command.{Command}
use Rattle.afr_plan.specs.declared.plan.Plan.{Plan}
use Rattle.afr_model.specs.Answered.{IsAbout, IsAnswered}
use Rattle.afr_model.specs.Keeping.{KeepsTo}
use Rattle.afr_client_walk.specs.Choosing.{IsAmong}
use Rattle.afr_client_entry.specs.Entry.{Entering, IsEntry, answered, choices_at, entry_from, heard_by, next_of}
use Rattle.afr_client_entry.specs.declared.job.EntryJob.{EntryJob}
use Rattle.afr_law_client.specs.About.{BlamesNext}
use Rattle.afr_law_client.specs.Laws.{IsNextLine}
use Rattle.afr_law_client.specs.Entry.EntryTelling.{CanHear, EntryTells, command_of}

-- no lines show a command that begins
abbrev pub EntryBegins : Type 0
EntryBegins = (p : Plan) (path : List NameId) (job : EntryJob) → p.shape.n ≤ 5 → 0 < p.shape.n → EntryTells p (command_of job path) (entry_from p.shape path job) []

-- after one line more, whatever was told and whichever good copy is read then, the lines show where the command stands
abbrev pub EntryTellsMore : Type 0
EntryTellsMore =
    (p : Plan) (c : Command) (m : Entering) (lines : Work) (a : ActorId) (b : BrickId) (request : Request) (chosen : BrickId) (heard : Answer) (took : Bool) (log : List Line)
    → IsEntry m.walk m.job m.stage → EntryTells p c m lines → next_of (length log) m ≡ next.Ask b request → CanHear m.stage p m.walk.object b.0 request log heard → IsAmong (choices_at m.stage heard (length log) m.walk) chosen
    → EntryTells p c (answered chosen heard (length log) m) ((Ask a b request (told_by heard) took, log) ∷ lines)

-- and so after the Begin line
abbrev pub EntryBegun : Type 0
EntryBegun =
    (p : Plan) (c : Command) (m : Entering) (lines : Work) (a : ActorId) (change : Change) (chosen : BrickId) (log : List Line)
    → IsEntry m.walk m.job m.stage → EntryTells p c m lines → next_of (length log) m ≡ next.Begin change → EntryTells p c (heard_by chosen (heard_of.Begun (length log)) m) ((Begin a change, log) ∷ lines)

-- the next line is about what the words of the command name, and keeps to them
abbrev pub EntryAbout : Type 0
EntryAbout =
    (p : Plan) (c : Command) (m : Entering) (lines : Work) (a : ActorId) (told : Told) (line : Line) (log : List Line)
    → IsEntry m.walk m.job m.stage → EntryTells p c m lines → IsNextLine a (next_of (length log) m) told line → IsAbout p c line lines × KeepsTo p c line (length log) lines

-- each post-op accuses exactly those that missed the operation, with the cause
abbrev pub EntryBlames : Type 0
EntryBlames = (p : Plan) (c : Command) (m : Entering) (lines : Work) (at : ℕ) → IsEntry m.walk m.job m.stage → EntryTells p c m lines → BlamesNext p lines (next_of at m)

-- the reply has its cause, one by views asked every brick, a failure was told by a brick, an undisturbed change is acknowledged, and nothing was skipped
abbrev pub EntryEnds : Type 0
EntryEnds = (p : Plan) (c : Command) (m : Entering) (lines : Work) (at : ℕ) (said : Reply) → IsEntry m.walk m.job m.stage → EntryTells p c m lines → next_of at m ≡ next.End said → IsAnswered p c lines said
