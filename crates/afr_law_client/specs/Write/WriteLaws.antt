-- What holds of all changes and the lines of their works.
use Rattle.std.specs.Prelude.{◌≡◌, ℕ, ◌<◌, ◌≤◌, Bool, List, [], ◌∷◌, length}
use Rattle.afr_base.specs.declared.ids.ActorId.{ActorId}
use Rattle.afr_base.specs.declared.ids.BrickId.{BrickId}
use Rattle.afr_base.specs.declared.ids.NameId.{NameId}
use Rattle.afr_lines.specs.Told.{told_by}
use Rattle.afr_lines.specs.Work.{Work}
use Rattle.afr_lines.specs.declared.answer.Answer.{Answer}
use Rattle.afr_lines.specs.declared.answer.Told.{Told}
use Rattle.afr_lines.specs.declared.line.Heard.TheVariants as heard_of
use Rattle.afr_lines.specs.declared.line.Line.{Line}
use Rattle.afr_lines.specs.declared.line.Line.TheVariants.{Ask, Begin}
use Rattle.afr_lines.specs.declared.line.Next.TheVariants as next
use Rattle.afr_lines.specs.declared.reply.Reply.{Reply}
use Rattle.afr_lines.specs.declared.request.Request.{Request}
use Rattle.afr_object.specs.declared.change.Change.{Change}
use Rattle.afr_plan.specs.declared.command.Command.{Command}
use Rattle.afr_plan.specs.declared.plan.Plan.{Plan}
use Rattle.afr_model.specs.Answered.{IsAbout, IsAnswered}
use Rattle.afr_model.specs.Keeping.{KeepsTo}
use Rattle.afr_client_walk.specs.Choosing.{IsAmong}
use Rattle.afr_client_write.specs.Write.{Write, IsWrite, answered, choices_at, heard_by, next_of, write_from}
use Rattle.afr_client_write.specs.declared.job.WriteJob.{WriteJob}
use Rattle.afr_law_client.specs.About.{BlamesNext}
use Rattle.afr_law_client.specs.Laws.{IsNextLine}
use Rattle.afr_law_client.specs.Write.WriteTelling.{CanHear, WriteTells, command_of}

-- no lines show a change that begins
abbrev pub WriteBegins : Type 0
WriteBegins = (p : Plan) (path : List NameId) (job : WriteJob) → p.shape.n ≤ 5 → 0 < p.shape.n → WriteTells p (command_of job path) (write_from p.shape path job) []

-- after one line more, whatever was told and whichever good copy is read then, the lines show where the change stands
abbrev pub WriteTellsMore : Type 0
WriteTellsMore =
    (p : Plan) (c : Command) (m : Write) (lines : Work) (a : ActorId) (b : BrickId) (request : Request) (chosen : BrickId) (heard : Answer) (took : Bool) (log : List Line)
    → IsWrite m.walk m.stage → WriteTells p c m lines → next_of (length log) m ≡ next.Ask b request → CanHear m.stage p m.walk.object b.0 request log heard → IsAmong (choices_at m.stage heard m.walk) chosen
    → WriteTells p c (answered chosen heard (length log) m) ((Ask a b request (told_by heard) took, log) ∷ lines)

-- and so after the Begin line
abbrev pub WriteBegun : Type 0
WriteBegun =
    (p : Plan) (c : Command) (m : Write) (lines : Work) (a : ActorId) (change : Change) (chosen : BrickId) (log : List Line)
    → IsWrite m.walk m.stage → WriteTells p c m lines → next_of (length log) m ≡ next.Begin change → WriteTells p c (heard_by chosen (heard_of.Begun (length log)) m) ((Begin a change, log) ∷ lines)

-- the next line is about what the words of the command name, and keeps to them
abbrev pub WriteAbout : Type 0
WriteAbout =
    (p : Plan) (c : Command) (m : Write) (lines : Work) (a : ActorId) (told : Told) (line : Line) (log : List Line)
    → IsWrite m.walk m.stage → WriteTells p c m lines → IsNextLine a (next_of (length log) m) told line → IsAbout p c line lines × KeepsTo p c line (length log) lines

-- each post-op accuses exactly those that missed the operation, with the cause
abbrev pub WriteBlames : Type 0
WriteBlames = (p : Plan) (c : Command) (m : Write) (lines : Work) (at : ℕ) → IsWrite m.walk m.stage → WriteTells p c m lines → BlamesNext p lines (next_of at m)

-- the reply has its cause, one by views asked every brick, a failure was told by a brick, an undisturbed change is acknowledged, and nothing was skipped
abbrev pub WriteEnds : Type 0
WriteEnds = (p : Plan) (c : Command) (m : Write) (lines : Work) (at : ℕ) (said : Reply) → IsWrite m.walk m.stage → WriteTells p c m lines → next_of at m ≡ next.End said → IsAnswered p c lines said
