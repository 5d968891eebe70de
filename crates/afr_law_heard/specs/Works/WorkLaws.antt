-- What holds of all works and their lines.
use Rattle.std.specs.Prelude.{◌≡◌, ℕ, ◌<◌, ◌≤◌, Bool, true, List, [], ◌∷◌, length}
use Rattle.afr_base.specs.declared.ids.ActorId.{ActorId}
use Rattle.afr_base.specs.declared.ids.BrickId.{BrickId}
use Rattle.afr_lines.specs.Told.{told_by}
use Rattle.afr_lines.specs.Work.{work, Work as Lines}
use Rattle.afr_lines.specs.declared.answer.Answer.{Answer}
use Rattle.afr_lines.specs.declared.answer.Told.{Told}
use Rattle.afr_lines.specs.declared.line.Heard.TheVariants as heard_of
use Rattle.afr_lines.specs.declared.line.Line.{Line}
use Rattle.afr_lines.specs.declared.line.Line.TheVariants.{Ask, Begin, End}
use Rattle.afr_lines.specs.declared.line.Next.TheVariants as next
use Rattle.afr_lines.specs.declared.reply.Reply.{Reply}
use Rattle.afr_lines.specs.declared.request.Request.{Request}
use Rattle.afr_object.specs.declared.change.Change.{Change}
use Rattle.afr_plan.specs.declared.command.Command.{Command}
use Rattle.afr_plan.specs.declared.plan.Plan.{Plan}
use Rattle.afr_model.specs.Blamed.{Blames}
use Rattle.afr_model.specs.Following.{KeepsToCommand}
use Rattle.afr_model.specs.Kept.{IsKept}
use Rattle.afr_model.specs.Replied.{IsOf}
use Rattle.afr_law_client.specs.About.{BlamesNext}
use Rattle.afr_law_client.specs.Laws.{IsNextLine}
use Rattle.afr_client_walk.specs.Choosing.{IsAmong}
use Rattle.afr_client.specs.Begin.{has_machine, work_from}
use Rattle.afr_client.specs.Work.{IsWork, choices_of, heard_by, next_of}
use Rattle.afr_client.specs.declared.work.WorkMachine.{WorkMachine}
use Rattle.afr_law_heard.specs.Works.WorkTelling.{WorkHears, WorkTells}

-- no lines show a work that begins
abbrev pub WorkBegins : Type 0
WorkBegins = (p : Plan) (c : Command) → p.shape.n ≤ 5 → 0 < p.shape.n → has_machine c ≡ true → WorkTells p c (work_from p.shape c) []

-- after one line more, whatever was told and whichever good copy is read then, the lines show where the work stands
abbrev pub WorkTellsMore : Type 0
WorkTellsMore =
    (p : Plan) (c : Command) (w : WorkMachine) (lines : Lines) (a : ActorId) (b : BrickId) (request : Request) (chosen : BrickId) (heard : Answer) (took : Bool) (log : List Line)
    → IsWork w → WorkTells p c w lines → next_of (length log) w ≡ next.Ask b request → WorkHears w p b.0 request log heard → IsAmong (choices_of heard (length log) w) chosen
    → WorkTells p c (heard_by chosen (heard_of.Answer heard (length log)) w) ((Ask a b request (told_by heard) took, log) ∷ lines)

-- and so after the Begin line
abbrev pub WorkBegun : Type 0
WorkBegun =
    (p : Plan) (c : Command) (w : WorkMachine) (lines : Lines) (a : ActorId) (change : Change) (chosen : BrickId) (log : List Line)
    → IsWork w → WorkTells p c w lines → next_of (length log) w ≡ next.Begin change → WorkTells p c (heard_by chosen (heard_of.Begun (length log)) w) ((Begin a change, log) ∷ lines)

-- the next line is about what the words of the command name, and keeps to them
abbrev pub WorkAbout : Type 0
WorkAbout =
    (p : Plan) (c : Command) (w : WorkMachine) (lines : Lines) (a : ActorId) (told : Told) (line : Line) (log : List Line)
    → IsWork w → WorkTells p c w lines → IsNextLine a (next_of (length log) w) told line → IsOf p c line lines × KeepsToCommand p c line (length log) lines

-- each post-op accuses exactly those that missed the operation, with the cause
abbrev pub WorkBlames : Type 0
WorkBlames = (p : Plan) (c : Command) (w : WorkMachine) (lines : Lines) (at : ℕ) → IsWork w → WorkTells p c w lines → BlamesNext p lines (next_of at w)

-- so does the line itself, in the log
abbrev pub BlamedLines : Type 0
BlamedLines =
    (p : Plan) (c : Command) (w : WorkMachine) (a : ActorId) (told : Told) (line : Line) (log : List Line)
    → IsWork w → WorkTells p c w (work a.0 log) → IsNextLine a (next_of (length log) w) told line → Blames p line log

-- the reply has its cause, one by views asked every brick, a failure was told by a brick, an undisturbed change is acknowledged, and nothing was skipped
abbrev pub WorkEnds : Type 0
WorkEnds =
    (p : Plan) (c : Command) (w : WorkMachine) (lines : Lines) (at : ℕ) (said : Reply) → IsWork w → WorkTells p c w lines → next_of at w ≡ next.End said
    → (a : ActorId) → IsOf p c (End a said) lines × KeepsToCommand p c (End a said) at lines

-- a name is given up after a making only where the object that was made stands at a majority and the name leads to it
abbrev pub WorkKeepsName : Type 0
WorkKeepsName = (p : Plan) (c : Command) (w : WorkMachine) (a : ActorId) (change : Change) (log : List Line) → IsWork w → WorkTells p c w (work a.0 log) → next_of (length log) w ≡ next.Begin change → IsKept p (Begin a change) log
