-- What holds of each rename and the lines of its work.
use Rattle.std.specs.Prelude.{◌≡◌, ℕ, ◌<◌, ◌≤◌, Bool, List, [], ◌∷◌, length}
use Rattle.afr_base.specs.declared.ids.ActorId.{ActorId}
use Rattle.afr_base.specs.declared.ids.BrickId.{BrickId}
use Rattle.afr_base.specs.declared.ids.NameId.{NameId}
use Rattle.afr_lines.specs.Told.{told_by}
use Rattle.afr_lines.specs.Work.{Work, work}
use Rattle.afr_lines.specs.declared.answer.Answer.{Answer}
use Rattle.afr_lines.specs.declared.answer.Told.{Told}
use Rattle.afr_lines.specs.declared.line.Heard.TheVariants as heard_of
use Rattle.afr_lines.specs.declared.line.Line.{Line}
use Rattle.afr_lines.specs.declared.line.Line.TheVariants.{Ask, Begin}
use Rattle.afr_lines.specs.declared.line.Next.TheVariants as next
use Rattle.afr_lines.specs.declared.reply.Reply.{Reply}
use Rattle.afr_lines.specs.declared.request.Request.{Request}
use Rattle.afr_object.specs.declared.change.Change.{Change}
use Rattle.afr_plan.specs.declared.command.Command.{Command}
use Rattle.afr_plan.specs.declared.command.Command.TheVariants as command
use Rattle.afr_plan.specs.declared.plan.Plan.{Plan}
use Rattle.afr_model.specs.Following.{KeepsToCommand}
use Rattle.afr_model.specs.Kept.{IsKept}
use Rattle.afr_model.specs.Renamed.{IsRenamed}
use Rattle.afr_model.specs.Replied.{IsOf}
use Rattle.afr_client_walk.specs.Choosing.{IsAmong}
use Rattle.afr_client_entry.specs.Renames.Rename.{IsRename, Renaming, answered, choices_at, heard_by, next_of, rename_from}
use Rattle.afr_law_client.specs.About.{BlamesNext}
use Rattle.afr_law_client.specs.Laws.{IsNextLine}
use Rattle.afr_law_client.specs.Rename.RenameTelling.{CanHear, RenameTells, to_of}

-- no lines show a rename that begins
abbrev pub RenameBegins : Type 0
RenameBegins = (p : Plan) (from to : List NameId) → p.shape.n ≤ 5 → 0 < p.shape.n → 0 < length from → 0 < length to → RenameTells p (command.Rename from to) (rename_from p.shape from to) []

-- after one line more, whatever was told and whichever good copy is read then, the lines show where the rename stands
abbrev pub RenameTellsMore : Type 0
RenameTellsMore =
    (p : Plan) (c : Command) (m : Renaming) (lines : Work) (a : ActorId) (b : BrickId) (request : Request) (chosen : BrickId) (heard : Answer) (took : Bool) (log : List Line)
    → IsRename m.paths m.stage → RenameTells p c m lines → next_of (length log) m ≡ next.Ask b request → CanHear m.stage p m.paths b.0 request log heard → IsAmong (choices_at m.stage heard (length log) m.paths) chosen
    → RenameTells p c (answered chosen heard (length log) m) ((Ask a b request (told_by heard) took, log) ∷ lines)

-- and so after each Begin line
abbrev pub RenameBegun : Type 0
RenameBegun =
    (p : Plan) (c : Command) (m : Renaming) (lines : Work) (a : ActorId) (change : Change) (chosen : BrickId) (log : List Line)
    → IsRename m.paths m.stage → RenameTells p c m lines → next_of (length log) m ≡ next.Begin change → RenameTells p c (heard_by chosen (heard_of.Begun (length log)) m) ((Begin a change, log) ∷ lines)

-- the next line is about what the two paths name, and keeps to them
abbrev pub RenameAbout : Type 0
RenameAbout =
    (p : Plan) (c : Command) (m : Renaming) (lines : Work) (a : ActorId) (told : Told) (line : Line) (log : List Line)
    → IsRename m.paths m.stage → RenameTells p c m lines → IsNextLine a (next_of (length log) m) told line → IsOf p c line lines × KeepsToCommand p c line (length log) lines

-- each post-op accuses exactly those that missed the operation, with the cause
abbrev pub RenameBlames : Type 0
RenameBlames = (p : Plan) (c : Command) (m : Renaming) (lines : Work) (at : ℕ) → IsRename m.paths m.stage → RenameTells p c m lines → BlamesNext p lines (next_of at m)

-- the reply has its cause, and nothing was skipped
abbrev pub RenameEnds : Type 0
RenameEnds =
    (p : Plan) (c : Command) (m : Renaming) (lines : Work) (at : ℕ) (said : Reply) → IsRename m.paths m.stage → RenameTells p c m lines → next_of at m ≡ next.End said
    → IsRenamed p m.paths.first.path (to_of m.paths) lines said

-- the old name is given up only once the new one stands at a majority, and while it leads to the file
abbrev pub RenameKeepsName : Type 0
RenameKeepsName =
    (p : Plan) (c : Command) (m : Renaming) (log : List Line) (a : ActorId) (change : Change)
    → IsRename m.paths m.stage → RenameTells p c m (work a.0 log) → next_of (length log) m ≡ next.Begin change → IsKept p (Begin a change) log
