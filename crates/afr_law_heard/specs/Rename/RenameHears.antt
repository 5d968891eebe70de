-- What the machine of a rename hears, where answers are honest, moves are lawful, and the log is its plan's; and what it brings.
use Rattle.std.specs.Prelude.{◌≡◌, ◌≤◌, Bool, List, Some, length}
use Rattle.afr_base.specs.declared.ids.ActorId.{ActorId}
use Rattle.afr_base.specs.declared.ids.BrickId.{BrickId}
use Rattle.afr_object.specs.declared.change.Change.{Change}
use Rattle.afr_object.specs.declared.change.Load.{Load}
use Rattle.afr_lines.specs.Work.{work}
use Rattle.afr_lines.specs.declared.answer.Answer.{Answer}
use Rattle.afr_lines.specs.declared.line.Line.{Line}
use Rattle.afr_lines.specs.declared.line.Line.TheVariants.{Begin}
use Rattle.afr_lines.specs.declared.line.Next.TheVariants as next
use Rattle.afr_lines.specs.declared.request.Request.{Request}
use Rattle.afr_plan.specs.declared.command.Command.{Command}
use Rattle.afr_plan.specs.declared.plan.Plan.{Plan}
use Rattle.afr_model.specs.Following.{Follows}
use Rattle.afr_model.specs.Honest.{Honest}
use Rattle.afr_model.specs.Tables.{held_before}
use Rattle.afr_model_moves.specs.Discipline.{BeginsKnown}
use Rattle.afr_model_moves.specs.Positions.{by_position}
use Rattle.afr_law.specs.Beginning.{start_of}
use Rattle.afr_law.specs.Exactly.{IsLawfulExactly, name_bound}
use Rattle.afr_server.specs.Carried.{Brings}
use Rattle.afr_client_entry.specs.Renames.Rename.{CarriesNext, IsRename, Renaming, next_of}
use Rattle.afr_law_client.specs.Rename.RenameTelling.{CanHear, RenameTells}
use Rattle.afr_law_heard.specs.Hears.{IsHeard}

-- it hears what a brick may answer it at its stage
abbrev pub RenameHears : Type 0
RenameHears =
    (p : Plan) (c : Command) (m : Renaming) (log : List Line) (a : ActorId) (b : BrickId) (request : Request) (heard : Answer) (took : Bool)
    → IsRename m.paths m.stage → RenameTells p c m (work a.0 log) → next_of (length log) m ≡ next.Ask b request → IsHeard p log a b request heard took → (crawl : Bool) → Follows crawl p log
    → CanHear m.stage p m.paths b.0 request log heard

-- what goes with its next request is what the log gives the request
abbrev pub RenameBrings : Type 0
RenameBrings =
    (p : Plan) (c : Command) (m : Renaming) (log : List Line) (a : ActorId) (b : BrickId) (request : Request) (carried : Load)
    → IsRename m.paths m.stage → RenameTells p c m (work a.0 log) → next_of (length log) m ≡ next.Ask b request → CarriesNext m.stage carried
    → Brings request carried log (held_before p log)

-- the object to which its Begin line gives a name is one that its work has found
abbrev pub RenameMakesKnown : Type 0
RenameMakesKnown =
    (p : Plan) (c : Command) (m : Renaming) (log : List Line) (a : ActorId) (change : Change) → p.shape.n ≤ 5 → length log ≤ 4000000 → Honest p log → IsLawfulExactly p log
    → IsRename m.paths m.stage → RenameTells p c m (work a.0 log) → next_of (length log) m ≡ next.Begin change
    → BeginsKnown (start_of p (name_bound p)) (by_position log) (length log) (Some (Begin a change))
