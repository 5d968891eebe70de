-- What the machine of a command on a name hears, where answers are honest, moves are lawful, and the log is its plan's; and what it brings.
use Rattle.std.specs.Prelude.{◌≡◌, ℕ, Bool, List, length}
use Rattle.afr_base.specs.declared.ids.ActorId.{ActorId}
use Rattle.afr_base.specs.declared.ids.BrickId.{BrickId}
use Rattle.afr_lines.specs.Work.{work}
use Rattle.afr_lines.specs.declared.answer.Answer.{Answer}
use Rattle.afr_lines.specs.declared.line.Line.{Line}
use Rattle.afr_lines.specs.declared.line.Next.TheVariants as next
use Rattle.afr_lines.specs.declared.request.Request.{Request}
use Rattle.afr_model.specs.Following.{Follows}
use Rattle.afr_model.specs.Tables.{held_before}
use Rattle.afr_law_next.specs.Begun.{HasNewGfid}
use Rattle.afr_object.specs.declared.change.Change.{Change}
use Rattle.afr_object.specs.declared.change.Load.{Load}
use Rattle.afr_plan.specs.declared.command.Command.{Command}
use Rattle.afr_plan.specs.declared.plan.Plan.{Plan}
use Rattle.afr_server.specs.Carried.{Brings}
use Rattle.afr_client_entry.specs.Entry.{CarriesNext, Entering, IsEntry, next_of}
use Rattle.afr_law_client.specs.Entry.EntryTelling.{CanHear, EntryTells}
use Rattle.afr_law_heard.specs.Hears.{IsHeard}

-- it hears what a brick may answer it at its stage
abbrev pub EntryHears : Type 0
EntryHears =
    (p : Plan) (c : Command) (m : Entering) (log : List Line) (a : ActorId) (b : BrickId) (request : Request) (heard : Answer) (took : Bool)
    → IsEntry m.walk m.job m.stage → EntryTells p c m (work a.0 log) → next_of (length log) m ≡ next.Ask b request → IsHeard p log a b request heard took → (crawl : Bool) → Follows crawl p log
    → CanHear m.stage p m.walk.object b.0 request log heard

-- what goes with its next request is what the log gives the request
abbrev pub EntryBrings : Type 0
EntryBrings =
    (p : Plan) (c : Command) (m : Entering) (log : List Line) (a : ActorId) (b : BrickId) (request : Request) (carried : Load)
    → IsEntry m.walk m.job m.stage → EntryTells p c m (work a.0 log) → next_of (length log) m ≡ next.Ask b request → CarriesNext m.stage carried
    → Brings request carried log (held_before p log)

-- an object that its Begin line makes has the number of the line's position
abbrev pub EntryMakesNew : Type 0
EntryMakesNew = (m : Entering) (at : ℕ) (change : Change) → IsEntry m.walk m.job m.stage → next_of at m ≡ next.Begin change → HasNewGfid at change
