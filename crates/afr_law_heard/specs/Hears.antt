-- What the machines of a client hear, where answers are honest and moves are lawful, and what they bring.
use Rattle.std.specs.Prelude.{◌≡◌, ℕ, ◌<◌, ◌≤◌, Bool, true, List, None, length}
use Rattle.afr_base.specs.declared.ids.ActorId.{ActorId}
use Rattle.afr_base.specs.declared.ids.BrickId.{BrickId}
use Rattle.afr_client_read.specs.Lookup.{IsLookup, Lookup}
use Rattle.afr_client_read.specs.Lookup as reading
use Rattle.afr_law_client.specs.Read.Lines.{CanAnswer}
use Rattle.afr_law_client.specs.Read.ReadTelling.{ReadTells}
use Rattle.afr_client_write.specs.Write.{CarriesNext, IsWrite, Write}
use Rattle.afr_client_write.specs.Write as writing
use Rattle.afr_law.specs.Exactly.{IsLawfulExactly}
use Rattle.afr_law.specs.ModelNext.{MayAskNext}
use Rattle.afr_lines.specs.Told.{told_by}
use Rattle.afr_lines.specs.Work.{Work, work}
use Rattle.afr_lines.specs.declared.answer.Answer.{Answer}
use Rattle.afr_lines.specs.declared.answer.Told.TheVariants.{Given}
use Rattle.afr_lines.specs.declared.line.Line.{Line}
use Rattle.afr_lines.specs.declared.line.Line.TheVariants.{Ask}
use Rattle.afr_lines.specs.declared.line.Next.TheVariants as next
use Rattle.afr_lines.specs.declared.request.Request.{Request}
use Rattle.afr_model.specs.Honest.{Honest, IsHonest, answer_by}
use Rattle.afr_model.specs.Tables.{Past, held_before, holds}
use Rattle.afr_object.specs.declared.change.Change.{Change}
use Rattle.afr_object.specs.declared.change.Change.TheVariants.{Make, Remove}
use Rattle.afr_object.specs.declared.change.Load.{Load}
use Rattle.afr_object.specs.declared.change.Load.TheVariants as load
use Rattle.afr_plan.specs.declared.command.Command.{Command}
use Rattle.afr_plan.specs.declared.plan.Plan.{Plan}
use Rattle.afr_server.specs.Carried.{Brings}
use Rattle.afr_discipline.specs.Free.{is_free}
use Rattle.afr_law_client.specs.Write.WriteTelling.{CanHear, WriteTells}

-- after an honest log that keeps the discipline in full the request may be asked next, and this is its honest answer: what a read is given is what the brick's tables show
pub record IsHeard (p : Plan) (log : List Line) (a : ActorId) (b : BrickId) (request : Request) (heard : Answer) (took : Bool) : Type 0 where
  pub honest : Honest p log
  pub lawful : IsLawfulExactly p log
  pub short : length log < 4000000
  pub few : p.shape.n ≤ 5
  pub may : MayAskNext p a b request log
  pub said : IsHonest p (Ask a b request (told_by heard) took) log
  pub full : told_by heard ≡ Given → is_free request ≡ true → heard ≡ answer_by None request (holds p log b.0) log

-- a read hears what a brick may answer it
abbrev pub LookupHears : Type 0
LookupHears =
    (p : Plan) (m : Lookup) (log : List Line) (a : ActorId) (b : BrickId) (request : Request) (heard : Answer) (took : Bool)
    → IsLookup m.walk m.stage → ReadTells p m (work a.0 log) → reading.next_of m ≡ next.Ask b request → IsHeard p log a b request heard took → CanAnswer p b.0 request log heard

-- a change hears what a brick may answer it at its stage
abbrev pub WriteHears : Type 0
WriteHears =
    (p : Plan) (c : Command) (m : Write) (log : List Line) (a : ActorId) (b : BrickId) (request : Request) (heard : Answer) (took : Bool)
    → IsWrite m.walk m.stage → WriteTells p c m (work a.0 log) → writing.next_of (length log) m ≡ next.Ask b request → IsHeard p log a b request heard took
    → CanHear m.stage p m.walk.object b.0 request log heard

-- what goes with the next request of a change is what the log gives the request
abbrev pub WriteBrings : Type 0
WriteBrings =
    (p : Plan) (c : Command) (m : Write) (log : List Line) (a : ActorId) (b : BrickId) (request : Request) (carried : Load)
    → IsWrite m.walk m.stage → WriteTells p c m (work a.0 log) → writing.next_of (length log) m ≡ next.Ask b request → CarriesNext m.stage carried
    → Brings request carried log (held_before p log)

-- nothing has to go with a request of a read
abbrev pub LookupBrings : Type 0
LookupBrings = (m : Lookup) (log : List Line) (past : Past) (b : BrickId) (request : Request) → reading.next_of m ≡ next.Ask b request → Brings request load.Nothing log past

-- the change makes and removes no name: it is a write, a cut or a setattr
abbrev pub MakesNothing : Change → Type 0
MakesNothing (Make dir name g what) = ⊥
MakesNothing (Remove dir name what) = ⊥
MakesNothing change = Unit {0}

-- the change of a Begin line makes nothing
abbrev pub WriteMakesNothing : Type 0
WriteMakesNothing =
    (p : Plan) (c : Command) (m : Write) (lines : Work) (at : ℕ) (change : Change) → IsWrite m.walk m.stage → WriteTells p c m lines → writing.next_of at m ≡ next.Begin change → MakesNothing change
