-- What holds of all reads and the lines of their works.
use Rattle.std.specs.Prelude.{◌≡◌, ℕ, ◌<◌, ◌≤◌, Bool, List, [], ◌∷◌}
use Rattle.afr_base.specs.declared.ids.ActorId.{ActorId}
use Rattle.afr_base.specs.declared.ids.BrickId.{BrickId}
use Rattle.afr_base.specs.declared.ids.NameId.{NameId}
use Rattle.afr_lines.specs.Told.{told_by}
use Rattle.afr_lines.specs.Work.{Work}
use Rattle.afr_lines.specs.declared.answer.Answer.{Answer}
use Rattle.afr_lines.specs.declared.answer.Told.{Told}
use Rattle.afr_lines.specs.declared.line.Line.{Line}
use Rattle.afr_lines.specs.declared.line.Line.TheVariants.{Ask}
use Rattle.afr_lines.specs.declared.line.Next.TheVariants as next
use Rattle.afr_lines.specs.declared.reply.Reply.{Reply}
use Rattle.afr_lines.specs.declared.request.Request.{Request}
use Rattle.afr_plan.specs.declared.plan.Plan.{Plan}
use Rattle.afr_model.specs.Answered.{IsAbout, IsAnswered}
use Rattle.afr_model.specs.Keeping.{KeepsTo}
use Rattle.afr_client_walk.specs.Choosing.{IsAmong}
use Rattle.afr_client_read.specs.Lookup.{Lookup, IsLookup, answered, choices_of, lookup_from, next_of}
use Rattle.afr_client_read.specs.declared.job.LookupJob.{LookupJob}
use Rattle.afr_law_client.specs.Read.Lines.{CanAnswer}
use Rattle.afr_law_client.specs.Read.ReadTelling.{ReadTells, command_of}

-- no lines show a read that begins
abbrev pub ReadBegins : Type 0
ReadBegins = (p : Plan) (path : List NameId) (job : LookupJob) → p.shape.n ≤ 5 → 0 < p.shape.n → ReadTells p (lookup_from p.shape path job) []

-- after one line more, whatever was told and whichever good copy is read then, the lines show where the read stands
abbrev pub ReadTellsMore : Type 0
ReadTellsMore =
    (p : Plan) (m : Lookup) (lines : Work) (a : ActorId) (b : BrickId) (request : Request) (chosen : BrickId) (heard : Answer) (took : Bool) (log : List Line) (at : ℕ)
    → IsLookup m.walk m.stage → ReadTells p m lines → next_of m ≡ next.Ask b request → CanAnswer p b.0 request log heard → IsAmong (choices_of heard m) chosen
    → ReadTells p (answered chosen heard at m) ((Ask a b request (told_by heard) took, log) ∷ lines)

-- the next line is about what the words of the command name, where its path stands
abbrev pub ReadAbout : Type 0
ReadAbout =
    (p : Plan) (m : Lookup) (lines : Work) (a : ActorId) (b : BrickId) (request : Request) (told : Told) (took : Bool)
    → IsLookup m.walk m.stage → ReadTells p m lines → next_of m ≡ next.Ask b request → IsAbout p (command_of m.job m.walk.path) (Ask a b request told took) lines

-- and keeps to them: names are read along its path
abbrev pub ReadFollows : Type 0
ReadFollows =
    (p : Plan) (m : Lookup) (lines : Work) (a : ActorId) (b : BrickId) (request : Request) (told : Told) (took : Bool) (at : ℕ)
    → IsLookup m.walk m.stage → ReadTells p m lines → next_of m ≡ next.Ask b request → KeepsTo p (command_of m.job m.walk.path) (Ask a b request told took) at lines

-- the reply has its cause, one by views asked every brick, a failure was told by a brick, and nothing was skipped
abbrev pub ReadEnds : Type 0
ReadEnds = (p : Plan) (m : Lookup) (lines : Work) (said : Reply) → ReadTells p m lines → next_of m ≡ next.End said → IsAnswered p (command_of m.job m.walk.path) lines said
