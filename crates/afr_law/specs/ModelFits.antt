-- What the next line of an honest and lawful log asks of its brick, the brick can carry out.
use Rattle.std.specs.Prelude.{◌≡◌, ℕ, ◌<◌, ◌≤◌, true, List, length, Some}
use Rattle.afr_base.specs.declared.ids.ActorId.{ActorId}
use Rattle.afr_base.specs.declared.ids.BrickId.{BrickId}
use Rattle.afr_law_tables.specs.Fits.{FitsSums}
use Rattle.afr_lines.specs.Log.{EachLine, change_at}
use Rattle.afr_lines.specs.declared.line.Line.{Line}
use Rattle.afr_lines.specs.declared.line.Line.TheVariants.{Ask}
use Rattle.afr_lines.specs.declared.request.Request.{Request}
use Rattle.afr_lines.specs.declared.request.Request.TheVariants.{Apply, Mend, Post, Pre, Settle}
use Rattle.afr_model.specs.Honest.{Honest, IsHonest}
use Rattle.afr_model.specs.Sums.{AreSums, has_object}
use Rattle.afr_object.specs.Repairs.{repaired}
use Rattle.afr_object.specs.Tables.{object_of}
use Rattle.afr_object.specs.declared.change.Change.{Change}
use Rattle.afr_plan.specs.declared.plan.Plan.{Plan}
use Rattle.afr_law.specs.Exactly.{IsLawfulExactly}
use Rattle.afr_law.specs.ModelNext.{IsNext, MayAskNext, is_carried_out}
use Rattle.afr_law_tables.specs.Carrying.{CanCarry}

-- what the line's brick carried out, it could
abbrev pub CouldCarryOut : Plan → Line → List Line → Type 0
CouldCarryOut p (Ask a b request told took) older = took ≡ true → CanCarry p older b.0 request
CouldCarryOut p line older = Unit {0}

-- after an honest log that keeps the discipline in full, a line that keeps it and is told its honest answer can be carried out
abbrev pub ModelNextFits : Type 0
ModelNextFits =
    (p : Plan) (log : List Line) (line : Line) → p.shape.n ≤ 5 → length log < 4000000 → Honest p log → IsLawfulExactly p log
    → IsHonest p line log → IsNext p line log → CouldCarryOut p line log × FitsSums p line log

-- what the brick would carry out next, it can, before anybody knows what it tells
abbrev pub ModelNextCarries : Type 0
ModelNextCarries =
    (p : Plan) (log : List Line) (a : ActorId) (b : BrickId) (request : Request) → p.shape.n ≤ 5 → length log < 4000000 → Honest p log → IsLawfulExactly p log
    → MayAskNext p a b request log → is_carried_out p a b request log ≡ true → CanCarry p log b.0 request

-- the brick has the copy that the request changes
abbrev pub HasCopy : Plan → List Line → ℕ → Request → Type 0
HasCopy p log b (Pre g kind) = has_object p log g b ≡ true
HasCopy p log b (Apply attempt) = (change : Change) × (change_at attempt log ≡ Some change) × (has_object p log (object_of change) b ≡ true)
HasCopy p log b (Post attempt g kind missed) = has_object p log g b ≡ true
HasCopy p log b (Mend repair) = has_object p log (repaired repair) b ≡ true
HasCopy p log b (Settle g kind less) = has_object p log g b ≡ true
HasCopy p log b request = Unit {0}

-- where a request changes a copy, it is asked only where there is one: nobody is told that there is none
abbrev pub ModelNextFound : Type 0
ModelNextFound =
    (p : Plan) (log : List Line) (a : ActorId) (b : BrickId) (request : Request) → p.shape.n ≤ 5 → length log < 4000000 → Honest p log → IsLawfulExactly p log
    → MayAskNext p a b request log → HasCopy p log b.0 request

-- no line of such a log takes from numbers what isn't there, so the numbers of every copy are the sums of the log
abbrev pub ModelExactSums : Type 0
ModelExactSums = (p : Plan) (log : List Line) → p.shape.n ≤ 5 → length log ≤ 4000000 → Honest p log → IsLawfulExactly p log → EachLine (FitsSums p) log × AreSums p log
