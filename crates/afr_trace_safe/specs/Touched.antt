-- The objects of which a line may leave a copy that isn't current, where each copy was before it.
use Rattle.std.specs.Prelude.{◌≡◌, ℕ, List, [], ◌∷◌, ◌++◌, Option, Some, None, slice_get, if◌then◌else◌}
use Rattle.afr_base.specs.declared.ids.Gfid.{Gfid}
use Rattle.afr_base.specs.declared.ids.NameId.{NameId}
use Rattle.afr_object.specs.Repairs.{repaired}
use Rattle.afr_object.specs.Tables.{object_of}
use Rattle.afr_object.specs.declared.change.Change.{Change}
use Rattle.afr_object.specs.declared.change.Change.TheVariants.{Make}
use Rattle.afr_object.specs.declared.change.Repair.{Repair}
use Rattle.afr_object.specs.declared.change.Repair.TheVariants.{PutNames}
use Rattle.afr_object.specs.declared.entry.Entry.{Entry}
use Rattle.afr_lines.specs.Log.{change_at, from_oldest}
use Rattle.afr_lines.specs.Work.{is_end, is_of}
use Rattle.afr_lines.specs.declared.line.Line.{Line}
use Rattle.afr_lines.specs.declared.line.Line.TheVariants.{Ask, Begin, End}
use Rattle.afr_lines.specs.declared.reply.Reply.{Reply}
use Rattle.afr_lines.specs.declared.reply.Reply.TheVariants.{Ok}
use Rattle.afr_lines.specs.declared.request.Request.{Request}
use Rattle.afr_lines.specs.declared.request.Request.TheVariants.{Apply, Mend, Settle}
use Rattle.afr_plan.specs.declared.plan.Plan.{Plan}
use Rattle.afr_model.specs.Safe.{IsSafe}
use Rattle.afr_model.specs.Sums.{has_object}
use Rattle.afr_model.specs.Tables.{held_before, names_shown}
use Rattle.afr_trace_safe.specs.Judged.{IsObjectSafe}

-- ---- objects that a brick gets
-- an object that the brick lacks
abbrev pub lacked : Plan → List Line → ℕ → Gfid → List Gfid
lacked p log b g = if has_object p log g b then [] else g ∷ []

-- those that some names lead to
abbrev pub all_lacked : Plan → List Line → ℕ → List (NameId × Entry) → List Gfid
all_lacked p log b [] = []
all_lacked p log b (x ∷ names) = lacked p log b x.1.gfid ++ all_lacked p log b names

-- those that the names lead to that a read line showed
abbrev pub read_objects : Plan → List Line → ℕ → Option ℕ → List Gfid
read_objects p log b None = []
read_objects p log b (Some k) = all_lacked p log b (names_shown (held_before p log) k (from_oldest k log))

-- the same of some read lines
abbrev pub all_read_objects : Plan → List Line → ℕ → List (Option ℕ) → List Gfid
all_read_objects p log b [] = []
all_read_objects p log b (read ∷ reads) = read_objects p log b read ++ all_read_objects p log b reads

-- those that a change makes
abbrev pub made_objects : Plan → List Line → ℕ → Change → List Gfid
made_objects p log b (Make dir name g what) = lacked p log b g
made_objects p log b change = []

-- those that a repair makes
abbrev pub named_objects : Plan → List Line → ℕ → Repair → List Gfid
named_objects p log b (PutNames g reads) = all_read_objects p log b reads
named_objects p log b repair = []

-- ---- by lines
-- what an attempt changes on a brick that carries it out
abbrev pub changed_objects : Plan → List Line → ℕ → Option Change → List Gfid
changed_objects p log b None = []
changed_objects p log b (Some change) = object_of change ∷ made_objects p log b change

-- what a request changes, or lets count as current again
abbrev pub asked_objects : Plan → List Line → ℕ → Request → List Gfid
asked_objects p log b (Apply attempt) = changed_objects p log b (change_at attempt log)
asked_objects p log b (Mend repair) = repaired repair ∷ named_objects p log b repair
asked_objects p log b (Settle g kind less) = g ∷ []
asked_objects p log b request = []

-- the object of the attempt that a line begins
abbrev pub begun_object : Line → List Gfid
begun_object (Begin actor change) = object_of change ∷ []
begun_object line = []

-- the objects of an actor's attempts so far, after one more line
abbrev pub begun_more : ℕ → Line → List Gfid → List Gfid
begun_more a line was = if is_of a line then (if is_end line then [] else was ++ begun_object line) else was

-- the objects of the attempts in its present work
abbrev pub begun_objects : ℕ → List Line → List Gfid
begun_objects a [] = []
begun_objects a (line ∷ older) = begun_more a line (begun_objects a older)

-- what a reply acknowledges
abbrev pub ended_objects : ℕ → List Line → Reply → List Gfid
ended_objects a log (Ok good) = begun_objects a log
ended_objects a log reply = []

-- the objects that a line touches, after the lines before it
abbrev pub touched : Plan → Line → List Line → List Gfid
touched p (Ask a b request told took) older = asked_objects p older b.0 request
touched p (End a reply) older = ended_objects a.0 older reply
touched p line older = []

-- ---- logs
-- each of some objects is safe
abbrev pub AreObjectsSafe : Plan → List Line → List Gfid → Type 0
AreObjectsSafe p log objects = (j : ℕ) (g : Gfid) → slice_get objects j ≡ Some g → IsObjectSafe p log g

-- the log before its last line was safe, and these are the objects that the line touches
abbrev pub WasSafe : Plan → List Line → List Gfid → Type 0
WasSafe p [] objects = Unit {0}
WasSafe p (line ∷ older) objects = IsSafe p older × (objects ≡ touched p line older)
