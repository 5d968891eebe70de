-- What each line was told: what the brick's tables, locks and sessions at that moment give.
use Rattle.std.specs.Prelude.{◌≡◌, ℕ, suc, ◌+◌, ◌==◌, ◌&&◌, ◌||◌, Bool, true, false, List, [], ◌∷◌, Option, Some, None, take, drop, if◌then◌else◌}
use Rattle.std.specs.BTreeMap.{is_at}
use Rattle.std.specs.Map.{lookup}
use Rattle.afr_base.specs.declared.ids.ActorId.{ActorId}
use Rattle.afr_base.specs.declared.ids.BrickId.{BrickId}
use Rattle.afr_lines.specs.declared.fault.Fault.{Fault}
use Rattle.afr_lines.specs.declared.fault.Fault.TheVariants.{Fail, Lost}
use Rattle.afr_object.specs.Indexed.{index_of}
use Rattle.afr_object.specs.Tables.{Table, copy_at, key_cmp, name_cmp, view_of, object_of}
use Rattle.afr_object.specs.declared.change.Change.{Change}
use Rattle.afr_object.specs.Repairs.{repaired}
use Rattle.afr_object.specs.Object.{Object}
use Rattle.afr_lines.specs.Log.{EachLine, change_at}
use Rattle.afr_lines.specs.Told.{told_by}
use Rattle.afr_lines.specs.declared.answer.Answer.{Answer}
use Rattle.afr_lines.specs.declared.answer.Answer.TheVariants as answer
use Rattle.afr_lines.specs.declared.answer.Told.{Told}
use Rattle.afr_lines.specs.declared.answer.Told.TheVariants as told
use Rattle.afr_lines.specs.declared.line.Line.{Line}
use Rattle.afr_lines.specs.declared.line.Line.TheVariants.{Ask}
use Rattle.afr_lines.specs.declared.request.Request.{Request}
use Rattle.afr_lines.specs.declared.request.Request.TheVariants as request
use Rattle.afr_plan.specs.declared.plan.Plan.{Plan}
use Rattle.afr_plan.specs.declared.schedule.PlannedFault.{PlannedFault}
use Rattle.afr_model.specs.Tables.{holds}
use Rattle.afr_model.specs.Sessions.{is_joined, opens_with}
use Rattle.afr_lines.specs.Locks.{first_conflict}
use Rattle.afr_model.specs.Locks.{locks_held}
use Rattle.afr_lines.specs.Overlap.{overlap}

-- how many requests to brick b the log has, refused ones too
abbrev pub one_more : ℕ → Line → ℕ → ℕ
one_more b (Ask a y request told took) n = if y.0 == b then n + 1 else n
one_more b line n = n

-- how many requests brick b was asked
abbrev pub requests_to : ℕ → List Line → ℕ
requests_to b [] = 0
requests_to b (line ∷ older) = one_more b line (requests_to b older)

-- what the plan has for the k-th request to brick b
abbrev pub fault_in : List PlannedFault → ℕ → ℕ → Option Fault
fault_in [] b k = None
fault_in (x ∷ more) b k = if (x.brick.0 == b) && (x.at == k) then Some x.fault else fault_in more b k

-- the answer to a lock: who is in the way, or that it is granted
abbrev pub lock_answer : Option ActorId → Answer
lock_answer None = answer.Granted
lock_answer (Some owner) = answer.Held owner

-- the answer that a copy gives, or that the brick lacks the object
abbrev pub copy_answer : (Object → Answer) → Option Object → Answer
copy_answer f None = answer.NoObject
copy_answer f (Some o) = f o

-- the copy that an attempt's change is of
abbrev pub copy_for : Option Change → Table → Option Object
copy_for None t = None
copy_for (Some change) t = copy_at (object_of change) t

-- what a brick that carries a request out answers, by its tables, and by who is in the way of a lock
abbrev pub answer_by : Option ActorId → Request → Table → List Line → Answer
answer_by way (request.Lock domain area) t older = lock_answer way
answer_by way (request.Unlock domain area) t older = answer.Done
answer_by way (request.Look g) t older = copy_answer (λ o. answer.Seen (view_of o)) (copy_at g t)
answer_by way (request.ReadBytes g at len) t older = copy_answer (λ o. answer.Bytes (take len (drop at o.content))) (copy_at g t)
answer_by way (request.ReadName g name) t older = copy_answer (λ o. answer.Entry (lookup (is_at (name_cmp name)) o.names)) (copy_at g t)
answer_by way (request.List g) t older = copy_answer (λ o. answer.Names o.names) (copy_at g t)
answer_by way (request.ReadAttr g key) t older = copy_answer (λ o. answer.Value (lookup (is_at (key_cmp key)) o.attrs)) (copy_at g t)
answer_by way (request.ReadAttrs g) t older = copy_answer (λ o. answer.Attrs o.attrs) (copy_at g t)
answer_by way request.Index t older = answer.Index (index_of t)
answer_by way (request.Pre g kind) t older = copy_answer (λ o. answer.Done) (copy_at g t)
answer_by way (request.Apply attempt) t older = copy_answer (λ o. answer.Done) (copy_for (change_at attempt older) t)
answer_by way (request.Post attempt g kind missed) t older = copy_answer (λ o. answer.Done) (copy_at g t)
answer_by way (request.Mend repair) t older = copy_answer (λ o. answer.Done) (copy_at (repaired repair) t)
answer_by way (request.Settle g kind less) t older = copy_answer (λ o. answer.Done) (copy_at g t)

-- who is in the way of a request: for a lock, the owner of the earliest one that conflicts
abbrev pub in_the_way : ActorId → Request → ℕ → List Line → Option ActorId
in_the_way a (request.Lock domain area) b older = first_conflict overlap (record { owner = a; domain = domain; area = area }) (locks_held b older)
in_the_way a other b older = None

-- what the log keeps of the answer
abbrev pub tells : ActorId → Request → ℕ → Table → List Line → Told
tells a request b t older = told_by (answer_by (in_the_way a request b older) request t older)

-- what is told, and whether the brick carried the request out
pub record RequestOutcome : Type 0 where
  pub told : Told
  pub took : Bool

-- by the fault that the plan has for a request over a live session: refused, carried out with its answer lost, or carried out and answered
abbrev pub faulted : Option Fault → Told → RequestOutcome
faulted (Some Fail) said = record { told = told.Failed; took = false }
faulted (Some Lost) said = record { told = told.NotConnected; took = true }
faulted None said = record { told = said; took = true }

-- by the session: without a live one nothing is carried out
abbrev pub over_session : Bool → Option Fault → Told → RequestOutcome
over_session live fault said = if live then faulted fault said else record { told = told.NotConnected; took = false }

-- whether the session of the line's actor with the brick is live, be it by this line
abbrev pub is_live : Plan → ActorId → ℕ → Line → List Line → Bool
is_live p a b line older = is_joined p a.0 b older || opens_with p a.0 b line older

-- what the brick's tables, locks and sessions, and the plan's faults, give for a request
abbrev pub outcome_of : Plan → ActorId → ℕ → Request → Line → List Line → RequestOutcome
outcome_of p a b request line older = over_session (is_live p a b line older) (fault_in p.faults b (suc (requests_to b older))) (tells a request b (holds p older b) older)

-- a line was told what its brick then gives
abbrev pub IsHonest : Plan → Line → List Line → Type 0
IsHonest p (Ask a b request told took) older = (record { told = told; took = took }) ≡ outcome_of p a b.0 request (Ask a b request told took) older
IsHonest p line older = Unit {0}

-- each line of the log was told what its brick then gave
abbrev pub Honest : Plan → List Line → Type 0
Honest p log = EachLine (IsHonest p) log

-- a request that is not told yet
abbrev pub asking : ActorId → BrickId → Request → Line
asking a b request = Ask a b request told.NotConnected false
