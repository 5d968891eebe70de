-- What holds of all walks and the lines of their works, whatever command walks.
use Rattle.std.specs.Prelude.{◌≡◌, ℕ, Bool, true, false, List, [], ◌∷◌, None, length}
use Rattle.afr_base.specs.declared.ids.ActorId.{ActorId}
use Rattle.afr_base.specs.declared.ids.BrickId.{BrickId}
use Rattle.afr_base.specs.declared.ids.Gfid.{Gfid}
use Rattle.afr_base.specs.declared.ids.NameId.{NameId}
use Rattle.afr_lines.specs.Told.{told_by}
use Rattle.afr_lines.specs.Work.{Work}
use Rattle.afr_lines.specs.declared.answer.Answer.{Answer}
use Rattle.afr_lines.specs.declared.answer.Told.{Told}
use Rattle.afr_lines.specs.declared.line.Line.{Line}
use Rattle.afr_lines.specs.declared.line.Line.TheVariants.{Ask}
use Rattle.afr_lines.specs.declared.request.Area.{Area}
use Rattle.afr_plan.specs.declared.command.Command.{Command}
use Rattle.afr_plan.specs.declared.plan.Plan.{Plan}
use Rattle.afr_model.specs.Answered.{IsAbout, IsAnswered}
use Rattle.afr_model.specs.Commands.{path_of, is_on_name}
use Rattle.afr_model.specs.Keeping.{KeepsTo}
use Rattle.afr_model.specs.Refusals.{too_large}
use Rattle.afr_model.specs.Showing.{among, applied_at, applying, begins_attempt, begun_by, has, is_faulted, locks, posted, posting, prepared, preparing}
use Rattle.afr_model.specs.Standing.{asking, change_by, getting, locks_any, locks_area}
use Rattle.afr_client_walk.specs.Choosing.{IsAmong}
use Rattle.afr_client_walk.specs.Stops.{reply_of}
use Rattle.afr_client_walk.specs.Walk.{IsWalk, choices_of, is_walking, next_in, walk_from, walked}
use Rattle.afr_client_walk.specs.declared.stop.Stop.{Stop}
use Rattle.afr_client_walk.specs.declared.walk.Walk.{Walk}
use Rattle.afr_client_walk.specs.declared.walk.WalkStep.TheVariants.{Arrived, Stopped}
use Rattle.afr_law_client.specs.Read.Lines.{CanAnswer, LookedAll, OnlyReads}
use Rattle.afr_law_client.specs.Read.WalkTelling.{GoesOn, WalkTells}

-- no lines show a walk that begins
abbrev pub WalkBegins : Type 0
WalkBegins = (p : Plan) (c : Command) (names : List NameId) → is_on_name c ≡ false → names ≡ path_of c → WalkTells p c (walk_from p.shape names) []

-- after one line more, whatever was told and whichever good copy is read then, the lines show where the walk stands
abbrev pub WalkTellsMore : Type 0
WalkTellsMore =
    (p : Plan) (c : Command) (w : Walk) (lines : Work) (a : ActorId) (chosen : BrickId) (heard : Answer) (took : Bool) (log : List Line) (at : ℕ)
    → IsWalk w → is_walking w.step ≡ true → WalkTells p c w lines → CanAnswer p (next_in w).0.0 (next_in w).1 log heard → IsAmong (choices_of heard w) chosen
    → WalkTells p c (walked chosen heard at w) ((Ask a (next_in w).0 (next_in w).1 (told_by heard) took, log) ∷ lines)

-- the next line of a walk is about the command, and reads the next name of its path
abbrev pub WalkAbout : Type 0
WalkAbout =
    (p : Plan) (c : Command) (w : Walk) (lines : Work) (a : ActorId) (told : Told) (took : Bool) (at : ℕ)
    → IsWalk w → is_walking w.step ≡ true → WalkTells p c w lines → too_large c ≡ None
    → IsAbout p c (Ask a (next_in w).0 (next_in w).1 told took) lines × KeepsTo p c (Ask a (next_in w).0 (next_in w).1 told took) at lines

-- a walk that stops ends its command
abbrev pub WalkStops : Type 0
WalkStops = (p : Plan) (c : Command) (w : Walk) (lines : Work) (why : Stop) → WalkTells p c w lines → w.step ≡ Stopped why → too_large c ≡ None → IsAnswered p c lines (reply_of why)

-- the lines have locked nothing, begun nothing and asked for no phase
pub record IsUntouched (w : Work) : Type 0 where
  pub unbegun : has begins_attempt w ≡ false
  pub unnumbered : begun_by w ≡ None
  pub unchanged : change_by w ≡ None
  pub unfaulted : is_faulted w ≡ false
  pub none_locked : has locks_any w ≡ false
  pub area_unlocked : (area : Area) → has (locks_area area) w ≡ false
  pub object_unlocked : (g : Gfid) → has (locks g) w ≡ false
  pub none_asked : (area : Area) → among (asking area) w ≡ []
  pub none_granted : (area : Area) → among (getting area) w ≡ []
  pub none_preparing : among preparing w ≡ []
  pub none_prepared : among prepared w ≡ []
  pub none_applying : among applying w ≡ []
  pub none_applied : among applied_at w ≡ []
  pub none_posting : among posting w ≡ []
  pub none_posted : among posted w ≡ []

-- a walk that has arrived: its path is whole, every object on it was looked at on every brick, and nothing else was done
pub record HasArrived (p : Plan) (c : Command) (w : Walk) (lines : Work) : Type 0 where
  pub goes : GoesOn p w.read w.object lines
  pub whole : w.read ≡ length (path_of c)
  pub all : LookedAll p.shape.n lines
  pub untouched : IsUntouched lines

-- so it is of every walk that arrives
abbrev pub WalkArrives : Type 0
WalkArrives = (p : Plan) (c : Command) (w : Walk) (lines : Work) → IsWalk w → WalkTells p c w lines → w.step ≡ Arrived → HasArrived p c w lines

-- a work that only looks and reads touches nothing
abbrev pub ReadsTouchNothing : Type 0
ReadsTouchNothing = (n : ℕ) (w : Work) → OnlyReads n w → IsUntouched w
