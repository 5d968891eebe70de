-- The order in which the actors of a log ask for Work locks, and who waits for whom.
use Rattle.std.specs.Prelude.{◌≡◌, ℕ, ◌<◌, false, List}
use Rattle.afr_lines.specs.Log.{EachLine}
use Rattle.afr_lines.specs.Places.{opens, place_of}
use Rattle.afr_lines.specs.Work.{is_killed, kills}
use Rattle.afr_lines.specs.declared.answer.Told.TheVariants.{Held}
use Rattle.afr_lines.specs.declared.line.Line.TheVariants.{Ask, Event}
use Rattle.afr_lines.specs.declared.line.Line.{Line}
use Rattle.afr_lines.specs.declared.request.Area.{Area}
use Rattle.afr_lines.specs.declared.request.Request.TheVariants.{Lock}
use Rattle.afr_model.specs.Actors.{IsActor, is_done}
use Rattle.afr_model_moves.specs.Discipline.{in_force}
use Rattle.afr_model_moves.specs.Followed.{register_by}
use Rattle.afr_model_moves.specs.Rules.{Register, area_object}
use Rattle.afr_plan.specs.declared.plan.Plan.{Plan}
use Rattle.afr_lines.specs.declared.lock.Domain.TheVariants.{Work}
use Rattle.afr_law_tables.specs.Codes.{kept_by}
use Rattle.afr_law_bound.specs.Waiting.{Holds, RisesTo}

-- what an actor's lines show of its locks
abbrev pub locks_by : Plan → ℕ → List Line → Register
locks_by p a log = (register_by p.shape.n (kept_by p) a log).law

-- the same at a line, which may be the first of a work or a heal
abbrev pub locks_at : Plan → ℕ → Line → List Line → Register
locks_at p a line older = (in_force (opens (place_of a older) line) (register_by p.shape.n (kept_by p) a older)).law

-- a Work lock is asked above all that its actor holds: of a greater object, or of the same one on a higher brick
abbrev pub IsRisingLine : Plan → Line → List Line → Type 0
IsRisingLine p (Ask a b (Lock Work area) told took) older = RisesTo p.shape.n (locks_at p a.0 (Ask a b (Lock Work area) told took) older) b.0 area
IsRisingLine p line older = Unit {0}

-- so is each Work lock of the log
abbrev pub AreRising : Plan → List Line → Type 0
AreRising p log = EachLine (IsRisingLine p) log

-- an actor waits: it asked for a lock above all that it holds, and a living actor holds one of the same object there
pub record IsWaiting (p : Plan) (log : List Line) (a : ℕ) : Type 0 where
  pub b : ℕ
  pub below : b < p.shape.n
  pub area : Area
  pub rises : RisesTo p.shape.n (locks_by p a log) b area
  pub owner : ℕ
  pub taken : Area
  pub holds : Holds (locks_by p owner log) b taken
  pub same : area_object taken ≡ area_object area
  pub alive : is_killed owner log ≡ false

-- a line that tells of nothing done, and kills no actor that has something left to do
abbrev pub IsStillLine : Plan → Line → List Line → Type 0
IsStillLine p (Ask a b (Lock Work area) (Held owner) took) older = Unit {0}
IsStillLine p (Event event) older = (a : ℕ) → IsActor p a → is_done p a older ≡ false → kills a (Event event) ≡ false
IsStillLine p line older = ⊥
