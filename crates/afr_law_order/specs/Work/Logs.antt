-- In a log of a plan each client asks for its Work locks in rising order.
use Rattle.std.specs.Prelude.{◌≡◌, ℕ, ◌≤◌, Bool, ◌⊎◌, List, Some, slice_get}
use Rattle.afr_base.specs.declared.ids.ActorId.{ActorId}
use Rattle.afr_base.specs.declared.ids.BrickId.{BrickId}
use Rattle.afr_law_names.specs.Descent.Descent.{IsOfPlan}
use Rattle.afr_discipline.specs.Stands.{no_lines}
use Rattle.afr_discipline.specs.declared.register.Register.{Register}
use Rattle.afr_lines.specs.Places.{Fresh, Within, place_of}
use Rattle.afr_lines.specs.Work.{ended, work}
use Rattle.afr_lines.specs.declared.answer.Told.{Told}
use Rattle.afr_lines.specs.declared.line.Line.TheVariants.{Ask}
use Rattle.afr_lines.specs.declared.line.Line.{Line}
use Rattle.afr_lines.specs.declared.line.Next.TheVariants as next
use Rattle.afr_lines.specs.declared.request.Area.{Area}
use Rattle.afr_lines.specs.declared.request.Request.TheVariants.{Lock}
use Rattle.afr_model.specs.Actors.{script_of}
use Rattle.afr_plan.specs.declared.command.Command.{Command}
use Rattle.afr_plan.specs.declared.plan.Plan.{Plan}
use Rattle.afr_lines.specs.declared.lock.Domain.TheVariants.{Work as WorkDomain}
use Rattle.afr_law_bound.specs.Standstill.Order.{locks_at}
use Rattle.afr_law_next.specs.Turn.{Stood}
use Rattle.afr_law_bound.specs.Waiting.{RisesTo}
use Rattle.afr_law_order.specs.Work.Queue.{IsQueued}
use Rattle.afr_law_order.specs.Work.Rising.{LeadsDown}
use Rattle.afr_client.specs.Work.{IsWork, next_of, register_of}
use Rattle.afr_client.specs.declared.work.WorkMachine.{WorkMachine}
use Rattle.afr_law_heard.specs.Works.WorkTelling.{WorkTells}

-- in a work of the present command that the log shows, the directory of a removed name has a lesser number than the one that is removed with it
abbrev pub TellsLeadDown : Type 0
TellsLeadDown = (p : Plan) (log : List Line) (command : Command) (w : WorkMachine) (a : ℕ) → IsOfPlan p log → a ≤ 16 → slice_get (script_of p a) (ended a log) ≡ Some command → WorkTells p command w (work a log) → LeadsDown w

-- a register stands for the lines of its actor's present work, or is that of no lines before the first of them
abbrev pub IsNotedAt : Plan → ℕ → List Line → Register → Type 0
IsNotedAt p a log r = ((place_of a log ≡ Within) × Stood p.shape a log r) ⊎ ((place_of a log ≡ Fresh) × (r ≡ no_lines p.shape))

-- whatever is told of it, a client's next Work lock is above each that it holds by its lines
abbrev pub ClientRises : Type 0
ClientRises =
    (p : Plan) (log : List Line) (command : Command) (w : WorkMachine) (a : ActorId) (b : BrickId) (area : Area) (at : ℕ) → IsOfPlan p log → a.0 ≤ 16 → slice_get (script_of p a.0) (ended a.0 log) ≡ Some command → IsWork w → WorkTells p command w (work a.0 log) → IsNotedAt p a.0 log (register_of w) → IsQueued w
    → next_of at w ≡ next.Ask b (Lock WorkDomain area) → (told : Told) (took : Bool) → RisesTo p.shape.n (locks_at p a.0 (Ask a b (Lock WorkDomain area) told took) log) b.0 area
