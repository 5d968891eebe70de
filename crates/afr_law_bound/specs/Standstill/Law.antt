-- In a log not everybody who has something left to do waits.
use Rattle.std.specs.Prelude.{◌≡◌, ℕ, ◌≤◌, Bool, false, true, List, ◌∷◌, length}
use Rattle.afr_base.specs.declared.ids.ActorId.{ActorId}
use Rattle.afr_base.specs.declared.ids.BrickId.{BrickId}
use Rattle.afr_lines.specs.Work.{is_of}
use Rattle.afr_lines.specs.declared.answer.Told.TheVariants.{Held}
use Rattle.afr_lines.specs.declared.line.Line.TheVariants.{Ask}
use Rattle.afr_lines.specs.declared.line.Line.{Line}
use Rattle.afr_lines.specs.declared.request.Area.{Area}
use Rattle.afr_lines.specs.declared.request.Request.TheVariants.{Lock}
use Rattle.afr_law.specs.Exactly.{IsLawfulExactly}
use Rattle.afr_model.specs.Actors.{IsActor, is_done}
use Rattle.afr_model.specs.Following.{Follows}
use Rattle.afr_model.specs.Honest.{Honest}
use Rattle.afr_plan.specs.declared.plan.Plan.{Plan}
use Rattle.afr_lines.specs.declared.lock.Domain.TheVariants.{Work}
use Rattle.afr_law_bound.specs.Standstill.Order.{AreRising, IsStillLine, IsWaiting}

-- what is presumed of a log
pub record IsPresumed (p : Plan) (log : List Line) : Type 0 where
  pub few : p.shape.n ≤ 5
  pub clients : length p.clients ≤ 16
  pub healers : length p.healers ≤ 3
  pub short : length log ≤ 4000000
  pub follows : Follows false p log
  pub honest : Honest p log
  pub lawful : IsLawfulExactly p log
  pub rising : AreRising p log

-- who is told that another holds its lock waits
abbrev pub HeldWaits : Type 0
HeldWaits = (p : Plan) (older : List Line) (a : ActorId) (b : BrickId) (area : Area) (owner : ActorId) (took : Bool) → IsPresumed p (Ask a b (Lock Work area) (Held owner) took ∷ older) → IsWaiting p (Ask a b (Lock Work area) (Held owner) took ∷ older) a.0

-- and waits on, as long as the lines of others tell of nothing done and kill nobody who has something left to do
abbrev pub WaitsOn : Type 0
WaitsOn = (p : Plan) (line : Line) (older : List Line) → IsPresumed p (line ∷ older) → IsStillLine p line older → (a : ℕ) → is_of a line ≡ false → IsWaiting p older a → IsWaiting p (line ∷ older) a

-- where each actor that has something left to do waits, no actor has
abbrev pub NotAllWait : Type 0
NotAllWait = (p : Plan) (log : List Line) → IsPresumed p log → ((a : ℕ) → IsActor p a → is_done p a log ≡ false → IsWaiting p log a) → (a : ℕ) → IsActor p a → is_done p a log ≡ true
