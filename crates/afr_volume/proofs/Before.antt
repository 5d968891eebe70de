-- What is known of the log and of an actor's work before its next line.
use Rattle.std.proofs.Common.{◌≡◌, ℕ, ◌+◌, ◌<◌, ◌≤◌, Bool, true, false, not, List, sym, ap, arith, subst, length}
use Rattle.afr_base.specs.declared.ids.ActorId.{ActorId}
use Rattle.afr_base.specs.declared.ids.BrickId.{BrickId}
use Rattle.afr_discipline.specs.declared.register.Register.{Register}
use Rattle.afr_law.specs.Exactly.{IsLawfulExactly}
use Rattle.afr_law.specs.ModelNext.{asking}
use Rattle.afr_lines.specs.Places.{Place, opens, place_of}
use Rattle.afr_lines.specs.declared.line.Line.{Line}
use Rattle.afr_lines.specs.declared.line.Line.TheVariants.{Ask}
use Rattle.afr_lines.specs.declared.line.Next.TheVariants as next
use Rattle.afr_lines.specs.declared.request.Request.{Request}
use Rattle.afr_model.specs.Actors.{Client, Healer, IsActor}
use Rattle.afr_model.specs.Following.{Follows}
use Rattle.afr_model.specs.Honest.{Honest}
use Rattle.afr_model.specs.Tables.{held_before}
use Rattle.afr_object.specs.declared.change.Load.{Load}
use Rattle.afr_plan.specs.declared.plan.Plan.{Plan}
use Rattle.afr_healer.proofs.BeforeAsks.{AskLaws, AsksNext, IsBeforeAsk}
use Rattle.afr_server.specs.Carried.{Brings}
use Rattle.afr_server.specs.Serving.{Serving}
use Rattle.afr_servers.specs.Log.{AreServed}
use Rattle.afr_servers.specs.declared.epochs.Epochs.{Epochs}
use Rattle.afr_law_next.specs.Turn.{InForce}
use Rattle.afr_client.specs.Work.{CarriesNext, next_of, register_of}
use Rattle.afr_client.specs.declared.work.WorkMachine.{WorkMachine}
use Rattle.afr_client.specs.declared.work.WorkMachine.TheVariants.{Entry, Idle, Lookup, Rename, Write}
use Rattle.afr_volume.specs.Keeping.{CanRun, CarriesOutCommand, IsNoted}
use Rattle.afr_volume.specs.Laws.{Laws}

-- what holds before any line of a client
pub record IsBefore (p : Plan) (a : ActorId) (log : List Line) (servers : List Serving) : Type 0 where
  pub runnable : CanRun p
  pub room : length log < p.turns
  pub served : AreServed p log servers
  pub crawl : Bool
  pub follows : Follows crawl p log
  pub honest : Honest p log
  pub lawful : IsLawfulExactly p log
  pub one : 1 ≤ a.0
  pub client : a.0 ≤ 16

-- an actor up to number 16 is a client, and one above is a healer
pub client_is : (p : Plan) (a : ℕ) → CanRun p → a ≤ 16 → IsActor p a → (1 ≤ a) × (a ≤ length p.clients) × (a ≤ 16)
client_is p a run low (Client one most) = (one, most, omega (arith, most, run.clients))
client_is p a run low (Healer high most) = absurd (omega (arith, low, high))

pub healer_is : (p : Plan) (a : ℕ) → CanRun p → (a ≤ 16 → ⊥) → IsActor p a → (17 ≤ a) × (a ≤ 16 + length p.healers) × (a < 20)
healer_is p a run high (Client one most) = absurd (high (omega (arith, most, run.clients)))
healer_is p a run high (Healer low most) = (low, most, omega (arith, most, run.healers))

-- ---- the register and the sessions at the next line
pub opened : (met : Bool) (p : Plan) (a : ℕ) (log : List Line) (r : Register) (line : Line) → IsNoted met p.shape a log r → opens (place_of a log) line ≡ not met
opened true p a log r line k = ap (λ (place : Place). opens place line) k.0
opened false p a log r line k = ap (λ (place : Place). opens place line) k.0

-- ---- what a request of any actor rests on
pub ask_laws : Laws → AskLaws
ask_laws laws = record {
  asks = laws.next.asks;
  noted = laws.next.noted;
  lawful = laws.next.lawful;
  ready = laws.next.ready;
  needs = laws.servers.needs;
  asked = laws.servers.asked;
  answers = laws.servers.answers;
}

module _ (laws : Laws) (p : Plan) (a : ActorId) (log : List Line) (servers : List Serving) (before : IsBefore p a log servers) where
  pub in_force : (met : Bool) (r : Register) (line : Line) → IsNoted met p.shape a.0 log r → InForce p.shape a.0 log line r
  in_force true r line k = laws.next.goes_on p.shape a.0 log line r (opened true p a.0 log r line k) k.1
  in_force false r line k = subst (λ (r : Register). InForce p.shape a.0 log line r) (sym k.1) (laws.next.anew p.shape a.0 log line before.runnable.few (opened false p a.0 log r line k))

  pub known : a.0 < 20
  known = omega (arith, before.client)

  pub short : length log < 4000000
  short = omega (arith, before.room, before.runnable.turns)

  pub before_ask : IsBeforeAsk p a log servers
  before_ask = record { few = before.runnable.few; known = known; short = short; served = before.served; honest = before.honest; lawful = before.lawful }

  -- what goes with a request is what the log gives it
  pub brings : (w : WorkMachine) (met : Bool) (epochs : Epochs) (c : CarriesOutCommand p a.0 log met epochs servers w) (b : BrickId) (asked : Request) (carried : Load) → next_of (length log) w ≡ next.Ask b asked → CarriesNext w carried
      → Brings asked carried log (held_before p log)
  brings Idle met epochs c b asked carried e k = absurd c.tells
  brings (Lookup m) met epochs c b asked carried e k = subst (λ (l : Load). Brings asked l log (held_before p log)) (sym k) (laws.telling.lookup_brings m log (held_before p log) b asked e)
  brings (Write m) met epochs c b asked carried e k = laws.telling.write_brings p c.command m log a b asked carried c.sound c.tells.1 e k
  brings (Entry m) met epochs c b asked carried e k = laws.telling.entry_brings p c.command m log a b asked carried c.sound c.tells e k
  brings (Rename m) met epochs c b asked carried e k = laws.telling.rename_brings p c.command m log a b asked carried c.sound c.tells e k

  -- its register allows what it asks
  pub asks_next : (w : WorkMachine) (met : Bool) (epochs : Epochs) (c : CarriesOutCommand p a.0 log met epochs servers w) (b : BrickId) (asked : Request) → next_of (length log) w ≡ next.Ask b asked
      → AsksNext p a log met epochs servers (CarriesNext w) b asked (register_of w)
  asks_next w met epochs c b asked e = record {
    five = c.five;
    opened = λ told took. opened met p a.0 log (register_of w) (Ask a b asked told took) c.noted;
    in_force = in_force met (register_of w) (asking a b asked) c.noted;
    allows = rw e at (laws.work.allowed w c.sound (length log));
    low = laws.work.low w c.sound (length log) b asked e;
    sessions = c.sessions;
    brings = λ load k. brings w met epochs c b asked load e k;
  }
