-- Servers of a log are, after one more line, the servers of the log with that line.
use Rattle.std.specs.Prelude.{◌≡◌, ◌≢◌, ℕ, ◌<◌, ◌≤◌, ◌==◌, Bool, true, false, not, List, [], ◌∷◌}
use Rattle.afr_base.specs.declared.ids.ActorId.{ActorId}
use Rattle.afr_base.specs.declared.ids.BrickId.{BrickId}
use Rattle.afr_faults.specs.Planned.{next_fault}
use Rattle.afr_lines.specs.Places.{opens, place_of}
use Rattle.afr_lines.specs.Work.{is_of}
use Rattle.afr_lines.specs.declared.line.Event.{Event}
use Rattle.afr_lines.specs.declared.line.Line.{Line}
use Rattle.afr_lines.specs.declared.line.Line.TheVariants as line_of
use Rattle.afr_lines.specs.declared.request.Request.{Request}
use Rattle.afr_model.specs.Honest.{IsHonest}
use Rattle.afr_model.specs.Tables.{held_before}
use Rattle.afr_object.specs.declared.change.Load.{Load}
use Rattle.afr_plan.specs.declared.plan.Plan.{Plan}
use Rattle.afr_server.specs.declared.server.Served.{Served}
use Rattle.afr_server.specs.Carried.{Brings}
use Rattle.afr_server.specs.NextLine.{is_elsewhere, told_line}
use Rattle.afr_server.specs.Outcome.{is_carried_out}
use Rattle.afr_server.specs.Serving.{Serving}
use Rattle.afr_servers.specs.Calls.{At, MeetsAll, MeetsEach}
use Rattle.afr_servers.specs.Log.{AreFound, AreServed}
use Rattle.afr_servers.specs.Opening.{AreNew}
use Rattle.afr_servers.specs.Visiting.{AreInSession, ServesNext, has_live}
use Rattle.afr_servers.specs.declared.epochs.Epochs.{Epochs}

-- new servers are those of the empty log
abbrev pub NewAreServed : Type 0
NewAreServed = (p : Plan) (servers : List Serving) → p.shape.n ≤ 5 → AreNew p servers → AreServed p [] servers

-- after a line of actor a the servers are those of the log with it, what a found are the epochs of its live sessions, and what any other actor found stays so
pub record GoOn (p : Plan) (log : List Line) (a : ActorId) (line : Line) (epochs : Epochs) (old new : List Serving) : Type 0 where
  pub served : AreServed p (line ∷ log) new
  pub found : AreFound a.0 epochs new
  pub others : (c : ℕ) (its : Epochs) → c ≢ a.0 → AreFound c its old → AreFound c its new

-- and the line is honest
abbrev pub GoOnHonestly : Plan → List Line → ActorId → Line → Epochs → List Serving → List Serving → Type 0
GoOnHonestly p log a line epochs old new = IsHonest p line log × GoOn p log a line epochs old new

-- a request of a visit: within a work, or as the first line of a work or of a heal
abbrev pub AskedAreServed : Type 0
AskedAreServed =
    (p : Plan) (log : List Line) (a : ActorId) (met : Bool) (epochs after : Epochs) (b : BrickId) (request : Request) (load : Load) (old new : List Serving) (given : Served)
    → p.shape.n ≤ 5 → a.0 < 20 → AreServed p log old → AreInSession met a.0 epochs old
    → opens (place_of a.0 log) (told_line a b request given) ≡ not met
    → At b.0 old (λ s. is_carried_out (has_live met a epochs b.0 s) (next_fault s.faults) ≡ true → Brings request load log (held_before p log))
    → ServesNext met a b request load epochs old new after given
    → GoOnHonestly p log a (told_line a b request given) after old new

-- a line of an actor that is no request, and that opens no session, leaves the servers as they are
abbrev pub WrittenAreServed : Type 0
WrittenAreServed =
    (p : Plan) (log : List Line) (line : Line) (a : ℕ) (servers : List Serving) → p.shape.n ≤ 5
    → AreServed p log servers → ((b : ℕ) → is_elsewhere b line ≡ true) → ((x : ℕ) → is_of x line ≡ (a == x)) → opens (place_of a log) line ≡ false
    → AreServed p (line ∷ log) servers

-- after one that opens sessions its actor meets every brick
abbrev pub MetAreServed : Type 0
MetAreServed =
    (p : Plan) (log : List Line) (line : Line) (a : ActorId) (epochs : Epochs) (old new : List Serving) → p.shape.n ≤ 5 → a.0 < 20
    → AreServed p log old → ((b : ℕ) → is_elsewhere b line ≡ true) → ((x : ℕ) → is_of x line ≡ (a.0 == x)) → opens (place_of a.0 log) line ≡ true
    → MeetsAll a old new epochs
    → GoOn p log a line epochs old new

-- after an event, too, and what any actor found stays so
abbrev pub EventAreServed : Type 0
EventAreServed =
    (p : Plan) (log : List Line) (event : Event) (old new : List Serving) → p.shape.n ≤ 5
    → AreServed p log old → MeetsEach event old new
    → AreServed p (line_of.Event event ∷ log) new × ((c : ℕ) (its : Epochs) → AreFound c its old → AreFound c its new)
