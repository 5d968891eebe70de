-- A server of a log is, after one more line, the server of the log with that line.
use Rattle.std.specs.Prelude.{◌≡◌, ℕ, ◌<◌, ◌≤◌, ◌==◌, Bool, true, false, not, List, [], ◌∷◌, Option}
use Rattle.afr_base.specs.declared.ids.ActorId.{ActorId}
use Rattle.afr_base.specs.declared.ids.BrickId.{BrickId}
use Rattle.afr_faults.specs.Planned.{fault_at, next_fault}
use Rattle.afr_lines.specs.Told.{told_by}
use Rattle.afr_lines.specs.Work.{is_of}
use Rattle.afr_lines.specs.declared.line.Event.{Event}
use Rattle.afr_lines.specs.declared.line.Line.{Line}
use Rattle.afr_lines.specs.declared.line.Line.TheVariants.{Ask}
use Rattle.afr_lines.specs.declared.line.Line.TheVariants as line_of
use Rattle.afr_lines.specs.declared.request.Request.{Request}
use Rattle.afr_model.specs.Honest.{IsHonest, fault_in}
use Rattle.afr_lines.specs.Places.{opens, place_of}
use Rattle.afr_model.specs.Tables.{held_before, keeps_bytes}
use Rattle.afr_object.specs.Tables.{opening}
use Rattle.afr_object.specs.declared.change.Load.{Load}
use Rattle.afr_plan.specs.declared.plan.Plan.{Plan}
use Rattle.afr_session.specs.Calls.{Does, Meet}
use Rattle.afr_session.specs.Links.{fresh_link, link_of}
use Rattle.afr_server.specs.declared.server.Served.{Served}
use Rattle.afr_server.specs.Carried.{Brings}
use Rattle.afr_server.specs.Happening.{Meets}
use Rattle.afr_server.specs.Log.{Finds, IsServed}
use Rattle.afr_server.specs.Outcome.{Serves, is_carried_out}
use Rattle.afr_server.specs.Serving.{Serving, has_session, is_met, link_for}

-- the line of a request that was given this
abbrev pub told_line : ActorId → BrickId → Request → Served → Line
told_line a b request given = Ask a b request (told_by given.answer) given.took

-- the line is honest, and the server is that of the log with it
abbrev pub IsServedLine : Plan → List Line → ℕ → Line → Serving → Type 0
IsServedLine p log b line s = IsHonest p line log × IsServed p (line ∷ log) b s

-- a request within a work, over the epoch that its actor found
abbrev pub LineIsServed : Type 0
LineIsServed = (p : Plan) (log : List Line) (a : ActorId) (b : BrickId) (epoch : Option ℕ) (request : Request) (load : Load) (old new : Serving) (given : Served)
    → a.0 < 20 → IsServed p log b.0 old → Finds epoch (link_for a old)
    → opens (place_of a.0 log) (told_line a b request given) ≡ false
    → (is_carried_out (has_session epoch a old) (next_fault old.faults) ≡ true → Brings request load log (held_before p log))
    → Serves false (has_session epoch a old) (next_fault old.faults) a request load old new given
    → IsServedLine p log b.0 (told_line a b request given) new

-- the first line of a work or of a heal, which meets the brick
abbrev pub FirstLineIsServed : Type 0
FirstLineIsServed = (p : Plan) (log : List Line) (a : ActorId) (b : BrickId) (request : Request) (load : Load) (old new : Serving) (given : Served)
    → a.0 < 20 → IsServed p log b.0 old
    → opens (place_of a.0 log) (told_line a b request given) ≡ true
    → (is_carried_out (is_met a old) (next_fault old.faults) ≡ true → Brings request load log (held_before p log))
    → Serves true (is_met a old) (next_fault old.faults) a request load old new given
    → IsServedLine p log b.0 (told_line a b request given) new

-- whether a line is no event and not addressed to brick b
abbrev pub is_elsewhere : ℕ → Line → Bool
is_elsewhere b (Ask a y request told took) = not (y.0 == b)
is_elsewhere b (line_of.Event event) = false
is_elsewhere b line = true

-- such a line that opens no session leaves the server as it is
abbrev pub ElsewhereIsServed : Type 0
ElsewhereIsServed = (p : Plan) (log : List Line) (line : Line) (b a : ℕ) (s : Serving)
    → IsServed p log b s → is_elsewhere b line ≡ true → ((x : ℕ) → is_of x line ≡ (a == x)) → opens (place_of a log) line ≡ false
    → IsServed p (line ∷ log) b s

-- after such a line that opens sessions its actor meets the brick
abbrev pub MetIsServed : Type 0
MetIsServed = (p : Plan) (log : List Line) (line : Line) (b a : ℕ) (old new : Serving)
    → IsServed p log b old → is_elsewhere b line ≡ true → ((x : ℕ) → is_of x line ≡ (a == x)) → opens (place_of a log) line ≡ true
    → Does (Meet a) old.links new.links → new ≡ record old { links = new.links }
    → IsServed p (line ∷ log) b new

-- an event comes to the brick, or to another
abbrev pub EventIsServed : Type 0
EventIsServed = (p : Plan) (log : List Line) (event : Event) (b : ℕ) (old new : Serving)
    → IsServed p log b old → Meets event b old new → IsServed p (line_of.Event event ∷ log) b new

-- a new server over the opening files, with the faults of the plan
abbrev pub NewIsServed : Type 0
NewIsServed = (p : Plan) (b : ℕ) (s : Serving) → p.shape.n ≤ 5 → b < p.shape.n
    → s.copies.keeps ≡ keeps_bytes p b → s.copies.objects ≡ opening p.files
    → s.ranges ≡ [] → s.names ≡ [] → s.links.started ≡ true → ((a : ℕ) → a < 20 → link_of a s.links ≡ fresh_link)
    → s.faults.requests ≡ 0 → ((count : ℕ) → fault_at count s.faults ≡ fault_in p.faults b count)
    → IsServed p [] b s
