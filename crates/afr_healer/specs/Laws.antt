-- What holds of every line of a healer, and of every line beside it.
use Rattle.std.specs.Prelude.{◌≡◌, ◌≢◌, ℕ, ◌<◌, ◌≤◌, Bool, true, false, List, [], ◌∷◌, None, Some, length, slice_get}
use Rattle.afr_base.specs.declared.ids.ActorId.{ActorId}
use Rattle.afr_base.specs.declared.ids.BrickId.{BrickId}
use Rattle.afr_base.specs.declared.ids.Gfid.{Gfid}
use Rattle.afr_base.specs.declared.ids.Kind.{Kind}
use Rattle.afr_base.specs.declared.ids.What.{What}
use Rattle.afr_discipline.specs.declared.register.Register.{Register}
use Rattle.afr_heal_round.specs.Rounding.{IsAnswered, Rounding, made_ready, task_from}
use Rattle.afr_law.specs.Exactly.{IsLawfulExactly}
use Rattle.afr_lines.specs.Places.{place_of}
use Rattle.afr_lines.specs.Work.{ended, is_killed, is_of, work}
use Rattle.afr_lines.specs.declared.answer.Told.{Told}
use Rattle.afr_lines.specs.declared.line.Line.{Line}
use Rattle.afr_lines.specs.declared.line.Line.TheVariants as line_of
use Rattle.afr_lines.specs.declared.reply.HealReply.{HealReply}
use Rattle.afr_lines.specs.declared.reply.Reply.{Reply}
use Rattle.afr_lines.specs.declared.request.Request.{Request}
use Rattle.afr_model.specs.Actors.{rounds_of}
use Rattle.afr_model.specs.Blamed.{Blames}
use Rattle.afr_model.specs.Crawl.{IsGiven, crawler}
use Rattle.afr_model.specs.Following.{Follows, KeepsToTask}
use Rattle.afr_model.specs.Honest.{Honest, IsHonest}
use Rattle.afr_model.specs.Replied.{IsReplied}
use Rattle.afr_plan.specs.declared.plan.Plan.{Plan}
use Rattle.afr_healer.specs.Acting.{CanStep, Readies, Stepped}
use Rattle.afr_healer.specs.Keeping.{IsHealer}
use Rattle.afr_healer.specs.declared.healer.Healer.{Healer}
use Rattle.afr_server.specs.Serving.{Serving}
use Rattle.afr_servers.specs.Log.{AreFound, AreServed}
use Rattle.afr_servers.specs.declared.epochs.Epochs.{Epochs}
use Rattle.afr_law_next.specs.Turn.{Stood}

-- what holds before any line of a healer
pub record IsBeforeRound (crawl : Bool) (p : Plan) (a : ActorId) (log : List Line) (servers : List Serving) : Type 0 where
  pub few : p.shape.n ≤ 5
  pub some : 0 < p.shape.n
  pub short : length log < 4000000
  pub clients : length p.clients ≤ 16
  pub served : AreServed p log servers
  pub follows : Follows crawl p log
  pub honest : Honest p log
  pub lawful : IsLawfulExactly p log
  pub healer : 17 ≤ a.0
  pub known : a.0 < 20
  pub bricks : (k : ℕ) (b : BrickId) → slice_get (rounds_of p a.0) k ≡ Some b → b.0 < p.shape.n

-- a line of actor a that is no event
pub data IsWritten (a : ActorId) : Line → Type 0 where
  Asks : (b : BrickId) (request : Request) (told : Told) (took : Bool) → IsWritten a (line_of.Ask a b request told took)
  Begins : (g : Gfid) (kind : Kind) → IsWritten a (line_of.HealBegin a g kind)
  Heals : (g : Gfid) (kind : Kind) (said : HealReply) → IsWritten a (line_of.HealEnd a g kind said)
  Ends : (said : Reply) → IsWritten a (line_of.End a said)

-- what the line of a healer keeps
pub record RoundKeeps (crawl : Bool) (p : Plan) (a : ActorId) (log : List Line) (line : Line) (y : Healer) (old new : List Serving) : Type 0 where
  pub honest : IsHonest p line log
  pub lawful : IsLawfulExactly p (line ∷ log)
  pub served : AreServed p (line ∷ log) new
  pub keeps : KeepsToTask crawl p a.0 line log
  pub replied : IsReplied p line log
  pub blamed : Blames p line log
  pub written : IsWritten a line
  pub acting : IsHealer crawl p (line ∷ log) a.0 new y
  pub stands : (c : ℕ) (r : Register) → (a.0 ≡ c → ⊥) → Stood p.shape c log r → Stood p.shape c (line ∷ log) r
  pub found : (c : ℕ) (epochs : Epochs) → c ≢ a.0 → AreFound c epochs old → AreFound c epochs new

-- the names that a heal has read are merged
abbrev pub IsMadeReady : Healer → Type 0
IsMadeReady x = (m : Rounding) → x.round ≡ Some m → m ≡ made_ready m

-- ---- the laws
-- what its next line needs is there, once the names that go with it are merged
abbrev pub CanStepNext : Type 0
CanStepNext =
    (crawl : Bool) (p : Plan) (a : ActorId) (log : List Line) (servers : List Serving) (x : Healer) → IsBeforeRound crawl p a log servers → IsHealer crawl p log a.0 servers x → IsMadeReady x → CanStep a (length log) x servers

-- one line of a healer whose round has begun, and has the memory of its move
abbrev pub LineKeepsRound : Type 0
LineKeepsRound =
    (crawl : Bool) (p : Plan) (a : ActorId) (log : List Line) (servers new : List Serving) (x y : Healer) (line : Line)
    → IsBeforeRound crawl p a log servers → IsHealer crawl p log a.0 servers x → IsMadeReady x → Stepped IsAnswered a (length log) x y servers new line → RoundKeeps crawl p a log line y servers new

-- a line that isn't the healer's, after which its register stands and its sessions are as they were
pub record IsBeside (p : Plan) (c : ℕ) (line : Line) (log : List Line) (old new : List Serving) : Type 0 where
  pub other : is_of c line ≡ false
  pub same_work : work c (line ∷ log) ≡ work c log
  pub same_place : place_of c (line ∷ log) ≡ place_of c log
  pub same_ended : ended c (line ∷ log) ≡ ended c log
  pub stands : (r : Register) → Stood p.shape c log r → Stood p.shape c (line ∷ log) r
  pub found : (epochs : Epochs) → AreFound c epochs old → AreFound c epochs new

-- such a line leaves the healer as it was, but that it may kill it
abbrev pub OthersStay : Type 0
OthersStay =
    (crawl : Bool) (p : Plan) (c : ℕ) (line : Line) (log : List Line) (old new : List Serving) (x y : Healer) → IsBeside p c line log old new
    → y ≡ record x { killed = is_killed c (line ∷ log) } → IsHealer crawl p log c old x → IsHealer crawl p (line ∷ log) c new y

-- a round heals its list, but for those of the crawler
pub data MayAsk (a : ℕ) : Bool → Bool → Type 0 where
  Round : MayAsk a false true
  Crawl : a ≡ crawler → MayAsk a true false

-- a round that begins stands for no lines, and has the memory of its coming move; so does a task that was given, or a round that had begun
abbrev pub RoundsBegin : Type 0
RoundsBegin =
    (crawl heals : Bool) (p : Plan) (a : ℕ) (log : List Line) (servers : List Serving) (b : BrickId) (x z : Healer) → p.shape.n ≤ 5 → (x.round ≡ None → (b.0 < p.shape.n) × MayAsk a crawl heals × (slice_get (rounds_of p a) (ended a log) ≡ Some b))
    → IsHealer crawl p log a servers x → Readies p.shape heals b x z → IsHealer crawl p log a servers z × IsMadeReady z

-- a healer that goes rounds and has ended them has written no line of another
abbrev pub RoundsEnd : Type 0
RoundsEnd =
    (crawl : Bool) (p : Plan) (a : ℕ) (log : List Line) (servers : List Serving) (x : Healer) → (crawl ≡ true → a ≡ crawler) → length (rounds_of p a) ≤ ended a log → IsHealer crawl p log a servers x
    → work a log ≡ []

-- a worker that is at nothing may be given a task, whose item the crawler was given: no line of it is written
abbrev pub TasksBegin : Type 0
TasksBegin =
    (p : Plan) (a : ℕ) (log : List Line) (servers : List Serving) (item : Gfid × What) (x : Healer) → p.shape.n ≤ 5 → 0 < p.shape.n → 18 ≤ a → IsGiven p item log → x.round ≡ None → IsHealer true p log a servers x
    → IsHealer true p log a servers (record x { round = Some (task_from p.shape item) })
