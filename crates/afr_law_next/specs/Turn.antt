-- Each line of an actor is a move that its register allows, and the register after it stands for one more line.
use Rattle.std.specs.Prelude.{◌≡◌, ℕ, ◌≤◌, Bool, true, false, List, ◌∷◌, length, ◌⊎◌, Some}
use Rattle.afr_base.specs.declared.ids.ActorId.{ActorId}
use Rattle.afr_base.specs.declared.ids.Gfid.{Gfid}
use Rattle.afr_base.specs.declared.ids.Kind.{Kind}
use Rattle.afr_base.specs.declared.ids.Shape.{Shape}
use Rattle.afr_lines.specs.declared.answer.Told.{Told}
use Rattle.afr_lines.specs.declared.line.Line.{Line}
use Rattle.afr_lines.specs.declared.line.Line.TheVariants as line_of
use Rattle.afr_lines.specs.declared.reply.Reply.{Reply}
use Rattle.afr_lines.specs.declared.reply.HealReply.{HealReply}
use Rattle.afr_lines.specs.Places.{opens, place_of}
use Rattle.afr_model_moves.specs.Discipline.{in_force, MayExactly}
use Rattle.afr_model_moves.specs.Followed.{register_by}
use Rattle.afr_model_moves.specs.Lines.{is_ok}
use Rattle.afr_model_moves.specs.Register.{Exact}
use Rattle.afr_discipline.specs.Inside.{may_move}
use Rattle.afr_discipline.specs.Notes.{AsksBelow, noted}
use Rattle.afr_model_moves.specs.Keeps.{keeps_in}
use Rattle.afr_discipline.specs.Stands.{Stands, no_lines, seen_as, HasFive}
use Rattle.afr_discipline.specs.declared.register.Move.{Move}
use Rattle.afr_discipline.specs.declared.register.Move.TheVariants as move
use Rattle.afr_discipline.specs.declared.register.Register.{Register}

-- the register in force at a line after these: where the line opens a work or a heal, that of no line
abbrev pub register_at : Shape → List Line → Line → ℕ → Exact
register_at shape older line a = in_force (opens (place_of a older) line) (register_by shape.n (keeps_in shape) a older)

-- a line is a move that those before it allow its actor
abbrev pub IsMove : Shape → Line → List Line → Type 0
IsMove shape line older = MayExactly shape.n (keeps_in shape) (register_at shape older line) (Some line)

-- the register stands for the actor's lines
pub record Stood (shape : Shape) (a : ℕ) (log : List Line) (p : Register) : Type 0 where
  pub shape_is : p.shape ≡ shape
  pub stands : Stands p (register_by shape.n (keeps_in shape) a log)

-- it is in force at a line: it stands for the lines of the same work or heal, or is new where the line opens one
pub record InForce (shape : Shape) (a : ℕ) (log : List Line) (line : Line) (p : Register) : Type 0 where
  pub shape_is : p.shape ≡ shape
  pub stands : Stands p (register_at shape log line a)

-- at a line that opens a work or a heal, the register of no line is in force
abbrev pub BeginsAnew : Type 0
BeginsAnew = (shape : Shape) (a : ℕ) (log : List Line) (line : Line) → shape.n ≤ 5 → opens (place_of a log) line ≡ true → InForce shape a log line (no_lines shape)

-- at any other line, the register that stands for the actor's lines is in force
abbrev pub GoesOn : Type 0
GoesOn = (shape : Shape) (a : ℕ) (log : List Line) (line : Line) (p : Register) → opens (place_of a log) line ≡ false → Stood shape a log p → InForce shape a log line p

-- the End line of a work, outside its heals
pub record EndsWork (a : ActorId) (p : Register) (ok : Bool) (line : Line) : Type 0 where
  pub outside : p.inside ≡ false
  pub reply : Reply
  pub is : line ≡ line_of.End a reply
  pub says : is_ok reply ≡ ok

-- the HealEnd line of a heal: it names the heal's object, and the kind of its area
pub record EndsHeal (a : ActorId) (p : Register) (line : Line) : Type 0 where
  pub inside : p.inside ≡ true
  pub gfid : Gfid
  pub kind : Kind
  pub reply : HealReply
  pub is : line ≡ line_of.HealEnd a gfid kind reply

-- the line of a move
abbrev pub IsLineOf : ActorId → Register → Move → Told → Line → Type 0
IsLineOf a p (move.Ask b request) told line = (took : Bool) × (line ≡ line_of.Ask a b request.now told took)
IsLineOf a p (move.Begin change) told line = line ≡ line_of.Begin a change.now
IsLineOf a p (move.HealBegin g kind) told line = line ≡ line_of.HealBegin a g kind
IsLineOf a p (move.End ok) told line = EndsWork a p ok line ⊎ EndsHeal a p line

-- one line of an actor whose register allows it
pub record IsTurn (shape : Shape) (a : ActorId) (log : List Line) (p : Register) (step : Move) (told : Told) (line : Line) : Type 0 where
  pub lawful : IsMove shape line log
  pub own : Stood shape a.0 (line ∷ log) (noted p step told (length log))
  pub others : (c : ℕ) (q : Register) → (a.0 ≡ c → ⊥) → Stood shape c log q → Stood shape c (line ∷ log) q

-- a line whose register allows it is lawful, and leaves all registers standing for one line more
abbrev pub EachLineIsKept : Type 0
EachLineIsKept =
    (shape : Shape) (a : ActorId) (log : List Line) (p : Register) (step : Move) (told : Told) (line : Line)
    → shape.n ≤ 5 → HasFive p → InForce shape a.0 log line p → AsksBelow step → IsLineOf a p step told line → may_move p.shape.n (keeps_in p.shape) (seen_as p) step ≡ true → IsTurn shape a log p step told line
