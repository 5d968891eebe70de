-- Lines that the discipline leaves free: looks and reads without a lock.
use Rattle.std.specs.Prelude.{◌⊎◌, ◌≡◌, Bool, true, false}
use Rattle.afr_base.specs.declared.ids.BrickId.{BrickId}
use Rattle.afr_base.specs.declared.ids.Shape.{Shape}
use Rattle.afr_lines.specs.declared.line.Next.{Next}
use Rattle.afr_lines.specs.declared.line.Next.TheVariants as next
use Rattle.afr_lines.specs.declared.request.Request.{Request}
use Rattle.afr_lines.specs.declared.request.Request.TheVariants.{Look, ReadName, ReadBytes, ReadAttr, List as ListNames}
use Rattle.afr_model_moves.specs.Keeps.{keeps_in}
use Rattle.afr_model_moves.specs.Lines.{is_ok}
use Rattle.afr_discipline.specs.Inside.{may_move}
use Rattle.afr_discipline.specs.Stands.{no_lines, seen_as}
use Rattle.afr_discipline.specs.declared.register.Move.{Move}
use Rattle.afr_discipline.specs.declared.register.Move.TheVariants as move
use Rattle.afr_discipline.specs.declared.register.Register.{Register}
use Rattle.afr_discipline.specs.declared.register.Step.TheVariants as step

-- a look, or a read of a name, of bytes, of an attribute or of all names
abbrev pub is_free : Request → Bool
is_free (Look g) = true
is_free (ReadName g name) = true
is_free (ReadBytes g at len) = true
is_free (ReadAttr g key) = true
is_free (ListNames g) = true
is_free other = false

-- the register of free lines alone: of none, or of some, which leave nothing but that they were
abbrev pub IsFree : Shape → Register → Type 0
IsFree shape register = (register ≡ no_lines shape) ⊎ (register ≡ record (no_lines shape) { step = step.Open })

-- whether the line is a request
abbrev pub is_ask : Next → Bool
is_ask (next.Ask brick request) = true
is_ask line = false

-- the move of a line
abbrev pub IsMoveOf : Next → Move → Type 0
IsMoveOf (next.Ask brick request) (move.Ask asked of) = (asked ≡ brick) × (of.now ≡ request)
IsMoveOf (next.Begin change) (move.Begin begun) = begun.now ≡ change
IsMoveOf (next.End reply) (move.End ok) = ok ≡ is_ok reply
IsMoveOf line of = ⊥

-- the discipline's own test passes the move of the line
abbrev pub Allows : Register → Next → Type 0
Allows register line = (of : Move) → IsMoveOf line of → may_move register.shape.n (keeps_in register.shape) (seen_as register) of ≡ true

-- the same of a request
abbrev pub AllowsAsk : Register → BrickId → Request → Type 0
AllowsAsk register brick request = Allows register (next.Ask brick request)
