-- What holds of all removals at once.
use Rattle.std.specs.Prelude.{◌≡◌, ℕ, true, false}
use Rattle.afr_base.specs.declared.ids.BrickId.{BrickId}
use Rattle.afr_lines.specs.declared.answer.Answer.{Answer}
use Rattle.afr_model_moves.specs.Keeps.{keeps_in}
use Rattle.afr_discipline.specs.Inside.{may_move}
use Rattle.afr_discipline.specs.Stands.{seen_as}
use Rattle.afr_discipline.specs.declared.register.Move.{Move}
use Rattle.afr_client_transaction.specs.Laws.{IsMoveOf}
use Rattle.afr_client_walk.specs.Choosing.{IsAmong}
use Rattle.afr_client_entry.specs.Removals.Removal.{Removing, answered, begun, choices_at, is_beginning, is_over, next_at}
use Rattle.afr_client_entry.specs.Removals.Sound.{Sound}

-- the discipline's own test passes the move of the next line
abbrev pub AllowedMoves : Type 0
AllowedMoves = (m : Removing) → Sound m → (step : Move) → IsMoveOf (next_at m.stage m) step → may_move m.register.shape.n (keeps_in m.register.shape) (seen_as m.register) step ≡ true

-- whatever is told at the next line, and whichever good copy of the child is listed then, the removal stays sound
abbrev pub StaysSound : Type 0
StaysSound =
    (m : Removing) → Sound m → is_over m.stage m ≡ false → is_beginning m.stage ≡ false → (chosen : BrickId) (a : Answer) (at : ℕ) → IsAmong (choices_at m.stage a at m) chosen
    → Sound (answered chosen m.stage a at m)

-- and where its attempt has its number
abbrev pub BeginsSound : Type 0
BeginsSound = (m : Removing) → Sound m → is_beginning m.stage ≡ true → (at : ℕ) → Sound (begun at m)
