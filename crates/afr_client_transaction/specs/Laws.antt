-- What holds of all transactions at once.
use Rattle.std.specs.Prelude.{◌≡◌, ℕ, true, false}
use Rattle.afr_base.specs.Majority.{is_majority}
use Rattle.afr_lines.specs.declared.answer.Told.{Told}
use Rattle.afr_lines.specs.declared.line.Next.{Next}
use Rattle.afr_lines.specs.declared.line.Next.TheVariants as next
use Rattle.afr_model_moves.specs.Keeps.{keeps_in}
use Rattle.afr_model_moves.specs.Lines.{is_ok}
use Rattle.afr_discipline.specs.Inside.{may_move}
use Rattle.afr_discipline.specs.Stands.{seen_as}
use Rattle.afr_discipline.specs.declared.register.Move.{Move}
use Rattle.afr_discipline.specs.declared.register.Move.TheVariants as move
use Rattle.afr_client_transaction.specs.Outcome.{outcome_of}
use Rattle.afr_client_transaction.specs.declared.reply.TransactionOutcome.TheVariants.{Acknowledged}
use Rattle.afr_client_transaction.specs.Progress.{TransactionProgress, allowed, fed, is_over, next_at}
use Rattle.afr_client_transaction.specs.Sound.{Sound}

-- the discipline allows the next line, wherever it stands
abbrev pub AllowedNext : Type 0
AllowedNext = (m : TransactionProgress) → Sound m → (at : ℕ) → allowed m.register (next_at m.stage at m) ≡ true

-- the move of a line
abbrev pub IsMoveOf : Next → Move → Type 0
IsMoveOf (next.Ask b request) (move.Ask c asked) = (c ≡ b) × (asked.now ≡ request)
IsMoveOf (next.Begin change) (move.Begin begun) = begun.now ≡ change
IsMoveOf (next.End reply) (move.End ok) = ok ≡ is_ok reply
IsMoveOf line step = ⊥

-- the discipline's own test passes the move of the next line
abbrev pub AllowedMoves : Type 0
AllowedMoves =
    (m : TransactionProgress) → Sound m → (at : ℕ) (step : Move) → IsMoveOf (next_at m.stage at m) step
    → may_move m.register.shape.n (keeps_in m.register.shape) (seen_as m.register) step ≡ true

-- whatever is told at the next line, the transaction stays sound
abbrev pub StaysSound : Type 0
StaysSound = (m : TransactionProgress) → Sound m → is_over m.stage m ≡ false → (told : Told) (at : ℕ) → Sound (fed m.stage told at m)

-- the outcome is that the change is acknowledged exactly where a majority has done post-op
abbrev pub AcknowledgedExactly : Type 0
AcknowledgedExactly =
    (m : TransactionProgress) → Sound m
    → (is_majority m.register.shape.n m.register.post ≡ true → outcome_of m.change m.register ≡ Acknowledged)
    × (outcome_of m.change m.register ≡ Acknowledged → is_majority m.register.shape.n m.register.post ≡ true)
