-- What a transaction carries to the bricks: its change with the number that its Begin line gave.
use Rattle.std.specs.Prelude.{◌≡◌, ℕ, Bool, true, false, Option, Some, None}
use Rattle.afr_base.specs.declared.ids.ActorId.{ActorId}
use Rattle.afr_discipline.specs.Notes.{noted_ask}
use Rattle.afr_lines.specs.Areas.{area_for}
use Rattle.afr_lines.specs.declared.answer.Told.{Told}
use Rattle.afr_lines.specs.declared.answer.Told.TheVariants as as_told
use Rattle.afr_lines.specs.declared.lock.Domain.TheVariants.{Work}
use Rattle.afr_lines.specs.declared.request.Request.{Request}
use Rattle.afr_lines.specs.declared.request.Request.TheVariants as request
use Rattle.afr_model_moves.specs.Note.{is_held}
use Rattle.afr_object.specs.declared.change.Change.{Change}
use Rattle.afr_object.specs.declared.change.Change.TheVariants.{Make}
use Rattle.afr_client_transaction.specs.Progress.{TransactionProgress, gfid_at, number_in, numbered}
use Rattle.afr_client_transaction.specs.Sound.{Sound}
use Rattle.afr_client_transaction.specs.declared.stage.Stage.{Stage}
use Rattle.afr_client_transaction.specs.declared.stage.Stage.TheVariants.{Locking, Preparing, Applying}

-- the change as its Begin line has it
abbrev pub attempted : TransactionProgress → Change
attempted m = numbered (number_in m.register.begun) m.change

-- the same of a change that makes an object, in an attempt with this number
abbrev pub made_by : Option ℕ → Change → Option Change
made_by (Some at) (Make dir name g what) = Some (Make dir name (gfid_at at g) what)
made_by number change = None

-- it is kept from the Begin line until the bricks have been asked for the operation
abbrev pub IsMade : Stage → Option Change → TransactionProgress → Type 0
IsMade Preparing made m = made ≡ made_by m.register.begun m.change
IsMade Applying made m = made ≡ made_by m.register.begun m.change
IsMade stage made m = Unit {0}

-- what a transaction keeps at every moment
pub record IsTransaction (made : Option Change) (m : TransactionProgress) : Type 0 where
  pub sound : Sound m
  pub kept : IsMade m.stage made m

-- the request for the lock, which is asked again and again while another actor holds the area
abbrev pub lock_of : Change → Request
lock_of change = request.Lock Work (area_for change)

-- a lock was asked for that another actor holds
abbrev pub meets_another : Stage → Told → Bool
meets_another Locking told = is_held told
meets_another stage told = false

-- another actor holds the area: told so once more, at whatever brick, the register stays as it is
abbrev pub Waits : Bool → TransactionProgress → Type 0
Waits true m = (m.stage ≡ Locking) × ((b at : ℕ) (owner : ActorId) → noted_ask m.register at b (request.Lock Work (area_for m.change)) (as_told.Held owner) ≡ m.register)
Waits false m = Unit {0}
