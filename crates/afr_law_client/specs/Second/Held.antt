-- Where a transaction's locks are held until it releases them: so one that is acknowledged has somebody to release.
use Rattle.std.specs.Prelude.{◌≡◌, ℕ, Bool, true, false, List, [], ◌∷◌, length}
use Rattle.afr_base.specs.Bricks.{IsIn, member}
use Rattle.afr_base.specs.declared.ids.ActorId.{ActorId}
use Rattle.afr_base.specs.declared.ids.BrickId.{BrickId}
use Rattle.afr_base.specs.declared.ids.NameId.{NameId}
use Rattle.afr_choice.specs.Verdict.{holders_of}
use Rattle.afr_lines.specs.Work.{Work}
use Rattle.afr_lines.specs.declared.answer.Told.{Told}
use Rattle.afr_lines.specs.declared.line.Line.{Line}
use Rattle.afr_lines.specs.declared.line.Line.TheVariants.{Ask}
use Rattle.afr_lines.specs.declared.request.Request.{Request}
use Rattle.afr_model_moves.specs.Past.{is_gone}
use Rattle.afr_discipline.specs.declared.register.Register.{Register}
use Rattle.afr_plan.specs.declared.plan.Plan.{Plan}
use Rattle.afr_model.specs.Parts.{the_make, unlocks_any}
use Rattle.afr_model.specs.Showing.{has}
use Rattle.afr_object.specs.declared.change.Change.{Change}
use Rattle.afr_client_transaction.specs.Between.{given_up, is_read, noted_read}
use Rattle.afr_client_transaction.specs.Outcome.{outcome_of}
use Rattle.afr_client_transaction.specs.Progress.{TransactionProgress, fed, is_over, left, next_at, starting}
use Rattle.afr_client_transaction.specs.Sound.{Sound}
use Rattle.afr_client_transaction.specs.declared.reply.TransactionOutcome.TheVariants.{Acknowledged}
use Rattle.afr_client_transaction.specs.declared.stage.Stage.{Stage}
use Rattle.afr_client_transaction.specs.declared.stage.Stage.TheVariants.{Locking, Looking, Beginning, Preparing, Applying, Posting, Closing}
use Rattle.afr_law_client.specs.Laws.{IsNextLine}
use Rattle.afr_law_client.specs.Tells.{Tells}

-- the bricks that did what a stage asks: by a look, those that have a copy
abbrev pub did_in : Stage → Register → List ℕ
did_in Locking r = []
did_in Looking r = holders_of r.looked
did_in Beginning r = holders_of r.looked
did_in Preparing r = r.pre
did_in Applying r = r.done
did_in Posting r = r.post
did_in Closing r = r.post

-- a brick that is still to be asked has done nothing yet, and its lock is held, as it is where the brick did it
pub record AreHeld (left did held : List ℕ) : Type 0 where
  pub left_held : IsIn left held
  pub undone : (b : ℕ) → member left b ≡ true → member did b ≡ false
  pub did_held : IsIn did held

-- what is held at each stage; at the end the locks of those that did post-op, until the first unlock is asked
abbrev pub HoldsIn : Stage → TransactionProgress → Work → Type 0
HoldsIn Locking m w = Unit {0}
HoldsIn Closing m w = has unlocks_any w ≡ false → IsIn m.register.post m.register.held
HoldsIn stage m w = AreHeld (left stage m) (did_in stage m.register) m.register.held

-- the same of a transaction and the lines of its work
abbrev pub Holds : TransactionProgress → Work → Type 0
Holds m w = HoldsIn m.stage m w

-- so it is of a transaction that begins
abbrev pub HeldFirst : Type 0
HeldFirst = (change : Change) (r : Register) (w : Work) → Holds (starting change r) w

-- whatever is told at its next line, its Begin line among them
abbrev pub HeldKept : Type 0
HeldKept =
    (p : Plan) (w : Work) (m : TransactionProgress) (a : ActorId) (told : Told) (line : Line) (older : List Line) → Sound m → Tells p w m → Holds m w
    → IsNextLine a (next_at m.stage (length older) m) told line → Holds (fed m.stage told (length older) m) ((line, older) ∷ w)

-- and after a read before the Begin line, unless its brick can't be reached
abbrev pub HeldRead : Type 0
HeldRead =
    (w : Work) (m : TransactionProgress) (a : ActorId) (b : BrickId) (asked : Request) (told : Told) (took : Bool) (older : List Line) → m.stage ≡ Beginning → Sound m → is_read asked ≡ true → is_gone told ≡ false → Holds m w
    → Holds (noted_read b.0 asked told (length older) m) ((Ask a b asked told took, older) ∷ w)

-- and once it is given up there
abbrev pub HeldGivenUp : Type 0
HeldGivenUp = (w : Work) (m : TransactionProgress) → m.stage ≡ Beginning → Sound m → Holds (given_up m) w

-- and after each unlock, also of one that was given up
abbrev pub HeldUnlocked : Type 0
HeldUnlocked =
    (w : Work) (m : TransactionProgress) (a : ActorId) (told : Told) (line : Line) (older : List Line) → m.stage ≡ Closing
    → IsNextLine a (next_at m.stage (length older) m) told line → Holds (fed m.stage told (length older) m) ((line, older) ∷ w)

-- a transaction that is over and acknowledged has asked for an unlock
abbrev pub AcknowledgedUnlocks : Type 0
AcknowledgedUnlocks = (w : Work) (m : TransactionProgress) → Sound m → Holds m w → is_over m.stage m ≡ true → outcome_of m.change m.register ≡ Acknowledged → has unlocks_any w ≡ true

-- where a line of the making does, a line of the work does
abbrev pub PartUnlocks : Type 0
PartUnlocks = (from : List NameId) (w : Work) → has unlocks_any (the_make from w) ≡ true → has unlocks_any w ≡ true
