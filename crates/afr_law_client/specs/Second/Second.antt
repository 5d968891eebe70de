-- The second transaction of a work, by its own lines and by all of them.
use Rattle.std.specs.Prelude.{◌≡◌, ℕ, ◌<◌, true, false, List, ◌∷◌, ◌++◌, length}
use Rattle.afr_base.specs.declared.ids.ActorId.{ActorId}
use Rattle.afr_base.specs.declared.ids.Gfid.{Gfid}
use Rattle.afr_base.specs.declared.ids.Kind.{Kind}
use Rattle.afr_object.specs.declared.change.Change.{Change}
use Rattle.afr_lines.specs.Work.{Work}
use Rattle.afr_lines.specs.declared.answer.Told.{Told}
use Rattle.afr_lines.specs.declared.line.Line.{Line}
use Rattle.afr_plan.specs.declared.plan.Plan.{Plan}
use Rattle.afr_model.specs.Blamed.{IsBlaming}
use Rattle.afr_model.specs.Showing.{begins_attempt, has, locks}
use Rattle.afr_model.specs.Standing.{locks_any}
use Rattle.afr_client_transaction.specs.Progress.{TransactionProgress, fed, is_over, next_at, starting}
use Rattle.afr_client_transaction.specs.Sound.{Sound, Suits}
use Rattle.afr_client_transaction.specs.declared.stage.Stage.TheVariants.{Locking}
use Rattle.afr_law_client.specs.Laws.{IsFirst, IsNextLine}
use Rattle.afr_law_client.specs.Tells.{Tells}
use Rattle.afr_client_transaction.specs.Again.Again.{IsPlain, opened}
use Rattle.afr_model.specs.Parts.{first_part, second_part}

-- after a transaction that is over, the first lock of another one, put on the lines of a walk, shows how far it is
abbrev pub SecondTells : Type 0
SecondTells =
    (p : Plan) (walk : Work) (m : TransactionProgress) (change : Change) (a : ActorId) (told : Told) (line : Line) (older : List Line)
    → Sound m → IsPlain m.register → 0 < m.register.shape.n → is_over m.stage m ≡ true → Suits change → IsFirst p walk (starting change (opened m.register.shape))
    → IsNextLine a (next_at Locking (length older) (starting change m.register)) told line
    → Tells p ((line, older) ∷ walk) (fed Locking told (length older) (starting change m.register))

-- the two parts are the work
abbrev pub PartsAreWhole : Type 0
PartsAreWhole = (w : Work) → second_part w ++ first_part w ≡ w

-- what is said of a post-op over the lines of the second transaction, put on a walk without a lock, is so over the work
abbrev pub BlamedWhole : Type 0
BlamedWhole =
    (p : Plan) (attempt : ℕ) (g : Gfid) (kind : Kind) (missed : List ℕ) (b : ℕ) (second walk first : Work)
    → has begins_attempt second ≡ true → has (locks g) second ≡ true → has locks_any walk ≡ false → has locks_any first ≡ true
    → IsBlaming p attempt g kind missed b (second ++ walk) → IsBlaming p attempt g kind missed b (second ++ first)
