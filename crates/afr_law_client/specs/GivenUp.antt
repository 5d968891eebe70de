-- A transaction that was given up before its Begin line: what is left is to release its locks.
use Rattle.std.specs.Prelude.{◌≡◌, false, List, ◌∷◌, None, length}
use Rattle.afr_base.specs.declared.ids.ActorId.{ActorId}
use Rattle.afr_lines.specs.Areas.{area_for, kind_for}
use Rattle.afr_lines.specs.Work.{Work}
use Rattle.afr_lines.specs.declared.answer.Told.{Told}
use Rattle.afr_lines.specs.declared.line.Line.{Line}
use Rattle.afr_plan.specs.declared.command.Command.{Command}
use Rattle.afr_plan.specs.declared.plan.Plan.{Plan}
use Rattle.afr_client_transaction.specs.Between.{given_up}
use Rattle.afr_client_transaction.specs.Progress.{TransactionProgress, fed, next_at, on_stage}
use Rattle.afr_client_transaction.specs.Sound.{Sound}
use Rattle.afr_client_transaction.specs.declared.stage.Stage.TheVariants.{Beginning, Closing}
use Rattle.afr_model.specs.Answered.{IsAbout}
use Rattle.afr_model.specs.Commands.{is_rmdir}
use Rattle.afr_model.specs.Refusals.{by_locks}
use Rattle.afr_model.specs.Showing.{begins_attempt, has}
use Rattle.afr_model.specs.Skipped.{SkipsNothing}
use Rattle.afr_law_client.specs.Laws.{IsNextLine}
use Rattle.afr_law_client.specs.Tells.{Tells}

-- only unlocks are left, and the lines show what they did before the Begin line: the looks allow it, and nothing was begun
pub record GaveUp (p : Plan) (w : Work) (m : TransactionProgress) : Type 0 where
  pub closing : m.stage ≡ Closing
  pub before : Tells p w (on_stage Beginning m)

-- so it is of a transaction that is given up there
abbrev pub GivesUp : Type 0
GivesUp = (p : Plan) (w : Work) (m : TransactionProgress) → m.stage ≡ Beginning → Sound m → Tells p w m → Sound (given_up m) × GaveUp p w (given_up m)

-- whatever is told at its unlocks
abbrev pub GivenUpKept : Type 0
GivenUpKept =
    (p : Plan) (w : Work) (m : TransactionProgress) (a : ActorId) (told : Told) (line : Line) (older : List Line) → Sound m → GaveUp p w m → IsNextLine a (next_at m.stage (length older) m) told line
    → GaveUp p ((line, older) ∷ w) (fed m.stage told (length older) m)

-- its unlocks are about any command
abbrev pub GivenUpAbout : Type 0
GivenUpAbout =
    (p : Plan) (c : Command) (w : Work) (m : TransactionProgress) (a : ActorId) (told : Told) (line : Line) (older : List Line) → GaveUp p w m → IsNextLine a (next_at m.stage (length older) m) told line → IsAbout p c line w

-- it has begun nothing, its locks and looks refuse nothing, and nothing was skipped, but for what an rmdir asks of the directory that it removes
pub record HasGivenUp (p : Plan) (w : Work) (m : TransactionProgress) : Type 0 where
  pub unbegun : has begins_attempt w ≡ false
  pub passes : by_locks p.shape (kind_for m.change) (area_for m.change) w ≡ None
  pub skips : (c : Command) → is_rmdir c ≡ false → SkipsNothing p c w

-- so it is at its end
abbrev pub GivenUpEnds : Type 0
GivenUpEnds = (p : Plan) (w : Work) (m : TransactionProgress) → GaveUp p w m → HasGivenUp p w m
