-- What the lines of a work tell of its transaction, for all works and all answers at once.
use Rattle.std.specs.Prelude.{◌≡◌, ℕ, ◌<◌, ◌==◌, Bool, true, false, List, [], ◌∷◌, Some, None, length}
use Rattle.afr_base.specs.Bricks.{member}
use Rattle.afr_base.specs.declared.ids.ActorId.{ActorId}
use Rattle.afr_base.specs.declared.ids.BrickId.{BrickId}
use Rattle.afr_base.specs.declared.ids.Gfid.{Gfid}
use Rattle.afr_object.specs.Tables.{object_of}
use Rattle.afr_choice.specs.Looks.{no_looks}
use Rattle.afr_lines.specs.Areas.{area_for, kind_for}
use Rattle.afr_lines.specs.Work.{Work}
use Rattle.afr_lines.specs.declared.answer.Told.{Told}
use Rattle.afr_lines.specs.declared.answer.Told.TheVariants as as_told
use Rattle.afr_lines.specs.declared.line.Line.{Line}
use Rattle.afr_lines.specs.declared.line.Line.TheVariants.{Ask, Begin}
use Rattle.afr_lines.specs.declared.line.Next.{Next}
use Rattle.afr_lines.specs.declared.line.Next.TheVariants as next
use Rattle.afr_lines.specs.declared.reply.Good.TheVariants as good
use Rattle.afr_lines.specs.declared.reply.Reply.TheVariants as reply
use Rattle.afr_lines.specs.declared.request.Request.{Request}
use Rattle.afr_plan.specs.declared.command.Command.{Command}
use Rattle.afr_plan.specs.declared.plan.Plan.{Plan}
use Rattle.afr_client_transaction.specs.Outcome.{reply_of}
use Rattle.afr_client_transaction.specs.Progress.{TransactionProgress, fed, next_at}
use Rattle.afr_client_transaction.specs.Sound.{Sound}
use Rattle.afr_client_transaction.specs.declared.stage.Stage.TheVariants.{Locking, Closing}
use Rattle.afr_model.specs.Answered.{IsAbout, IsAnswered, by_posts}
use Rattle.afr_model.specs.Commands.{is_rmdir}
use Rattle.afr_model.specs.Honest.{IsHonest}
use Rattle.afr_model.specs.Refusals.{by_locks, or_else}
use Rattle.afr_model.specs.Showing.{among, begins_attempt, has, is_faulted, looked_by, looking, looks_at}
use Rattle.afr_model.specs.Skipped.{SkipsNothing}
use Rattle.afr_model.specs.Standing.{asking, locks_any}
use Rattle.afr_law_client.specs.About.{BlamesNext, IsFitting, Led, LedToEnd}
use Rattle.afr_law_client.specs.Fits.{AreExcused, FitsPhase, IsCalm, LineFits, LineFitsPhase}
use Rattle.afr_law_client.specs.Tells.{AreIdle, Tells}

-- a transaction has asked nothing yet, and the lines are those of the walk before it: no lock, no attempt, and another object that was looked at, was at every brick
pub record IsFirst (p : Plan) (w : Work) (m : TransactionProgress) : Type 0 where
  pub shape_is : m.register.shape ≡ p.shape
  pub stage_is : m.stage ≡ Locking
  pub nobody : m.asked ≡ record { lock_asked = []; locked_on = []; looked_at = [] }
  pub unseen : m.register.looked ≡ no_looks
  pub first : m.register.begun ≡ None
  pub no_pre : m.register.pre ≡ []
  pub no_apply : m.register.done ≡ []
  pub no_post : m.register.post ≡ []
  pub unlocked : has locks_any w ≡ false
  pub idle : AreIdle w
  pub looked : (h : Gfid) → ((object_of m.change).0 == h.0) ≡ false → has (looks_at h) w ≡ true → (b : ℕ) → b < p.shape.n → member (among (looking h) w) b ≡ true

-- so the lines show it
abbrev pub TellsFirst : Type 0
TellsFirst = (p : Plan) (w : Work) (m : TransactionProgress) → IsFirst p w m → Tells p w m

-- a line that an actor writes next, and what it is told; the end of a work is none of its lines
abbrev pub IsNextLine : ActorId → Next → Told → Line → Type 0
IsNextLine a (next.Ask b request) told line = (took : Bool) × (line ≡ Ask a b request told took)
IsNextLine a (next.Begin change) told line = line ≡ Begin a change
IsNextLine a other told line = ⊥

-- whatever is told at the next line, the lines show how far the transaction is then
abbrev pub TellsKept : Type 0
TellsKept =
    (p : Plan) (w : Work) (m : TransactionProgress) (a : ActorId) (told : Told) (line : Line) (older : List Line) → Sound m → Tells p w m
    → IsNextLine a (next_at m.stage (length older) m) told line → Tells p ((line, older) ∷ w) (fed m.stage told (length older) m)

-- each line is about what the command's words name, where its path has led as it must
abbrev pub AboutNext : Type 0
AboutNext =
    (p : Plan) (c : Command) (w : Work) (m : TransactionProgress) (a : ActorId) (told : Told) (line : Line) (older : List Line) → Sound m → Tells p w m → Led m.stage p c m.change w
    → IsNextLine a (next_at m.stage (length older) m) told line → IsAbout p c line w

-- each post-op accuses exactly those that missed the operation, with the cause
abbrev pub BlamesKept : Type 0
BlamesKept = (p : Plan) (w : Work) (m : TransactionProgress) (at : ℕ) → Sound m → Tells p w m → AreExcused w → BlamesNext p w (next_at m.stage at m)

-- who was asked and didn't do it missed something, also after one line more
abbrev pub ExcusedKept : Type 0
ExcusedKept =
    (p : Plan) (w : Work) (m : TransactionProgress) (a : ActorId) (told : Told) (line : Line) (older : List Line) → Sound m → Tells p w m → IsNextLine a (next_at m.stage (length older) m) told line
    → LineFits line → LineFitsPhase line → AreExcused w → AreExcused ((line, older) ∷ w)

-- so it is of the lines before the first lock
abbrev pub ExcusedFirst : Type 0
ExcusedFirst = (w : Work) → has locks_any w ≡ false → AreIdle w → AreExcused w

-- what is honestly told fits what was asked
abbrev pub HonestFits : Type 0
HonestFits = (p : Plan) (line : Line) (older : List Line) → IsHonest p line older → LineFits line

-- and at a brick that has the object, a phase was done, or failed
abbrev pub HonestPhases : Type 0
HonestPhases =
    (p : Plan) (a : ActorId) (b : BrickId) (asked : Request) (told : Told) (took : Bool) (older : List Line) → IsHonest p (Ask a b asked told took) older → (told ≡ as_told.NoObject → ⊥) → FitsPhase asked told

-- where nothing of the attempt was told a fault, all that were asked did it, also after one line more
abbrev pub CalmKept : Type 0
CalmKept =
    (p : Plan) (w : Work) (m : TransactionProgress) (a : ActorId) (told : Told) (line : Line) (older : List Line) → Sound m → Tells p w m → IsNextLine a (next_at m.stage (length older) m) told line
    → LineFitsPhase line → IsCalm w → IsCalm ((line, older) ∷ w)

-- so it is before the attempt
abbrev pub CalmFirst : Type 0
CalmFirst = (w : Work) → AreIdle w → IsCalm w

-- the reply has its cause: the locks and what they show, or else the post-ops
abbrev pub RepliesExactly : Type 0
RepliesExactly =
    (p : Plan) (w : Work) (m : TransactionProgress) → Sound m → Tells p w m → m.stage ≡ Closing → IsFitting p.shape.n m.change (looked_by (object_of m.change) w)
    → or_else (by_locks p.shape (kind_for m.change) (area_for m.change) w) (by_posts p.shape w) ≡ Some (reply_of m.change m.register)

-- every brick was asked for the lock
abbrev pub AsksAllForLocks : Type 0
AsksAllForLocks = (p : Plan) (w : Work) (m : TransactionProgress) → Tells p w m → m.stage ≡ Closing → (b : ℕ) → b < p.shape.n → member (among (asking (area_for m.change)) w) b ≡ true

-- nothing was skipped, but for what an rmdir asks of the directory that it removes
abbrev pub SkipsNone : Type 0
SkipsNone = (p : Plan) (c : Command) (w : Work) (m : TransactionProgress) → Tells p w m → m.stage ≡ Closing → is_rmdir c ≡ false → SkipsNothing p c w

-- a failure was told by a brick
abbrev pub FailedByBrick : Type 0
FailedByBrick =
    (p : Plan) (w : Work) (m : TransactionProgress) → Sound m → Tells p w m → m.stage ≡ Closing → IsFitting p.shape.n m.change (looked_by (object_of m.change) w) → IsCalm w → reply_of m.change m.register ≡ reply.Failed
    → (has begins_attempt w ≡ true) × (is_faulted w ≡ true)

-- an undisturbed change is acknowledged
abbrev pub UndisturbedIsDone : Type 0
UndisturbedIsDone =
    (p : Plan) (w : Work) (m : TransactionProgress) → Sound m → Tells p w m → m.stage ≡ Closing → IsCalm w → has begins_attempt w ≡ true → is_faulted w ≡ false → reply_of m.change m.register ≡ reply.Ok good.Done

-- a command that is one transaction answers as it should
abbrev pub EndsAnswered : Type 0
EndsAnswered =
    (p : Plan) (c : Command) (w : Work) (m : TransactionProgress) → Sound m → Tells p w m → m.stage ≡ Closing → IsFitting p.shape.n m.change (looked_by (object_of m.change) w) → IsCalm w → LedToEnd p c m.change w
    → IsAnswered p c w (reply_of m.change m.register)
