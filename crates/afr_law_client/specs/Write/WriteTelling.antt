-- What the lines of a work show of its change, and what its bricks may tell.
use Rattle.std.specs.Prelude.{◌≡◌, ℕ, ◌<◌, true, List, None}
use Rattle.afr_base.specs.declared.ids.NameId.{NameId}
use Rattle.afr_choice.specs.Looks.{view_at}
use Rattle.afr_discipline.specs.Tests.{fits_view}
use Rattle.afr_lines.specs.Told.{told_by}
use Rattle.afr_lines.specs.Work.{Work}
use Rattle.afr_lines.specs.declared.answer.Answer.{Answer}
use Rattle.afr_lines.specs.declared.answer.Told.{Told}
use Rattle.afr_lines.specs.declared.answer.Told.TheVariants.{Seen}
use Rattle.afr_lines.specs.declared.line.Line.{Line}
use Rattle.afr_lines.specs.declared.request.Request.{Request}
use Rattle.afr_object.specs.Tables.{object_of}
use Rattle.afr_object.specs.declared.change.Change.{Change}
use Rattle.afr_object.specs.declared.entry.Entry.{Entry}
use Rattle.afr_object.specs.declared.entry.View.{View}
use Rattle.afr_plan.specs.declared.command.Command.{Command}
use Rattle.afr_plan.specs.declared.command.Command.TheVariants as command
use Rattle.afr_plan.specs.declared.plan.Plan.{Plan}
use Rattle.afr_model.specs.Answered.{IsAnswered}
use Rattle.afr_model.specs.Refusals.{too_large}
use Rattle.afr_model.specs.Showing.{NotAsked, has, locks, looked_by, reading_by}
use Rattle.afr_client_transaction.specs.Progress.{TransactionProgress}
use Rattle.afr_client_walk.specs.declared.walk.Walk.{Walk}
use Rattle.afr_client_write.specs.Write.{Write as WriteMachine}
use Rattle.afr_client_write.specs.declared.job.WriteJob.{WriteJob}
use Rattle.afr_client_write.specs.declared.job.WriteJob.TheVariants.{Write, Cut, SetAttr}
use Rattle.afr_client_write.specs.declared.stage.WriteStage.{WriteStage}
use Rattle.afr_client_write.specs.declared.stage.WriteStage.TheVariants.{Walking, Changing, Ending}
use Rattle.afr_law_client.specs.Read.ChangeLaws.{IsAtEnd, IsChangeOf}
use Rattle.afr_law_client.specs.Read.Lines.{CanAnswer, is_look}
use Rattle.afr_law_client.specs.Read.WalkTelling.{WalkTells}
use Rattle.afr_law_client.specs.Fits.{AreExcused, Fits, FitsPhase, IsCalm}
use Rattle.afr_law_client.specs.Tells.{Tells}

-- the command that a change carries out
abbrev pub command_of : WriteJob → List NameId → Command
command_of (Write at bytes) path = command.Write path at bytes
command_of (Cut len) path = command.Cut path len
command_of (SetAttr key value) path = command.SetAttr path key value

-- once the object was locked, the looks at it show such an object as the change is for
abbrev pub AreFitting : ℕ → Change → Work → Type 0
AreFitting n change w = has (locks (object_of change)) w ≡ true → (b : ℕ) → b < n → fits_view (view_at b (looked_by (object_of change) w)) change ≡ true

-- the path has led to the object, and the lines show how far its transaction is
pub record ChangesObject (p : Plan) (c : Command) (object : Entry) (m : TransactionProgress) (w : Work) : Type 0 where
  pub words : IsChangeOf c object m.change
  pub led : IsAtEnd p c object w
  pub unread : reading_by p w ≡ NotAsked
  pub tells : Tells p w m
  pub excused : AreExcused w
  pub calm : IsCalm w
  pub fitting : AreFitting p.shape.n m.change w

-- while the path is walked
pub record Walks (p : Plan) (c : Command) (job : WriteJob) (w : Walk) (lines : Work) : Type 0 where
  pub named : c ≡ command_of job w.path
  pub small : too_large c ≡ None
  pub tells : WalkTells p c w lines

-- by the stage of the change
abbrev pub TellsIn : Plan → Command → WriteStage → Walk → Work → Type 0
TellsIn p c (Walking job) w lines = Walks p c job w lines
TellsIn p c (Changing m) w lines = ChangesObject p c w.object m lines
TellsIn p c (Ending said) w lines = IsAnswered p c lines said

-- the lines of a work show where its change stands
pub record WriteTells (p : Plan) (c : Command) (m : WriteMachine) (lines : Work) : Type 0 where
  pub shape : m.walk.shape ≡ p.shape
  pub stage : TellsIn p c m.stage m.walk lines

-- what a brick may tell of the object that is changed: it does what it was asked or misses it, and shows an object of the entry's kind
pub record CanTell (object : Entry) (request : Request) (told : Told) : Type 0 where
  pub fits : Fits request told
  pub phase : FitsPhase request told
  pub shows : (view : View) → told ≡ Seen view → is_look request ≡ true → view.what ≡ object.what

-- what it may answer, by the stage
abbrev pub CanHear : WriteStage → Plan → Entry → ℕ → Request → List Line → Answer → Type 0
CanHear (Walking job) p object b request log heard = CanAnswer p b request log heard
CanHear stage p object b request log heard = CanTell object request (told_by heard)
