-- What the lines of a command on a name show, and what its bricks may tell.
use Rattle.std.specs.Prelude.{◌≡◌, ℕ, ◌==◌, true, false, List, [], ◌∷◌, ◌++◌, Option, Some, None, length}
use Rattle.afr_base.specs.Bricks.{member}
use Rattle.afr_base.specs.declared.ids.NameId.{NameId}
use Rattle.afr_discipline.specs.declared.register.Register.{Register}
use Rattle.afr_lines.specs.Areas.{area_for}
use Rattle.afr_lines.specs.Told.{told_by}
use Rattle.afr_lines.specs.Work.{Work}
use Rattle.afr_lines.specs.declared.answer.Answer.{Answer}
use Rattle.afr_lines.specs.declared.answer.Answer.TheVariants as answer
use Rattle.afr_lines.specs.declared.line.Line.{Line}
use Rattle.afr_lines.specs.declared.request.Request.{Request}
use Rattle.afr_object.specs.Tables.{is_dir}
use Rattle.afr_object.specs.declared.change.Change.{Change}
use Rattle.afr_object.specs.declared.entry.Entry.{Entry}
use Rattle.afr_plan.specs.declared.command.Command.{Command}
use Rattle.afr_plan.specs.declared.command.Command.TheVariants as command
use Rattle.afr_plan.specs.declared.plan.Plan.{Plan}
use Rattle.afr_model.specs.Answered.{IsAnswered}
use Rattle.afr_model.specs.Commands.{steps_of}
use Rattle.afr_model.specs.Showing.{At, NotAsked, Untold, among, begins_attempt, has, one_name, path_by, reading_by, refuses_read}
use Rattle.afr_model.specs.Standing.{holding, path_upto, place_by}
use Rattle.afr_client_transaction.specs.Progress.{TransactionProgress}
use Rattle.afr_client_transaction.specs.declared.stage.Stage.{Stage}
use Rattle.afr_client_transaction.specs.declared.stage.Stage.TheVariants.{Beginning, Closing}
use Rattle.afr_client_walk.specs.declared.walk.Walk.{Walk}
use Rattle.afr_client_entry.specs.Entry.{Entering}
use Rattle.afr_client_entry.specs.Job.{ruled_by}
use Rattle.afr_client_entry.specs.declared.job.EntryJob.{EntryJob}
use Rattle.afr_client_entry.specs.declared.job.EntryJob.TheVariants.{Create, Mkdir, Unlink, Rmdir}
use Rattle.afr_client_entry.specs.declared.refusal.Refusal.{Refusal}
use Rattle.afr_client_entry.specs.declared.refusal.Refusal.TheVariants as refusal_of
use Rattle.afr_client_entry.specs.declared.stage.EntryStage.{EntryStage}
use Rattle.afr_client_entry.specs.declared.stage.EntryStage.TheVariants.{Walking, Changing, Removes, Ending}
use Rattle.afr_client_entry.specs.declared.stage.Found.{Found}
use Rattle.afr_client_entry.specs.declared.stage.Found.TheVariants.{Unread, Fits, Refused}
use Rattle.afr_law_client.specs.Read.Lines.{CanAnswer}
use Rattle.afr_law_client.specs.Read.WalkTelling.{WalkTells}
use Rattle.afr_client_entry.specs.Removals.Removal.{Removing}
use Rattle.afr_law_client.specs.Removal.RemovalTelling as removal
use Rattle.afr_law_client.specs.Removal.RemovalTelling.{RemovalTells, releases}
use Rattle.afr_law_client.specs.Fits.{AreExcused, IsCalm}
use Rattle.afr_law_client.specs.GivenUp.{GaveUp}
use Rattle.afr_law_client.specs.Tells.{Tells}
use Rattle.afr_law_client.specs.Write.WriteTelling.{AreFitting, CanTell}

-- the command that a job carries out in the directory to which a path leads
abbrev pub command_of : EntryJob → List NameId → Command
command_of (Create name) path = command.Create (path ++ name ∷ [])
command_of (Mkdir name) path = command.Mkdir (path ++ name ∷ [])
command_of (Unlink name) path = command.Unlink (path ++ name ∷ [])
command_of (Rmdir name) path = command.Rmdir (path ++ name ∷ [])

-- while the path to the directory is walked, as that of a list of its names; no name after it was read
pub record Walks (p : Plan) (w : Walk) (lines : Work) : Type 0 where
  pub tells : WalkTells p (command.Ls w.path) w lines
  pub upto : path_upto (length w.path) p lines ≡ path_by p lines

-- the last name was given as this, in the directory
pub record WasGiven (p : Plan) (c : Command) (dir : Entry) (entry : Option Entry) (w : Work) : Type 0 where
  pub path : path_by p w ≡ one_name entry (At (steps_of c) dir)
  pub unrefused : has refuses_read w ≡ false

-- the last name wasn't read yet
pub record IsUnread (p : Plan) (c : Command) (dir : Entry) (w : Work) : Type 0 where
  pub path : path_by p w ≡ At (steps_of c) dir
  pub unrefused : has refuses_read w ≡ false
  pub unbegun : has begins_attempt w ≡ false

-- nothing that was given rules the job out
pub record FitsName (p : Plan) (c : Command) (job : EntryJob) (dir : Entry) (w : Work) : Type 0 where
  pub entry : Option Entry
  pub rule : ruled_by job entry ≡ None
  pub given : WasGiven p c dir entry w

-- what rules the job out: the read of its name was refused, or what was given
pub data RulesOut (p : Plan) (c : Command) (job : EntryJob) (dir : Entry) (why : Refusal) (w : Work) : Type 0 where
  ByFault : why ≡ refusal_of.Failed → has refuses_read w ≡ true → path_by p w ≡ Untold → RulesOut p c job dir why w
  ByName : (entry : Option Entry) → ruled_by job entry ≡ Some why → WasGiven p c dir entry w → RulesOut p c job dir why w

-- what the lines show of the last name
abbrev pub NameTells : Found → Plan → Command → EntryJob → Entry → Work → Type 0
NameTells (Unread b) p c job dir w = IsUnread p c dir w
NameTells Fits p c job dir w = FitsName p c job dir w
NameTells (Refused why) p c job dir w = RulesOut p c job dir why w

-- the lines show how far the transaction is that locks the name and changes it
pub record TransactionGoes (p : Plan) (t : TransactionProgress) (w : Work) : Type 0 where
  pub tells : Tells p w t
  pub excused : AreExcused w
  pub calm : IsCalm w
  pub fitting : AreFitting p.shape.n t.change w

-- the register's locks of the name are those of the lines, which have released none
pub record HoldsName (change : Change) (r : Register) (w : Work) : Type 0 where
  pub held : (b : ℕ) → member r.held b ≡ member (among (holding (area_for change)) w) b
  pub kept : has releases w ≡ false

-- so it is until the locks are released
abbrev pub HoldsAt : Stage → Change → Register → Work → Type 0
HoldsAt Closing change r w = Unit {0}
HoldsAt stage change r w = HoldsName change r w

-- a change that is ruled out was given up
abbrev pub OnChange : Found → Plan → TransactionProgress → Work → Type 0
OnChange (Unread b) p t w = TransactionGoes p t w × HoldsAt t.stage t.change t.register w
OnChange Fits p t w = TransactionGoes p t w
OnChange (Refused why) p t w = GaveUp p w t

-- the path has led to a directory, whose name is locked, read and changed
pub record ChangesName (p : Plan) (c : Command) (job : EntryJob) (dir : Entry) (t : TransactionProgress) (found : Found) (w : Work) : Type 0 where
  pub place : place_by p c w ≡ At (steps_of c) dir
  pub directory : is_dir dir.what ≡ true
  pub unread : reading_by p w ≡ NotAsked
  pub name : NameTells found p c job dir w
  pub on : OnChange found p t w

-- the name has led to a directory, which is removed with it
pub record RemovesChild (p : Plan) (job : EntryJob) (path : List NameId) (m : Removing) (w : Work) : Type 0 where
  pub name : NameId
  pub is_job : job ≡ Rmdir name
  pub tells : RemovalTells p (path ++ name ∷ []) m w

-- by the stage of the command
abbrev pub TellsIn : Plan → Command → EntryJob → EntryStage → Walk → Work → Type 0
TellsIn p c job Walking w lines = Walks p w lines
TellsIn p c job (Changing t found) w lines = ChangesName p c job w.object t found lines
TellsIn p c job (Removes m) w lines = RemovesChild p job w.path m lines
TellsIn p c job (Ending said) w lines = IsAnswered p c lines said

-- the lines of a work show where its command stands
pub record EntryTells (p : Plan) (c : Command) (m : Entering) (lines : Work) : Type 0 where
  pub shape : m.walk.shape ≡ p.shape
  pub named : c ≡ command_of m.job m.walk.path
  pub stage : TellsIn p c m.job m.stage m.walk lines

-- what a brick may answer to the read of the name: what its tables show, and no name leads to its own directory
pub record CanName (p : Plan) (dir : Entry) (b : ℕ) (request : Request) (log : List Line) (heard : Answer) : Type 0 where
  pub answers : CanAnswer p b request log heard
  pub elsewhere : (entry : Entry) → heard ≡ answer.Entry (Some entry) → (entry.gfid.0 == dir.gfid.0) ≡ false

-- what it may answer under the lock of the name: that where the name is read, and else what fits the directory
abbrev pub CanHearUnder : Found → Stage → Plan → Entry → ℕ → Request → List Line → Answer → Type 0
CanHearUnder (Unread copy) Beginning p dir b request log heard = CanName p dir b request log heard
CanHearUnder found stage p dir b request log heard = CanTell dir request (told_by heard)

-- what it may answer, by the stage
abbrev pub CanHear : EntryStage → Plan → Entry → ℕ → Request → List Line → Answer → Type 0
CanHear (Changing t found) p dir b request log heard = CanHearUnder found t.stage p dir b request log heard
CanHear (Removes m) p dir b request log heard = removal.CanHear m.stage p b request log heard
CanHear stage p dir b request log heard = CanAnswer p b request log heard
