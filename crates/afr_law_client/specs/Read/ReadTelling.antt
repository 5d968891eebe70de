-- What the lines of a work show of its read.
use Rattle.std.specs.Prelude.{◌≡◌, ℕ, ◌==◌, false, List, length}
use Rattle.afr_base.specs.declared.ids.NameId.{NameId}
use Rattle.afr_base.specs.declared.ids.What.{What}
use Rattle.afr_lines.specs.Work.{Work}
use Rattle.afr_object.specs.Tables.{is_dir, is_file}
use Rattle.afr_object.specs.declared.entry.Entry.{Entry}
use Rattle.afr_plan.specs.declared.command.Command.{Command}
use Rattle.afr_plan.specs.declared.command.Command.TheVariants as command
use Rattle.afr_plan.specs.declared.plan.Plan.{Plan}
use Rattle.afr_model.specs.Answered.{IsAnswered}
use Rattle.afr_client_walk.specs.declared.walk.Walk.{Walk}
use Rattle.afr_client_read.specs.Job.{kind_of}
use Rattle.afr_client_read.specs.Lookup.{Lookup}
use Rattle.afr_client_read.specs.declared.job.Wanted.{Wanted}
use Rattle.afr_client_read.specs.declared.job.Wanted.TheVariants as content
use Rattle.afr_client_read.specs.declared.job.LookupJob.{LookupJob}
use Rattle.afr_client_read.specs.declared.job.LookupJob.TheVariants.{Read, GetAttr, Ls, Stat}
use Rattle.afr_client_read.specs.declared.stage.LookupStage.{LookupStage}
use Rattle.afr_client_read.specs.declared.stage.LookupStage.TheVariants.{Walking, Looking, Reading, Ending}
use Rattle.afr_law_client.specs.Read.Lines.{LookedAll, LookedBut}
use Rattle.afr_law_client.specs.Read.Looks.{LooksAgree, IsSource}
use Rattle.afr_law_client.specs.Read.WalkTelling.{GoesOn, WalkTells}

-- the command that a read carries out
abbrev pub command_of : LookupJob → List NameId → Command
command_of (Read at len) path = command.Read path at len
command_of (GetAttr key) path = command.GetAttr path key
command_of Ls path = command.Ls path
command_of Stat path = command.Stat path

-- what was found is what the job is for
abbrev pub IsSuited : LookupJob → What → Type 0
IsSuited (Read at len) what = is_dir what ≡ false
IsSuited Ls what = is_file what ≡ false
IsSuited other what = Unit {0}

-- what is read is what the job names
abbrev pub IsNamed : LookupJob → Wanted → Type 0
IsNamed (Read at len) of = (of ≡ content.Bytes at len) × ((len == 0) ≡ false)
IsNamed (GetAttr key) of = of ≡ content.Value key
IsNamed Ls of = of ≡ content.Names
IsNamed Stat of = ⊥

-- the whole path has led to an object for the job
pub record IsAtObject (p : Plan) (job : LookupJob) (names : List NameId) (read : ℕ) (object : Entry) (lines : Work) : Type 0 where
  pub goes : GoesOn p read object lines
  pub whole : read ≡ length names
  pub suited : IsSuited job object.what

-- by the stage of the read
abbrev pub TellsIn : Plan → LookupJob → LookupStage → Walk → Work → Type 0
TellsIn p job Walking w lines = WalkTells p (command_of job w.path) w lines
TellsIn p job (Looking s) w lines = IsAtObject p job w.path w.read w.object lines × LooksAgree p.shape.n w.object.gfid s lines × LookedBut p.shape.n w.object.gfid lines
TellsIn p job (Reading b of) w lines = IsAtObject p job w.path w.read w.object lines × IsNamed job of × IsSource p w.object.gfid (kind_of job w.object.what) b.0 lines × LookedAll p.shape.n lines
TellsIn p job (Ending said) w lines = IsAnswered p (command_of job w.path) lines said

-- the lines of a work show where its read stands
pub record ReadTells (p : Plan) (m : Lookup) (lines : Work) : Type 0 where
  pub shape : m.walk.shape ≡ p.shape
  pub stage : TellsIn p m.job m.stage m.walk lines
