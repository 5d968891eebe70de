-- What the lines of a rename show, part by part, and what its bricks may tell.
use Rattle.std.specs.Prelude.{◌≡◌, ℕ, ◌-◌, ◌==◌, nat_le, Bool, true, false, List, [], ◌∷◌, ◌++◌, Some, None, length}
use Rattle.afr_base.specs.Bricks.{member}
use Rattle.afr_base.specs.declared.ids.Gfid.{Gfid}
use Rattle.afr_base.specs.declared.ids.NameId.{NameId}
use Rattle.afr_base.specs.declared.ids.Shape.{Shape}
use Rattle.afr_base.specs.declared.ids.What.TheVariants.{Dir, File}
use Rattle.afr_object.specs.declared.entry.Entry.{Entry}
use Rattle.afr_discipline.specs.declared.register.Register.{Register}
use Rattle.afr_lines.specs.Told.{told_by}
use Rattle.afr_lines.specs.Work.{Work}
use Rattle.afr_lines.specs.declared.answer.Answer.{Answer}
use Rattle.afr_lines.specs.declared.answer.Answer.TheVariants as answer
use Rattle.afr_lines.specs.declared.line.Line.{Line}
use Rattle.afr_lines.specs.declared.request.Request.{Request}
use Rattle.afr_plan.specs.declared.command.Command.{Command}
use Rattle.afr_plan.specs.declared.command.Command.TheVariants as command
use Rattle.afr_plan.specs.declared.plan.Plan.{Plan}
use Rattle.afr_model.specs.Kept.{entry_by}
use Rattle.afr_model.specs.Parts.{first_part, is_again, names_asked, second_part, the_make, the_removal, the_walk, upto_names}
use Rattle.afr_model.specs.Refusals.{refusal}
use Rattle.afr_model.specs.Renamed.{AreLegs, HasFound, IsMade, IsRenamed, since_name}
use Rattle.afr_model.specs.Showing.{At, NotAsked, Untold, among, has, locks, looking, path_by, reading_by, refuses_read}
use Rattle.afr_model.specs.Skipped.{IsLooked, SkipsNothing}
use Rattle.afr_model.specs.Standing.{change_by, locks_any, place_by}
use Rattle.afr_client_walk.specs.Walk.{walk_from}
use Rattle.afr_client_walk.specs.declared.looks.Looks.{Looks}
use Rattle.afr_client_walk.specs.declared.walk.Walk.{Walk}
use Rattle.afr_client_walk.specs.declared.walk.WalkStep.{WalkStep}
use Rattle.afr_client_walk.specs.declared.walk.WalkStep.TheVariants as walking
use Rattle.afr_client_transaction.specs.Progress.{TransactionProgress}
use Rattle.afr_client_transaction.specs.declared.stage.Stage.{Stage}
use Rattle.afr_client_entry.specs.declared.job.EntryJob.TheVariants.{Create}
use Rattle.afr_client_entry.specs.declared.stage.Found.{Found}
use Rattle.afr_client_entry.specs.declared.stage.Found.TheVariants.{Unread, Fits, Refused}
use Rattle.afr_law_client.specs.Read.Lines.{CanAnswer, LookedAll, LookedBut}
use Rattle.afr_law_client.specs.Read.WalkTelling.{GoesOn, WalkTells}
use Rattle.afr_law_client.specs.Entry.EntryTelling.{CanHearUnder, ChangesName, IsUnread, OnChange, Walks, WasGiven}
use Rattle.afr_client_entry.specs.Renames.Against.{is_same}
use Rattle.afr_client_entry.specs.Renames.Paths.{making_of}
use Rattle.afr_client_entry.specs.Renames.Rename.{Renaming, is_done}
use Rattle.afr_client_entry.specs.declared.renaming.paths.Paths.{Paths}
use Rattle.afr_client_entry.specs.declared.renaming.stage.RenameStage.{RenameStage}
use Rattle.afr_client_entry.specs.declared.renaming.stage.RenameStage.TheVariants.{Finding, Walking, Making, Removing, Ending}
use Rattle.afr_law_client.specs.Second.Held.{Holds}
use Rattle.afr_law_client.specs.Write.WriteTelling.{CanTell}

-- the second path
abbrev pub to_of : Paths → List NameId
to_of x = x.second.path ++ x.new_name ∷ []

-- the directory of the old name
abbrev pub old_dir : Paths → Entry
old_dir x = record { gfid = x.dir; what = Dir }

-- the command that a rename carries out
abbrev pub command_of : Paths → Command
command_of x = command.Rename x.first.path (to_of x)

-- ---- the looks since a name
-- while an object is looked at: each brick that the walk has asked was looked at for it, and every brick for any other object
pub record LegGoes (n : ℕ) (g : Gfid) (s : Looks) (w : Work) : Type 0 where
  pub own : (b : ℕ) → member s.asked b ≡ true → member (among (looking g) w) b ≡ true
  pub but : LookedBut n g w

-- by the step of a walk that stands at this object: before a name, and where the walk has ended, every brick was looked at
abbrev pub IsLeg : ℕ → WalkStep → Gfid → Work → Type 0
IsLeg n (walking.Looking s) g w = LegGoes n g s (since_name w)
IsLeg n step g w = LookedAll n (since_name w)

-- ---- the walk
-- a walk that waits for another, with whose register it will go on
abbrev pub waiting : Shape → List NameId → Register → Walk
waiting shape path r = record (walk_from shape path) { register = r }

-- the first path is walked, and no other line was written: not all of its names were asked
pub record WalksToFile (p : Plan) (x : Paths) (lines : Work) : Type 0 where
  pub tells : WalkTells p (command.Stat x.first.path) x.first lines
  pub asked : names_asked lines ≡ x.first.read
  pub legs : AreLegs p.shape.n lines
  pub leg : IsLeg p.shape.n x.first.step x.first.object.gfid lines
  pub waits : x.second ≡ waiting p.shape x.second.path x.second.register

-- the first path has led to the file, by a name of this directory; a file that is found has a number above 0
pub record HasWalked (p : Plan) (x : Paths) (lines : Work) : Type 0 where
  pub all : nat_le (length x.first.path) (names_asked lines) ≡ true
  pub found : HasFound p x.first.path x.first.object.gfid lines
  pub in_dir : path_by p (upto_names (length x.first.path - 1) lines) ≡ At (length x.first.path - 1) (old_dir x)
  pub numbered : (x.first.object.gfid.0 == 0) ≡ false
  pub unlocked : has locks_any (the_walk x.first.path lines) ≡ false
  pub goes : GoesOn p (length x.first.path) (record { gfid = x.first.object.gfid; what = File }) (the_walk x.first.path lines)
  pub walked : SkipsNothing p (command.Stat x.first.path) (the_walk x.first.path lines)
  pub legs : AreLegs p.shape.n (first_part lines)

-- ---- the making
-- nothing is of a second transaction yet
pub record OnFirst (p : Plan) (x : Paths) (lines : Work) : Type 0 where
  pub walked : HasWalked p x lines
  pub first : second_part lines ≡ []

-- the directory of the new name is walked to, by the lines after the walk
pub record WalksOn (p : Plan) (x : Paths) (lines : Work) : Type 0 where
  pub on : OnFirst p x lines
  pub tells : Walks p x.second (the_make x.first.path lines)
  pub leg : IsLeg p.shape.n x.second.step x.second.object.gfid lines

-- where the directory was locked, and the new name isn't read yet, it was locked after the last name that was
abbrev pub LocksLeg : Found → Gfid → Work → Work → Type 0
LocksLeg (Unread b) g make lines = has (locks g) make ≡ true → has (locks g) (since_name lines) ≡ true
LocksLeg found g make lines = Unit {0}

-- the new name is locked, read and made, by the same lines, as a create's
pub record MakesNewName (p : Plan) (x : Paths) (t : TransactionProgress) (found : Found) (lines : Work) : Type 0 where
  pub on : OnFirst p x lines
  pub last_leg : IsLooked p.shape.n (since_name (first_part lines))
  pub leg : LocksLeg found x.second.object.gfid (the_make x.first.path lines) (first_part lines)
  pub tells : ChangesName p (command.Create (to_of x)) (Create x.new_name) x.second.object t found (the_make x.first.path lines)
  pub holds : Holds t (the_make x.first.path lines)

-- ---- the removal
-- the old name led to the file still
abbrev pub LedToFile : Plan → Paths → Work → Type 0
LedToFile p x w = WasGiven p (command.Unlink x.first.path) (old_dir x) (Some (record { gfid = x.first.object.gfid; what = File })) w

-- or it was given as something else, or not at all
pub data LedElsewhere (p : Plan) (x : Paths) (w : Work) : Type 0 where
  ByFault : has refuses_read w ≡ true → path_by p w ≡ Untold → LedElsewhere p x w
  ByNothing : WasGiven p (command.Unlink x.first.path) (old_dir x) None w → LedElsewhere p x w
  ByOther : (entry : Entry) → is_same x.first.object.gfid entry ≡ false → WasGiven p (command.Unlink x.first.path) (old_dir x) (Some entry) w → LedElsewhere p x w

-- what the lines show of the old name
abbrev pub OldTells : Found → Plan → Paths → Work → Type 0
OldTells (Unread b) p x w = IsUnread p (command.Unlink x.first.path) (old_dir x) w
OldTells Fits p x w = LedToFile p x w
OldTells (Refused why) p x w = LedElsewhere p x w

-- by the last name that was read, where it fits
abbrev pub LastFits : Found → Plan → Paths → Work → Type 0
LastFits Fits p x lines = entry_by p lines ≡ Some (record { gfid = x.first.object.gfid; what = File })
LastFits found p x lines = Unit {0}

-- the old name is locked, read and removed
pub record DropsOldName (p : Plan) (x : Paths) (t : TransactionProgress) (found : Found) (w : Work) : Type 0 where
  pub place : place_by p (command.Unlink x.first.path) w ≡ At (length x.first.path - 1) (old_dir x)
  pub unread : reading_by p w ≡ NotAsked
  pub name : OldTells found p x w
  pub on : OnChange found p t w

-- so it is by the lines of the second transaction, put on the walk to the directory; the first one's are over: under its locks it has made the name, and nothing refuses it
pub record Removes (p : Plan) (x : Paths) (t : TransactionProgress) (found : Found) (lines : Work) : Type 0 where
  pub walked : HasWalked p x lines
  pub again : (line : Line) → is_again line lines ≡ true
  pub locked : has locks_any (first_part lines) ≡ true
  pub last_leg : IsLooked p.shape.n (since_name (first_part lines))
  pub made : IsMade p x.first.path lines
  pub change : change_by (the_make x.first.path lines) ≡ Some (making_of x x.second.object.gfid)
  pub passed : refusal p (command.Create (to_of x)) (the_make x.first.path lines) ≡ None
  pub whole : SkipsNothing p (command.Create (to_of x)) (the_make x.first.path lines)
  pub last : LastFits found p x lines
  pub tells : DropsOldName p x t found (the_removal x.first.path lines)

-- ---- all of it
-- by the stage of the rename
abbrev pub TellsIn : Plan → RenameStage → Paths → Work → Type 0
TellsIn p Finding x lines = WalksToFile p x lines
TellsIn p Walking x lines = WalksOn p x lines
TellsIn p (Making t found) x lines = MakesNewName p x t found lines
TellsIn p (Removing t found) x lines = Removes p x t found lines
TellsIn p (Ending said) x lines = IsRenamed p x.first.path (to_of x) lines said

-- the lines of a work show where its rename stands
pub record RenameTells (p : Plan) (c : Command) (m : Renaming) (lines : Work) : Type 0 where
  pub shape : m.paths.first.shape ≡ p.shape
  pub named : c ≡ command_of m.paths
  pub stage : TellsIn p m.stage m.paths lines

-- ---- what its bricks may tell
-- what a brick may answer on the first path: what its tables show, and what a name leads to has a number above 0
pub record CanFind (p : Plan) (b : ℕ) (request : Request) (log : List Line) (heard : Answer) : Type 0 where
  pub answers : CanAnswer p b request log heard
  pub numbered : (entry : Entry) → heard ≡ answer.Entry (Some entry) → (entry.gfid.0 == 0) ≡ false

-- what it may answer under the locks of the new name; where these are released, that is the old name's lock
abbrev pub CanHearMaking : Bool → Found → Stage → Plan → Paths → ℕ → Request → List Line → Answer → Type 0
CanHearMaking true found stage p x b request log heard = CanTell (old_dir x) request (told_by heard)
CanHearMaking false found stage p x b request log heard = CanHearUnder found stage p x.second.object b request log heard

-- what it may answer, by the stage
abbrev pub CanHear : RenameStage → Plan → Paths → ℕ → Request → List Line → Answer → Type 0
CanHear Finding p x b request log heard = CanFind p b request log heard
CanHear Walking p x b request log heard = CanAnswer p b request log heard
CanHear (Making t found) p x b request log heard = CanHearMaking (is_done t) found t.stage p x b request log heard
CanHear (Removing t found) p x b request log heard = CanHearUnder found t.stage p (old_dir x) b request log heard
CanHear (Ending said) p x b request log heard = Unit {0}
