-- What the words of a write, a cut and a setattr say, once their path has led to their object.
use Rattle.std.specs.Prelude.{◌≡◌, ℕ, ◌==◌, Bool, true, false, List, [], ◌∷◌, Some, None, length}
use Rattle.afr_base.specs.declared.ids.NameId.{NameId}
use Rattle.afr_base.specs.declared.ids.What.{What}
use Rattle.afr_choice.specs.Verdict.{holders_of}
use Rattle.afr_lines.specs.Areas.{area_for, kind_for}
use Rattle.afr_lines.specs.Work.{Work}
use Rattle.afr_lines.specs.declared.line.Line.{Line}
use Rattle.afr_lines.specs.declared.line.Line.TheVariants.{Ask, Begin}
use Rattle.afr_lines.specs.declared.reply.Good.TheVariants as good
use Rattle.afr_lines.specs.declared.reply.Reply.{Reply}
use Rattle.afr_lines.specs.declared.reply.Reply.TheVariants as reply
use Rattle.afr_lines.specs.declared.request.Request.TheVariants.{Lock, Unlock, Look, Pre, Apply, Post}
use Rattle.afr_object.specs.Tables.{is_dir, object_of}
use Rattle.afr_object.specs.declared.change.Change.{Change}
use Rattle.afr_object.specs.declared.entry.Entry.{Entry}
use Rattle.afr_plan.specs.declared.command.Command.{Command}
use Rattle.afr_plan.specs.declared.command.Command.TheVariants as command
use Rattle.afr_plan.specs.declared.plan.Plan.{Plan}
use Rattle.afr_lines.specs.declared.lock.Domain.TheVariants.{Work as WorkDomain}
use Rattle.afr_model.specs.Answered.{IsAnswered, IsAsked, answer, by_posts}
use Rattle.afr_model.specs.Commands.{area_on, change_on, is_on_name, path_of, steps_of}
use Rattle.afr_model.specs.Keeping.{Names}
use Rattle.afr_model.specs.Refusals.{by_locks, refusal, too_large}
use Rattle.afr_model.specs.Showing.{At, has, looked_by, path_by, reading_by, refuses_read}
use Rattle.afr_model.specs.Skipped.{takers}
use Rattle.afr_model.specs.Standing.{area_here, looks_here, place_by}
use Rattle.afr_client_walk.specs.declared.walk.Walk.{Walk}
use Rattle.afr_law_client.specs.Read.WalkLaws.{HasArrived}

-- bytes are a file's, attributes are of files and directories
abbrev pub IsFor : Command → What → Type 0
IsFor (command.Write path at bytes) what = is_dir what ≡ false
IsFor (command.Cut path len) what = is_dir what ≡ false
IsFor other what = Unit {0}

-- the command's words name this change of the object, which is one for it, and lock the change's area
pub record IsChangeOf (c : Command) (object : Entry) (change : Change) : Type 0 where
  pub named : change_on object.gfid c ≡ Some change
  pub locks : area_on object.gfid c ≡ Some (area_for change)
  pub suits : IsFor c object.what
  pub fits : too_large c ≡ None

-- the whole path has led to the object, and no read was refused
pub record IsAtEnd (p : Plan) (c : Command) (object : Entry) (w : Work) : Type 0 where
  pub led : path_by p w ≡ At (length (path_of c)) object
  pub unrefused : has refuses_read w ≡ false

-- there its locks and looks refuse it, its post-ops answer it, it locks its area and looks at its object, and begins its change at the holders
pub record ChangeStands (p : Plan) (c : Command) (object : Entry) (change : Change) (w : Work) : Type 0 where
  pub whole : is_on_name c ≡ false
  pub object_is : object_of change ≡ object.gfid
  pub refuses : refusal p c w ≡ by_locks p.shape (kind_for change) (area_for change) w
  pub answers : answer p c w ≡ by_posts p.shape w
  pub place : place_by p c w ≡ At (steps_of c) object
  pub locks : area_here c (path_by p w) ≡ Some (area_for change)
  pub looks : looks_here c (path_by p w) ≡ Some object.gfid
  pub takes : takers c (object_of change) (path_by p w) w ≡ holders_of (looked_by object.gfid w)
  pub asked : IsAsked p c w
  pub names : (at : ℕ) → Names p c w at change

-- so it stands, whatever else its lines show
abbrev pub ChangesStand : Type 0
ChangesStand = (p : Plan) (c : Command) (object : Entry) (change : Change) (w : Work) → IsChangeOf c object change → IsAtEnd p c object w → ChangeStands p c object change w

-- a write that is too large is answered before it asks anything
abbrev pub LargeEnds : Type 0
LargeEnds = (p : Plan) (c : Command) (said : Reply) → too_large c ≡ Some said → IsAnswered p c [] said

-- a change of the bytes of a directory is answered once its path has led there
abbrev pub DirectoryEnds : Type 0
DirectoryEnds = (p : Plan) (c : Command) (w : Walk) (lines : Work) → HasArrived p c w lines → too_large c ≡ None → is_on_name c ≡ false → (IsFor c w.object.what → ⊥) → IsAnswered p c lines reply.IsDir

-- a write of no bytes is done once its path has led to a file
abbrev pub NothingEnds : Type 0
NothingEnds =
    (p : Plan) (path : List NameId) (at : ℕ) (bytes : List ℕ) (w : Walk) (lines : Work)
    → HasArrived p (command.Write path at bytes) w lines → too_large (command.Write path at bytes) ≡ None → is_dir w.object.what ≡ false → (length bytes == 0) ≡ true
    → IsAnswered p (command.Write path at bytes) lines (reply.Ok good.Done)

-- a line of a transaction: its locks and unlocks, its lookups, its attempt, and the phases of this
abbrev pub is_of_change : Line → Bool
is_of_change (Ask a b (Lock WorkDomain area) told took) = true
is_of_change (Ask a b (Unlock WorkDomain area) told took) = true
is_of_change (Ask a b (Look g) told took) = true
is_of_change (Ask a b (Pre g kind) told took) = true
is_of_change (Ask a b (Apply attempt) told took) = true
is_of_change (Ask a b (Post attempt g kind missed) told took) = true
is_of_change (Begin a change) = true
is_of_change line = false

-- such a line leads the path nowhere else, and reads nothing
abbrev pub ChangeKeepsPath : Type 0
ChangeKeepsPath =
    (p : Plan) (c : Command) (object : Entry) (line : Line) (older : List Line) (w : Work) → is_of_change line ≡ true → IsAtEnd p c object w
    → IsAtEnd p c object ((line, older) ∷ w) × (reading_by p ((line, older) ∷ w) ≡ reading_by p w)
