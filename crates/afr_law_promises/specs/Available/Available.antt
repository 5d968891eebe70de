-- A change is acknowledged where enough bricks did their part of it, whatever the others did.
use Rattle.std.specs.Prelude.{◌≡◌, ℕ, ◌≤◌, nat_le, Bool, true, false, List, [], Some, length, slice_get}
use Rattle.afr_base.specs.Bricks.{added_if, member}
use Rattle.afr_base.specs.declared.ids.Gfid.{Gfid}
use Rattle.afr_base.specs.declared.ids.NameId.{NameId}
use Rattle.afr_base.specs.declared.ids.What.TheVariants.{File}
use Rattle.afr_object.specs.Tables.{object_of}
use Rattle.afr_object.specs.declared.change.Change.{Change}
use Rattle.afr_object.specs.declared.change.Change.TheVariants.{Make}
use Rattle.afr_lines.specs.Areas.{kind_for}
use Rattle.afr_lines.specs.Log.{EachLine}
use Rattle.afr_lines.specs.Work.{Work, ended, work}
use Rattle.afr_lines.specs.declared.line.Line.{Line}
use Rattle.afr_lines.specs.declared.line.Line.TheVariants.{Ask, Begin, End}
use Rattle.afr_lines.specs.declared.reply.Good.TheVariants as good
use Rattle.afr_lines.specs.declared.reply.Reply.{Reply}
use Rattle.afr_lines.specs.declared.reply.Reply.TheVariants.{Ok, Half}
use Rattle.afr_lines.specs.declared.request.Request.TheVariants.{Unlock}
use Rattle.afr_plan.specs.declared.command.Command.TheVariants.{Rename}
use Rattle.afr_plan.specs.declared.plan.Plan.{Plan}
use Rattle.afr_law.specs.Exactly.{IsLawfulExactly}
use Rattle.afr_model.specs.Actors.{script_of}
use Rattle.afr_model.specs.Following.{Follows}
use Rattle.afr_model.specs.Honest.{Honest}
use Rattle.afr_model.specs.Replied.{Replied}
use Rattle.afr_model.specs.Showing.{among, applied_at, applying, is_fault, looked_by, posted, posting, prepared, preparing}
use Rattle.afr_model.specs.Standing.{change_by, suffices}

-- ---- by what bricks did
-- brick b did all of the attempt that it was asked for: the pre-op, and the operation and the post-op where they were asked of it
pub record DidItsPart (w : Work) (b : ℕ) : Type 0 where
  pub pre : member (among prepared w) b ≡ true
  pub operation : member (among applying w) b ≡ true → member (among applied_at w) b ≡ true
  pub post : member (among posting w) b ≡ true → member (among posted w) b ≡ true

-- bricks that did their part of the work's change are a majority with a copy that was good by its last looks
pub record IsBorne (p : Plan) (w : Work) : Type 0 where
  pub change : Change
  pub begun : change_by w ≡ Some change
  pub bricks : List ℕ
  pub parts : (b : ℕ) → member bricks b ≡ true → DidItsPart w b
  pub enough : suffices p.shape (kind_for change) (looked_by (object_of change) w) bricks ≡ true

-- the reply says that the change is stored: ok, or half, where it is the making of a rename's new name
pub data SaysStored (p : Plan) (a : ℕ) (older : List Line) (change : Change) (said : Reply) : Type 0 where
  ByOk : said ≡ Ok good.Done → SaysStored p a older change said
  ByHalf : said ≡ Half → (from to : List NameId) → slice_get (script_of p a) (ended a older) ≡ Some (Rename from to) → (dir g : Gfid) (name : NameId) → change ≡ Make dir name g File → SaysStored p a older change said

-- a client's command whose last change such bricks bore ends with a reply that says so
abbrev pub AnswersBorne : Plan → Line → List Line → Type 0
AnswersBorne p (End a said) older = nat_le a.0 16 ≡ true → (k : IsBorne p (work a.0 older)) → SaysStored p a.0 older k.change said
AnswersBorne p line older = Unit {0}

-- so it is with every End line of a log that follows its plan and is replied
abbrev pub ModelAnswersBorne : Type 0
ModelAnswersBorne = (crawl : Bool) (p : Plan) (log : List Line) → Follows crawl p log → Replied p log → EachLine (AnswersBorne p) log

-- ---- by what bricks told
-- the bricks that refused or couldn't be reached since the work's Begin line, unlocks aside
abbrev pub failing : Line → List ℕ → List ℕ
failing (Begin a change) s = []
failing (Ask a b (Unlock domain area) told took) s = s
failing (Ask a b request told took) s = added_if (is_fault told) b.0 s
failing line s = s

-- brick b was asked for the pre-op, and failed at nothing since the work's Begin line
pub record FailsNothing (w : Work) (b : ℕ) : Type 0 where
  pub asked : member (among preparing w) b ≡ true
  pub unfailed : member (among failing w) b ≡ false

-- bricks that failed at nothing of the work's change are a majority with a copy that was good by its last looks
pub record IsUnfailed (p : Plan) (w : Work) : Type 0 where
  pub change : Change
  pub begun : change_by w ≡ Some change
  pub bricks : List ℕ
  pub each : (b : ℕ) → member bricks b ≡ true → FailsNothing w b
  pub enough : suffices p.shape (kind_for change) (looked_by (object_of change) w) bricks ≡ true

-- a client's command whose last change such bricks were asked for ends with a reply that says it is stored, whatever the other bricks told
abbrev pub IsAvailable : Plan → Line → List Line → Type 0
IsAvailable p (End a said) older = nat_le a.0 16 ≡ true → (k : IsUnfailed p (work a.0 older)) → SaysStored p a.0 older k.change said
IsAvailable p line older = Unit {0}

-- so it is with every End line of an honest log of at most 4,000,000 lines that keeps the discipline in full, follows its plan and is replied
abbrev pub ModelExactIsAvailable : Type 0
ModelExactIsAvailable =
    (crawl : Bool) (p : Plan) (log : List Line) → p.shape.n ≤ 5 → length log ≤ 4000000 → Follows crawl p log → Honest p log → IsLawfulExactly p log → Replied p log → EachLine (IsAvailable p) log
