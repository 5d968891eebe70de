-- What the lines of a work show of its walk.
use Rattle.std.specs.Prelude.{◌≡◌, ℕ, true, false, Some}
use Rattle.afr_base.specs.declared.ids.Kind.TheVariants.{Names}
use Rattle.afr_lines.specs.Work.{Work}
use Rattle.afr_lines.specs.declared.reply.Reply.{Reply}
use Rattle.afr_lines.specs.declared.reply.Reply.TheVariants.{Failed}
use Rattle.afr_object.specs.Tables.{is_dir}
use Rattle.afr_object.specs.declared.entry.Entry.{Entry}
use Rattle.afr_plan.specs.declared.command.Command.{Command}
use Rattle.afr_plan.specs.declared.plan.Plan.{Plan}
use Rattle.afr_model.specs.Answered.{is_by_views}
use Rattle.afr_model.specs.Commands.{path_of, is_on_name}
use Rattle.afr_model.specs.Refusals.{or_else, read_refused, by_path}
use Rattle.afr_model.specs.Showing.{At, NotAsked, has, path_by, reading_by, refuses_read}
use Rattle.afr_model.specs.Skipped.{AsksAll}
use Rattle.afr_model.specs.Standing.{area_here, looks_here}
use Rattle.afr_client_walk.specs.Stops.{reply_of}
use Rattle.afr_client_walk.specs.declared.walk.Walk.{Walk}
use Rattle.afr_client_walk.specs.declared.walk.WalkStep.{WalkStep}
use Rattle.afr_client_walk.specs.declared.walk.WalkStep.TheVariants.{Looking, Naming, Arrived, Stopped}
use Rattle.afr_law_client.specs.Read.Lines.{OnlyReads, LookedAll, LookedBut}
use Rattle.afr_law_client.specs.Read.Looks.{LooksAgree, IsSource}

-- no read was refused, none was made of an object, and so many names have led to this object
pub record GoesOn (p : Plan) (read : ℕ) (object : Entry) (lines : Work) : Type 0 where
  pub only : OnlyReads p.shape.n lines
  pub unread : reading_by p lines ≡ NotAsked
  pub unrefused : has refuses_read lines ≡ false
  pub path : path_by p lines ≡ At read object

-- a walk has ended early: the reply has its cause, one by views asked every brick, and a failure was told by a brick
pub record Stops (p : Plan) (c : Command) (lines : Work) (said : Reply) : Type 0 where
  pub only : OnlyReads p.shape.n lines
  pub cause : or_else (read_refused lines) (by_path p c (path_by p lines) lines) ≡ Some said
  pub asked : is_by_views said ≡ true → AsksAll p.shape.n (looks_here c (path_by p lines)) (area_here c (path_by p lines)) lines
  pub failed : said ≡ Failed → has refuses_read lines ≡ true
  pub all : LookedAll p.shape.n lines

-- by the step of the walk, after so many names, at an object
abbrev pub TellsAt : Plan → Command → WalkStep → ℕ → Entry → Work → Type 0
TellsAt p c (Looking s) read object lines = GoesOn p read object lines × (is_dir object.what ≡ true) × LooksAgree p.shape.n object.gfid s lines × LookedBut p.shape.n object.gfid lines
TellsAt p c (Naming b) read object lines = GoesOn p read object lines × (is_dir object.what ≡ true) × IsSource p object.gfid Names b.0 lines × LookedAll p.shape.n lines
TellsAt p c Arrived read object lines = GoesOn p read object lines × LookedAll p.shape.n lines
TellsAt p c (Stopped why) read object lines = Stops p c lines (reply_of why)

-- the lines of a work show where its walk stands; the command is one whose whole path is walked
pub record WalkTells (p : Plan) (c : Command) (w : Walk) (lines : Work) : Type 0 where
  pub shape : w.shape ≡ p.shape
  pub path : w.path ≡ path_of c
  pub whole : is_on_name c ≡ false
  pub step : TellsAt p c w.step w.read w.object lines
