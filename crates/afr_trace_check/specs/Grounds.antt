-- Who is accused in a given log, and why, though its actors may keep no other rule.
use Rattle.std.specs.Prelude.{◌≡◌, ℕ, ◌==◌, ◌&&◌, Bool, true, false, List, [], ◌∷◌, Some, if◌then◌else◌}
use Rattle.afr_base.specs.Bricks.{added_if, below, member, minus}
use Rattle.afr_base.specs.declared.ids.Gfid.{Gfid}
use Rattle.afr_base.specs.declared.ids.Kind.{Kind}
use Rattle.afr_lines.specs.Areas.{kind_for, object_of_area}
use Rattle.afr_lines.specs.Log.{EachLine}
use Rattle.afr_lines.specs.Work.{Work, work}
use Rattle.afr_lines.specs.declared.answer.Told.{Told}
use Rattle.afr_lines.specs.declared.answer.Told.TheVariants as as_told
use Rattle.afr_lines.specs.declared.line.Line.{Line}
use Rattle.afr_lines.specs.declared.line.Line.TheVariants.{Ask}
use Rattle.afr_lines.specs.declared.request.Request.TheVariants as request
use Rattle.afr_model.specs.Showing.{among, begun_by, is_done, is_fault, looked_by}
use Rattle.afr_model.specs.Standing.{change_by, since, suffices}
use Rattle.afr_object.specs.Tables.{object_of}
use Rattle.afr_object.specs.declared.change.Change.{Change}
use Rattle.afr_plan.specs.declared.plan.Plan.{Plan}

-- ---- the attempt, by all lines of the log, whoever wrote them
-- the bricks that some lines give, the oldest line first
abbrev pub over : (Line → List ℕ → List ℕ) → List Line → List ℕ
over f [] = []
over f (line ∷ older) = f line (over f older)

-- those that did the operation of this attempt
abbrev pub doing : ℕ → Line → List ℕ → List ℕ
doing k (Ask a b (request.Apply attempt) told took) s = added_if (is_done told && (attempt == k)) b.0 s
doing k line s = s

-- those that were asked for its post-op
abbrev pub closing : ℕ → Line → List ℕ → List ℕ
closing k (Ask a b (request.Post attempt g kind missed) told took) s = added_if (attempt == k) b.0 s
closing k line s = s

-- ---- the command, by the lines of its work
-- a line asks for a lock
abbrev pub asks_lock : Line → Bool
asks_lock (Ask a b (request.Lock domain area) told took) = true
asks_lock line = false

-- and for one on the object
abbrev pub locks_object : Gfid → Line → Bool
locks_object g (Ask a b (request.Lock domain area) told took) = (object_of_area area).0 == g.0
locks_object g line = false

-- the lines after the last one that passes
abbrev pub after_last : (Line → Bool) → Work → Work
after_last test [] = []
after_last test (x ∷ w) = if test x.0 then [] else x ∷ after_last test w

-- the brick lacks an object, refused, or couldn't be reached
abbrev pub refuses : Told → Bool
refuses as_told.NoObject = true
refuses told = is_fault told

-- the bricks that told so
abbrev pub refusing : Line → List ℕ → List ℕ
refusing (Ask a b asked told took) s = added_if (refuses told) b.0 s
refusing line s = s

-- ---- a post-op
-- it is of the last attempt that its actor's work has begun, and the first of this attempt at its brick; it is asked where the operation was done, which is at a majority
-- with a good copy by the work's last looks, after its last lock on the object; and it accuses exactly the other bricks, each of which refused something since the work's first lock
pub record HasGrounds (p : Plan) (attempt : ℕ) (g : Gfid) (kind : Kind) (missed : List ℕ) (b : ℕ) (w : Work) (older : List Line) : Type 0 where
  pub change : Change
  pub begun : begun_by w ≡ Some attempt
  pub is_change : change_by w ≡ Some change
  pub object : g ≡ object_of change
  pub counted : kind ≡ kind_for change
  pub once : member (over (closing attempt) older) b ≡ false
  pub did : member (over (doing attempt) older) b ≡ true
  pub enough : suffices p.shape kind (looked_by g (after_last (locks_object g) w)) (over (doing attempt) older) ≡ true
  pub others : missed ≡ minus (below p.shape.n) (over (doing attempt) older)
  pub why : (c : ℕ) → member missed c ≡ true → member (among refusing (since asks_lock w)) c ≡ true

-- a line that is a post-op has its grounds
abbrev pub IsGrounded : Plan → Line → List Line → Type 0
IsGrounded p (Ask a b (request.Post attempt g kind missed) told took) older = HasGrounds p attempt g kind missed b.0 (work a.0 older) older
IsGrounded p line older = Unit {0}

-- every accusation has its grounds
abbrev pub AreGrounded : Plan → List Line → Type 0
AreGrounded p log = EachLine (IsGrounded p) log
