-- What a brick may tell, who missed something, and when nothing has failed.
use Rattle.std.specs.Prelude.{◌≡◌, ℕ, Bool, true, false, List}
use Rattle.afr_base.specs.Bricks.{member}
use Rattle.afr_base.specs.declared.ids.Gfid.{Gfid}
use Rattle.afr_choice.specs.Verdict.{is_holder}
use Rattle.afr_lines.specs.Work.{Work}
use Rattle.afr_lines.specs.declared.answer.Told.{Told}
use Rattle.afr_lines.specs.declared.answer.Told.TheVariants as as_told
use Rattle.afr_lines.specs.declared.line.Line.{Line}
use Rattle.afr_lines.specs.declared.line.Line.TheVariants.{Ask}
use Rattle.afr_lines.specs.declared.request.Area.{Area}
use Rattle.afr_lines.specs.declared.request.Request.{Request}
use Rattle.afr_lines.specs.declared.request.Request.TheVariants as request
use Rattle.afr_model.specs.Blamed.{missing}
use Rattle.afr_model.specs.Showing.{is_done, is_fault, is_faulted, is_granted, is_held, among, has, locks, looking, looked_by, preparing, prepared, applying, applied_at, posting, posted}
use Rattle.afr_model.specs.Standing.{since, locks_any, asking, getting}

-- ---- answers
-- the brick showed its copy
abbrev pub is_seen : Told → Bool
is_seen (as_told.Seen view) = true
is_seen told = false

-- the brick refused, couldn't be reached, or lacks the object
abbrev pub is_miss : Told → Bool
is_miss as_told.NoObject = true
is_miss told = is_fault told

-- a brick did what it was asked, or missed it; a lock needs no object, and of it the brick may also say who is in the way
abbrev pub Fits : Request → Told → Type 0
Fits (request.Lock domain area) told = is_granted told ≡ false → is_held told ≡ false → is_fault told ≡ true
Fits (request.Look g) told = is_seen told ≡ false → is_miss told ≡ true
Fits (request.Pre g kind) told = is_done told ≡ false → is_miss told ≡ true
Fits (request.Apply attempt) told = is_done told ≡ false → is_miss told ≡ true
Fits request told = Unit {0}

-- the same of a line
abbrev pub LineFits : Line → Type 0
LineFits (Ask a b request told took) = Fits request told
LineFits line = Unit {0}

-- a brick that has the object did a phase, or failed
abbrev pub FitsPhase : Request → Told → Type 0
FitsPhase (request.Pre g kind) told = is_done told ≡ false → is_fault told ≡ true
FitsPhase (request.Apply attempt) told = is_done told ≡ false → is_fault told ≡ true
FitsPhase (request.Post attempt g kind missed) told = is_done told ≡ false → is_fault told ≡ true
FitsPhase request told = Unit {0}

-- the same of a line
abbrev pub LineFitsPhase : Line → Type 0
LineFitsPhase (Ask a b request told took) = FitsPhase request told
LineFitsPhase line = Unit {0}

-- ---- those that missed something
-- the bricks that missed something that an operation on the object needs, since the work's first lock
abbrev pub missed_by : Gfid → Work → List ℕ
missed_by g w = among (missing g) (since locks_any w)

-- each brick that was asked and didn't do it missed something
abbrev pub Excuses : List ℕ → List ℕ → List ℕ → Type 0
Excuses missed asked did = (b : ℕ) → member asked b ≡ true → member did b ≡ false → member missed b ≡ true

-- who was asked for a lock, for the pre-op or for the operation and didn't give it, or was looked at since a lock and showed nothing, missed something,
-- whichever object it is asked of; but that it lacks an object counts for that object alone
pub record AreExcused (w : Work) : Type 0 where
  pub locked : (g : Gfid) (area : Area) → Excuses (missed_by g w) (among (asking area) w) (among (getting area) w)
  pub looked : (g : Gfid) → has (locks g) w ≡ true → (b : ℕ) → member (among (looking g) w) b ≡ true → is_holder (looked_by g w) b ≡ false → member (missed_by g w) b ≡ true
  pub pre : (g : Gfid) → Excuses (missed_by g w) (among preparing w) (among prepared w)
  pub apply : (g : Gfid) → Excuses (missed_by g w) (among applying w) (among applied_at w)

-- a phase comes after the locks
abbrev pub ComesLocked : Request → Work → Type 0
ComesLocked (request.Pre g kind) w = has locks_any w ≡ true
ComesLocked (request.Apply attempt) w = has locks_any w ≡ true
ComesLocked request w = Unit {0}

-- ---- nothing has failed
-- all that were asked for a phase did it
pub record DidAll (pre pre_did apply apply_did post post_did : List ℕ) : Type 0 where
  pub pre_is : pre_did ≡ pre
  pub apply_is : apply_did ≡ apply
  pub post_is : post_did ≡ post

-- where no request of the attempt was told a fault, all that were asked did it
abbrev pub IsCalm : Work → Type 0
IsCalm w = is_faulted w ≡ false → DidAll (among preparing w) (among prepared w) (among applying w) (among applied_at w) (among posting w) (among posted w)
