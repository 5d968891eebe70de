-- The locks on a brick.
use Rattle.afr_lines.specs.Overlap.{same_area}
use Rattle.std.specs.Prelude.{ℕ, ◌==◌, ◌&&◌, not, Bool, false, List, [], ◌∷◌, ◌++◌, filter, if◌then◌else◌}
use Rattle.afr_lines.specs.declared.answer.Told.TheVariants.{Granted}
use Rattle.afr_lines.specs.declared.line.Line.{Line}
use Rattle.afr_lines.specs.declared.line.Line.TheVariants.{Ask}
use Rattle.afr_lines.specs.declared.request.Area.{Area}
use Rattle.afr_lines.specs.declared.request.Request.TheVariants.{Lock, Unlock}
use Rattle.afr_lines.specs.Locks.{is_lock}
use Rattle.afr_lines.specs.declared.lock.HeldLock.{HeldLock}
use Rattle.afr_model.specs.Sessions.{ends_session}

-- a request to unlock releases a lock of its owner with the same domain and area
abbrev pub releases : Line → ℕ → HeldLock Area → Bool
releases (Ask a y (Unlock domain area) told took) b lock = took && (y.0 == b) && is_lock same_area (record { owner = a; domain = domain; area = area }) lock
releases line b lock = false

-- a lock outlives a line that neither releases it nor ends its owner's session
abbrev pub outlives : Line → ℕ → HeldLock Area → Bool
outlives line b lock = not (releases line b lock) && not (ends_session lock.owner.0 b line)

-- the lock that a line grants on brick b
abbrev pub granted_by_line : ℕ → Line → List (HeldLock Area)
granted_by_line b (Ask a y (Lock domain area) Granted took) = if y.0 == b then record { owner = a; domain = domain; area = area } ∷ [] else []
granted_by_line b line = []

-- the locks on brick b, in the order in which they were granted
abbrev pub locks_held : ℕ → List Line → List (HeldLock Area)
locks_held b [] = []
locks_held b (line ∷ older) = filter (outlives line b) (locks_held b older) ++ granted_by_line b line
