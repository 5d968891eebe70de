-- Between two works an actor holds no lock.
use Rattle.std.specs.Prelude.{◌≡◌, ℕ, ◌≤◌, Contains, List, length}
use Rattle.afr_lines.specs.Log.{EveryPrefix}
use Rattle.afr_lines.specs.Places.{Within, place_of}
use Rattle.afr_lines.specs.declared.line.Line.{Line}
use Rattle.afr_lines.specs.declared.request.Area.{Area}
use Rattle.afr_lines.specs.declared.lock.HeldLock.{HeldLock}
use Rattle.afr_plan.specs.declared.plan.Plan.{Plan}
use Rattle.afr_law.specs.Exactly.{IsLawfulExactly}
use Rattle.afr_model.specs.Honest.{Honest}
use Rattle.afr_model.specs.Locks.{locks_held}

-- each lock that a brick has is another's
abbrev pub HoldsNone : List Line → ℕ → Type 0
HoldsNone log a = (b : ℕ) (lock : HeldLock Area) → Contains (locks_held b log) lock → lock.owner.0 ≡ a → ⊥

-- who stands between two works, or in a round right after its index or after a heal, holds no lock
abbrev pub AreUnlocked : List Line → Type 0
AreUnlocked log = (a : ℕ) → (place_of a log ≡ Within → ⊥) → HoldsNone log a

-- so it is at every moment of an honest log that keeps the discipline in full
abbrev pub WorksLeaveNoLock : Type 0
WorksLeaveNoLock = (p : Plan) (log : List Line) → p.shape.n ≤ 5 → length log ≤ 4000000 → Honest p log → IsLawfulExactly p log → EveryPrefix AreUnlocked log
