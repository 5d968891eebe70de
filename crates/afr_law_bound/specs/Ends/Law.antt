-- A run in the stated order ends within its bound.
use Rattle.std.specs.Prelude.{◌≡◌, ℕ, ◌+◌, ◌*◌, ◌<◌, ◌≤◌, ◌||◌, Bool, false, true, List, [], ◌∷◌, length, if◌then◌else◌}
use Rattle.afr_lines.specs.Log.{EachLine}
use Rattle.afr_lines.specs.Work.{is_of}
use Rattle.afr_lines.specs.declared.line.Line.{Line}
use Rattle.afr_model.specs.Actors.{IsActor, is_done}
use Rattle.afr_model.specs.Complete.{IsComplete}
use Rattle.afr_model.specs.Ordered.{IsOrdered, actors_of}
use Rattle.afr_plan.specs.declared.plan.Plan.{Plan}
use Rattle.afr_law_bound.specs.Ends.Cost.{AreWithinCost, is_held_back}
use Rattle.afr_law_bound.specs.Ends.Left.{bound_of}
use Rattle.afr_law_bound.specs.Standstill.Law.{IsPresumed}

-- a log in the stated order, whose works are within their costs, is shorter than the bound as long as an actor has something left to do
abbrev pub EndsWithin : Type 0
EndsWithin = (p : Plan) (log : List Line) → IsPresumed p log → AreWithinCost p log → IsOrdered p log → (a : ℕ) → IsActor p a → is_done p a log ≡ false → length log < bound_of p

-- a complete log in the stated order, with as many turns as the bound, has done all
abbrev pub EndsDone : Type 0
EndsDone = (p : Plan) (log : List Line) → IsPresumed p log → AreWithinCost p log → IsOrdered p log → IsComplete p log → bound_of p ≤ p.turns → (a : ℕ) → IsActor p a → is_done p a log ≡ true

-- whether an actor was told since the last other line that another holds its lock
abbrev pub is_back : ℕ → List Line → Bool
is_back a [] = false
is_back a (line ∷ older) = if is_held_back line then is_of a line || is_back a older else false

-- a line that tells an actor so comes only after another one
abbrev pub IsEagerLine : Line → List Line → Type 0
IsEagerLine line older = is_held_back line ≡ true → (a : ℕ) → is_of a line ≡ true → is_back a older ≡ false

-- between two lines that tell one actor so, another line stands
abbrev pub AreEager : List Line → Type 0
AreEager log = EachLine IsEagerLine log

-- a log in whatever order, in which nobody asks in vain twice running, is shorter than this as long as an actor has something left to do
abbrev pub EagerEndsWithin : Type 0
EagerEndsWithin =
    (p : Plan) (log : List Line) → IsPresumed p log → AreWithinCost p log → AreEager log → (a : ℕ) → IsActor p a → is_done p a log ≡ false → length log < 2 * bound_of p + length (actors_of p) * length p.events
