-- How many lines a walk has left at most, and that each of its lines takes one from them.
use Rattle.std.specs.Prelude.{◌≡◌, ℕ, ◌+◌, ◌*◌, ◌-◌, ◌≤◌, true, List, length}
use Rattle.afr_base.specs.declared.ids.BrickId.{BrickId}
use Rattle.afr_base.specs.declared.ids.NameId.{NameId}
use Rattle.afr_base.specs.declared.ids.Shape.{Shape}
use Rattle.afr_lines.specs.declared.answer.Answer.{Answer}
use Rattle.afr_law_pace.specs.Left.{count}
use Rattle.afr_client_walk.specs.Looks.{left_to_look}
use Rattle.afr_client_walk.specs.Walk.{IsWalk, is_walking, walk_from, walked}
use Rattle.afr_client_walk.specs.declared.walk.Walk.{Walk}
use Rattle.afr_client_walk.specs.declared.walk.WalkStep.{WalkStep}
use Rattle.afr_client_walk.specs.declared.walk.WalkStep.TheVariants.{Looking, Naming}

-- the lines for the names after the next one: looks and a read for each
abbrev pub for_others : Walk → ℕ
for_others w = (length w.path - (w.read + 1)) * (w.shape.n + 1)

-- the lines that a walk has left
abbrev pub walk_left_at : WalkStep → Walk → ℕ
walk_left_at (Looking s) w = for_others w + count w.shape.n (left_to_look w.shape.n s) + 1
walk_left_at (Naming b) w = for_others w + 1
walk_left_at step w = 0

abbrev pub walk_left : Walk → ℕ
walk_left w = walk_left_at w.step w

-- whatever is answered, and whichever copy is read next
abbrev pub WalkComesNearer : Type 0
WalkComesNearer = (w : Walk) → IsWalk w → is_walking w.step ≡ true → (chosen : BrickId) (heard : Answer) (at : ℕ) → walk_left (walked chosen heard at w) + 1 ≤ walk_left w

-- at the beginning looks and a read for each name
abbrev pub WalkStartsWithin : Type 0
WalkStartsWithin = (shape : Shape) (path : List NameId) → walk_left (walk_from shape path) ≤ length path * (shape.n + 1)
