-- The tasks of the workers, where the healers crawl.
use Rattle.std.specs.Prelude.{ℕ, ◌-◌, ◌&&◌, ◌||◌, nat_le, nat_lt, not, is_some, Bool, true, false, List, [], ◌∷◌, Option, None, Some, map, option_and_then, slice_get}
use Rattle.afr_base.specs.declared.ids.Gfid.{Gfid}
use Rattle.afr_base.specs.declared.ids.What.{What}
use Rattle.afr_heal_round.specs.Rounding.{Rounding}
use Rattle.afr_healer.specs.declared.healer.Healer.{Healer}
use Rattle.afr_lines.specs.Work.{ended, is_killed}
use Rattle.afr_model.specs.Actors.{works_of}
use Rattle.afr_volume.specs.State.{State}

-- ---- as the healers have them
-- the item that a list begins with
abbrev pub item_in : Option (List (Gfid × What)) → Option (Gfid × What)
item_in None = None
item_in (Some []) = None
item_in (Some (item ∷ more)) = Some item

-- a task is the heals of a list with one item
abbrev pub task_at : Option Rounding → Option (Gfid × What)
task_at None = None
task_at (Some m) = item_in m.round.list

abbrev pub task_of : Healer → Option (Gfid × What)
task_of x = task_at x.round

-- the healers but the first are the workers
abbrev pub of_workers : List Healer → List (Option (Gfid × What))
of_workers [] = []
of_workers (crawler ∷ workers) = map task_of workers

abbrev pub tasks_of : Bool → List Healer → List (Option (Gfid × What))
tasks_of true healers = of_workers healers
tasks_of false healers = []

-- ---- as the state has them
-- the task that a worker is at
abbrev pub task_by : ℕ → State → Option (Gfid × What)
task_by a s = option_and_then (λ task. task) (slice_get s.tasks (a - 18))

abbrev pub has_task : ℕ → State → Bool
has_task a s = s.crawl && (nat_lt 17 a && is_some (task_by a s))

-- an actor is done where it was killed, or has no work left and is at no task
abbrev pub is_done_in : ℕ → State → Bool
is_done_in a s = is_killed a s.log || (not (has_task a s) && nat_le (works_of s.plan a) (ended a s.log))
