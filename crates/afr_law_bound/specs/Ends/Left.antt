-- How many lines that count may still come, and the bound on the lines of a run in the stated order.
use Rattle.std.specs.Prelude.{ℕ, ◌+◌, ◌*◌, ◌-◌, nat_lt, List, length, drop, if◌then◌else◌}
use Rattle.afr_lines.specs.Work.{ended, is_killed, work}
use Rattle.afr_lines.specs.declared.line.Line.{Line}
use Rattle.afr_model.specs.Honest.{requests_to}
use Rattle.afr_model.specs.Ordered.{actors_of}
use Rattle.afr_plan.specs.declared.plan.Plan.{Plan}
use Rattle.afr_plan.specs.declared.schedule.Go.{Go}
use Rattle.afr_plan.specs.declared.schedule.PlannedFault.{PlannedFault}
use Rattle.afr_law_bound.specs.Ends.Cost.{costs_of, spent, total}

-- a number of a sum
abbrev pub itself : ℕ → ℕ
itself k = k

-- what the works of an actor have left: nothing, where it was killed
abbrev pub unspent : Plan → List Line → ℕ → ℕ
unspent p log a = if is_killed a log then 0 else total itself (drop (ended a log) (costs_of p a)) - spent (work a log)

-- one for a planned fault whose request hasn't come yet
abbrev pub is_to_come : List Line → PlannedFault → ℕ
is_to_come log x = if nat_lt (requests_to x.brick.0 log) x.at then 1 else 0

-- what all actors have left, and the planned faults
abbrev pub left : Plan → List Line → ℕ
left p log = total (unspent p log) (actors_of p) + total (is_to_come log) p.faults

-- the costs of all works of an actor
abbrev pub whole_cost : Plan → ℕ → ℕ
whole_cost p a = total itself (costs_of p a)

-- how many turns an order gives
abbrev pub turns_in : Go → ℕ
turns_in go = go.count

-- the bound: events, ordered turns, and a pass over all actors for each line that counts and each fault
abbrev pub bound_of : Plan → ℕ
bound_of p = length p.events + total turns_in p.go + length (actors_of p) * (total (whole_cost p) (actors_of p) + length p.faults)
