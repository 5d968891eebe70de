-- The parts of a queue of tasks: three passes of one queue, of which the crawler's has three of five parts, and each worker's one.
use Rattle.std.specs.Prelude.{◌≡◌, ◌+◌, ◌≤◌, ℕ, Option, [], length}
use Rattle.crossbeam_queue.specs.Passes.{IsPassOf, Pass, ruled_capacity, view}
use Rattle.crossbeam_queue.specs.declared.array_queue.Doing.{Doing}
use Rattle.crossbeam_queue.specs.declared.array_queue.Slotted.{Slotted}
use Rattle.afr_tasks.specs.Balance.{hand}
use Rattle.afr_tasks.specs.Exchange.{Exchange}
use Rattle.afr_tasks.specs.declared.rule.Hand.{Hand}
use Rattle.afr_tasks.specs.declared.rule.Task.{Task}

-- what they say of the tasks
abbrev pub exchange_of : Pass Task Hand → Pass Task Hand → Pass Task Hand → Exchange
exchange_of crawler second third = record { put = (view crawler).put; second = (view second).taken; third = (view third).taken }

module _ {Q A : Type 0} where
  pub record AreParts (queue : Slotted (Option Task) (Doing Task Hand) Q A) (crawler second third : Pass Task Hand) (queued : ℕ) : Type 0 where
    pub capacity : ruled_capacity queue ≡ 64
    pub crawler_of : IsPassOf queue crawler
    pub second_of : IsPassOf queue second
    pub third_of : IsPassOf queue third
    -- the crawler takes nothing, and the workers put nothing
    pub puts : view crawler ≡ hand 3 (view crawler).put []
    pub second_takes : view second ≡ hand 1 [] (view second).taken
    pub third_takes : view third ≡ hand 1 [] (view third).taken
    pub count : queued + (length (view second).taken + length (view third).taken) ≡ length (view crawler).put
    pub few : queued ≤ 64
