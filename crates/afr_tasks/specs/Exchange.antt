-- What was put into the queue of tasks, and what each worker has taken.
use Rattle.std.specs.Prelude.{ℕ, ◌+◌, ◌-◌, ◌++◌, List, [], ◌∷◌, length}
use Rattle.afr_tasks.specs.declared.rule.Task.{Task}
use Rattle.afr_tasks.specs.declared.tasks.Worker.{Worker}
use Rattle.afr_tasks.specs.declared.tasks.Worker.TheVariants.{Second, Third}

-- in the order in which the crawler put them, and in which each worker took its own
pub record Exchange : Type 0 where
  pub put : List Task
  pub second : List Task
  pub third : List Task

-- how many wait
abbrev pub queued_in : Exchange → ℕ
queued_in x = length x.put - (length x.second + length x.third)

abbrev pub with_taken : Worker → Task → Exchange → Exchange
with_taken Second task x = record x { second = x.second ++ task ∷ [] }
with_taken Third task x = record x { third = x.third ++ task ∷ [] }
