-- What holds of every generated plan.
use Rattle.std.specs.Prelude.{◌≡◌, ℕ, ◌≤◌}
use Rattle.afr_plan.specs.PlanOf.{plan_of}
use Rattle.afr_law_runnable.specs.Runnable.{IsRunnable}
use Rattle.afr_gen.specs.Generated.{generated}
use Rattle.afr_gen.specs.Lines.{said_plan}

-- each can be run
abbrev pub GeneratedIsRunnable : Type 0
GeneratedIsRunnable = (n : ℕ) → n ≤ 2000 → IsRunnable (generated n)

-- each is the plan that its lines give, every word numbered by its first sight
abbrev pub GeneratedIsSaid : Type 0
GeneratedIsSaid = (n : ℕ) → generated n ≡ plan_of (said_plan n)
