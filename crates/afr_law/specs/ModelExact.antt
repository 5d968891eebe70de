-- The two laws in the words of the model, over the discipline in full.
use Rattle.std.specs.Prelude.{◌≤◌, List, length}
use Rattle.afr_lines.specs.Log.{EveryPrefix}
use Rattle.afr_lines.specs.declared.line.Line.{Line}
use Rattle.afr_model.specs.Honest.{Honest}
use Rattle.afr_model.specs.Safe.{IsAlwaysSafe}
use Rattle.afr_plan.specs.declared.plan.Plan.{Plan}
use Rattle.afr_law.specs.Exactly.{IsLawfulExactly}
use Rattle.afr_law.specs.ModelAlike.{AreAlike}

-- an honest log of at most 4,000,000 lines that keeps the discipline in full is safe at every moment
abbrev pub ModelExactIsSafe : Type 0
ModelExactIsSafe = (p : Plan) (log : List Line) → p.shape.n ≤ 5 → length log ≤ 4000000 → Honest p log → IsLawfulExactly p log → IsAlwaysSafe p log

-- and at every moment nothing diverges unrecorded
abbrev pub ModelExactIsAlike : Type 0
ModelExactIsAlike = (p : Plan) (log : List Line) → p.shape.n ≤ 5 → length log ≤ 4000000 → Honest p log → IsLawfulExactly p log → EveryPrefix (AreAlike p) log
