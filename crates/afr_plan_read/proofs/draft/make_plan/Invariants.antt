use Rattle.std.proofs.Common.{◌≡◌, reverse, map, take}
use Rattle.afr_plan_line.specs.Seen.{seen}
use Rattle.afr_plan.specs.PlanOf.{plan_of}
use Rattle.afr_plan_read.proofs.draft.make_plan.Given as goal

abbrev pub invariant-loop-spoken : goal.invariant-loop-spoken
invariant-loop-spoken l = l.draft ≡ plan_of (reverse (map seen (take l.spoken-index l.lines)))
