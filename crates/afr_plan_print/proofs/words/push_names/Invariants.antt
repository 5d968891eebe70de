use Rattle.std.proofs.Common.{◌≡◌, ◌++◌, map, drop}
use Rattle.std.specs.Prelude.{string_bytes}
use Rattle.afr_plan_print.specs.PrintedLine.{slashed}
use Rattle.afr_plan_print.specs.PrintedPlan.{word_at}
use Rattle.afr_plan_print.proofs.words.push_names.Given as goal

abbrev pub invariant-loop-id : goal.invariant-loop-id
invariant-loop-id l = string_bytes l.out ++ slashed (map (λ id. word_at l.words id.0) (drop l.id-index l.names)) ≡ string_bytes l.fn.out ++ slashed (map (λ id. word_at l.words id.0) l.names)
