use Rattle.std.proofs.Common.{◌≡◌, ◌++◌, ◌+◌, drop}
use Rattle.std.specs.Prelude.{string_bytes}
use Rattle.afr_plan_print.specs.PrintedParts.{healers_text}
use Rattle.afr_plan_print.proofs.schedule.push_healers.Given as goal

abbrev pub invariant-loop-rounds : goal.invariant-loop-rounds
invariant-loop-rounds l = record {
  number : l.healer ≡ l.rounds-index + 1;
  text : string_bytes l.out ++ healers_text l.healer (drop l.rounds-index l.healers) ≡ string_bytes l.fn.out ++ healers_text 1 l.healers;
}
