use Rattle.std.proofs.Common.{◌≡◌, ◌++◌, ◌+◌, drop, reverse}
use Rattle.std.specs.Prelude.{string_bytes}
use Rattle.afr_model.specs.ReportHealers.{healers_text}
use Rattle.afr_report.proofs.healers.push_healers.Given as goal

abbrev pub invariant-loop-rounds : goal.invariant-loop-rounds
invariant-loop-rounds l = record {
  number : l.healer ≡ l.rounds-index + 17;
  text : string_bytes l.out ++ healers_text l.words l.healer (drop l.rounds-index l.healers) (reverse l.log.items) ≡ string_bytes l.fn.out ++ healers_text l.words 17 l.healers (reverse l.log.items);
}
