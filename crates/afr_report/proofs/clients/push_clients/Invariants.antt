use Rattle.std.proofs.Common.{◌≡◌, ◌++◌, ◌+◌, drop, reverse}
use Rattle.std.specs.Prelude.{string_bytes}
use Rattle.afr_model.specs.Report.{clients_text}
use Rattle.afr_report.proofs.clients.push_clients.Given as goal

abbrev pub invariant-loop-script : goal.invariant-loop-script
invariant-loop-script l = record {
  number : l.client ≡ l.script-index + 1;
  text : string_bytes l.out ++ clients_text l.words l.client (drop l.script-index l.scripts) (reverse l.log.items) ≡ string_bytes l.fn.out ++ clients_text l.words 1 l.scripts (reverse l.log.items);
}
