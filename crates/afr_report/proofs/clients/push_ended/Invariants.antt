use Rattle.std.proofs.Common.{◌≡◌, ◌++◌, ◌≤◌, take, reverse}
use Rattle.std.specs.Prelude.{string_bytes}
use Rattle.afr_lines.specs.Work.{ended}
use Rattle.afr_model.specs.Report.{ended_lines}
use Rattle.afr_report.specs.Own.{lines_at}
use Rattle.afr_report.proofs.clients.push_ended.Given as goal

abbrev pub invariant-loop-at : goal.invariant-loop-at
invariant-loop-at l = record {
  counts : l.before ≡ ended l.client.0 (lines_at l.log.items (reverse (take l.at-index l.own)));
  small : l.before ≤ l.at-index;
  text : string_bytes l.out ≡ string_bytes l.fn.out ++ ended_lines l.words l.client.0 l.commands (lines_at l.log.items (reverse (take l.at-index l.own)));
}
