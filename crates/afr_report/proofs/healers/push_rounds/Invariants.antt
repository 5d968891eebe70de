use Rattle.std.proofs.Common.{◌≡◌, ◌++◌, ◌≤◌, take, reverse}
use Rattle.std.specs.Prelude.{string_bytes}
use Rattle.afr_lines.specs.Work.{ended, work}
use Rattle.afr_model.specs.ReportHealers.{heal_lines, rounds_lines}
use Rattle.afr_report.specs.Own.{lines_at}
use Rattle.afr_report.proofs.healers.push_rounds.Given as goal

abbrev pub invariant-loop-at : goal.invariant-loop-at
invariant-loop-at l = record {
  counts : l.before ≡ ended l.healer.0 (lines_at l.log.items (reverse (take l.at-index l.own)));
  small : l.before ≤ l.at-index;
  heals : string_bytes l.heals ≡ heal_lines (work l.healer.0 (lines_at l.log.items (reverse (take l.at-index l.own))));
  text : string_bytes l.out ≡ string_bytes l.fn.out ++ rounds_lines l.words l.healer.0 (lines_at l.log.items (reverse (take l.at-index l.own)));
}
