use Rattle.std.proofs.Common.{◌≡◌, ◌≤◌, ◌++◌, ◌*◌, length, take, drop}
use Rattle.afr_model.specs.ReportReplies.{hex_text}
use Rattle.afr_report_words.proofs.numbers.write_hex.Given as goal

abbrev pub invariant-loop-i : goal.invariant-loop-i
invariant-loop-i l = record {
  room : 2 * length l.bytes ≤ length l.digits;
  written : take (2 * l.i) l.digits ++ hex_text (drop l.i l.bytes) ≡ hex_text l.bytes;
}
