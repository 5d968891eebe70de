use Rattle.std.proofs.Common.{◌≡◌, ◌+◌, ◌≤◌, drop}
use Rattle.afr_trace_read.specs.Trace.{line_feeds}
use Rattle.afr_trace_check.proofs.checking.line_feeds.Given as goal

abbrev pub invariant-loop-byte : goal.invariant-loop-byte
invariant-loop-byte l = record {
  all : l.count + line_feeds (drop l.byte-index l.text) ≡ line_feeds l.text;
  few : l.count ≤ l.byte-index;
}
