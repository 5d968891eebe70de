use Rattle.std.proofs.Common.{ℕ, ◌<◌, ◌≤◌, [], get_or, length}
use Rattle.afr_report_trace.proofs.texts.longest.Given as goal

abbrev pub invariant-loop-number : goal.invariant-loop-number
invariant-loop-number l = (k : ℕ) → k < l.number → length (get_or l.texts k []) ≤ l.most
