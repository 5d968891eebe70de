use Rattle.std.proofs.Common.{◌≡◌, ℕ, ◌<◌, [], get_or, length}
use Rattle.afr_report_trace.specs.Texts.{asker_at}
use Rattle.afr_report_trace.proofs.rows.add_askers.Given as goal

abbrev pub invariant-loop-place : goal.invariant-loop-place
invariant-loop-place l = (length l.texts ≡ l.place) × ((k : ℕ) → k < l.place → get_or l.texts k [] ≡ asker_at k)
