use Rattle.std.proofs.Common.{List, ℕ, ap, option_and_then, slice_get, ◌∙◌}
use Rattle.afr_log.specs.Log.{unasked}
use Rattle.afr_report.specs.Own.{placed, subject_of}
use Rattle.afr_report.proofs.ToldLemmas.{placed_next}
use Rattle.afr_report.proofs.own.places.Goals as goal

pub loop-at-preserved : goal.loop-at-preserved
loop-at-preserved c =
    c.in_ok-note_at.ensures.ok
    ∙ ap (λ (lists : List (List ℕ)). placed (option_and_then subject_of (unasked (slice_get c.args.log.now.items c.loop-at.at))) c.loop-at.at lists) c.loop-at.invariant
    ∙ placed_next c.args.log.now.items c.loop-at.at (rw c.len-at-end.ensures at c.loop-at-test.true)
