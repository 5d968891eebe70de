use Rattle.std.proofs.Common.{◌≡◌, ℕ, ◌<◌, false}
use Rattle.afr_report_info.specs.Shown.{is_marked_at}
use Rattle.afr_report_info.proofs.looking.is_clean.Given as goal

abbrev pub invariant-loop-brick : goal.invariant-loop-brick
invariant-loop-brick l = (k : ℕ) → k < l.brick → is_marked_at l.kind l.looked k ≡ false
