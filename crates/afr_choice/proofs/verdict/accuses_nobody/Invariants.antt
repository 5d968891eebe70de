use Rattle.std.proofs.Common.{◌≡◌, ℕ, ◌<◌, false}
use Rattle.afr_choice.specs.Verdict.{accuses_at}
use Rattle.afr_choice.proofs.verdict.accuses_nobody.Given as goal

abbrev pub invariant-loop-x : goal.invariant-loop-x
invariant-loop-x l = (k c : ℕ) → k < l.x → c < 5 → accuses_at l.kind k c l.looked ≡ false
