use Rattle.std.proofs.Common.{◌≡◌, ℕ, ◌<◌, false}
use Rattle.afr_choice.specs.Verdict.{accuses_at}
use Rattle.afr_choice.proofs.verdict.is_blamed.Given as goal

abbrev pub invariant-loop-x : goal.invariant-loop-x
invariant-loop-x l = (k : ℕ) → k < l.x → accuses_at l.kind k l.c.0 l.looked ≡ false
