-- The pages so far keep what the zeros leave, and the others what they kept.
use Rattle.std.proofs.Common.{◌≡◌, ℕ, ◌<◌, ◌≤◌}
use Rattle.afr_content.specs.Kept.{cleared, kept}
use Rattle.afr_content.proofs.pages.zero.Given as goal

abbrev pub invariant-loop-number : goal.invariant-loop-number
invariant-loop-number l = record {
  done : (q : ℕ) → q < l.number → kept l.pages.entries q ≡ cleared l.from l.to (kept l.fn.pages.entries) q;
  left : (q : ℕ) → l.number ≤ q → kept l.pages.entries q ≡ kept l.fn.pages.entries q;
}
