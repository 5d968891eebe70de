-- No line before the present place is `end`.
use Rattle.std.proofs.Common.{◌≡◌, ◌<◌, ℕ, false}
use Rattle.afr_cli.specs.Parts.{is_end_at}
use Rattle.afr_cli.proofs.parts.plan_len.Given as goal

abbrev pub invariant-loop-at : goal.invariant-loop-at
invariant-loop-at l = (k : ℕ) → k < l.at → is_end_at l.bytes k ≡ false
