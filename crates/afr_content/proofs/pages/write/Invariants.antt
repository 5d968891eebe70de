-- The pages so far keep what was written, the others what they kept, with the memory for theirs.
use Rattle.std.proofs.Common.{◌≡◌, ℕ, ◌+◌, ◌-◌, ◌*◌, ◌/◌, ◌<◌, ◌≤◌, min, length}
use Rattle.afr_content.specs.Kept.{kept, overlaid, room_at}
use Rattle.afr_content.proofs.pages.write.Given as goal

abbrev pub invariant-loop-number : goal.invariant-loop-number
invariant-loop-number l = record {
  done : (q : ℕ) → q < l.number → kept l.pages.entries q ≡ overlaid l.at l.bytes (kept l.fn.pages.entries) q;
  left : (q : ℕ) → l.number ≤ q → kept l.pages.entries q ≡ kept l.fn.pages.entries q;
  room : (q : ℕ) → l.at / 4096 ≤ q → min (l.at + length l.bytes - q * 4096) 4096 ≤ room_at l.pages.entries q;
}
