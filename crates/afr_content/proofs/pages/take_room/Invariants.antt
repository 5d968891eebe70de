-- The pages so far have memory, and none keeps another byte.
use Rattle.std.proofs.Common.{◌≡◌, ℕ, ◌+◌, ◌-◌, ◌*◌, ◌/◌, ◌<◌, ◌≤◌, min}
use Rattle.afr_content.specs.Kept.{kept, room_at}
use Rattle.afr_content.proofs.pages.take_room.Given as goal

abbrev pub invariant-loop-number : goal.invariant-loop-number
invariant-loop-number l = record {
  bytes : (q : ℕ) → kept l.pages.entries q ≡ kept l.fn.pages.entries q;
  room : (q : ℕ) → l.at / 4096 ≤ q → q < l.number → min (l.at + l.len - q * 4096) 4096 ≤ room_at l.pages.entries q;
}
