-- The bytes so far are the file's.
use Rattle.std.proofs.Common.{◌≡◌, ℕ, ◌+◌, ◌*◌, ◌<◌, length, get_or}
use Rattle.afr_content.specs.Kept.{byte_in, kept}
use Rattle.afr_content.proofs.pages.read.Given as goal

abbrev pub invariant-loop-number : goal.invariant-loop-number
invariant-loop-number l = record {
  len : length l.into ≡ length l.fn.into;
  done : (k : ℕ) → k < length l.into → l.at + k < l.number * 4096 → get_or l.into k 0 ≡ byte_in (kept l.pages.entries) (l.at + k);
}
