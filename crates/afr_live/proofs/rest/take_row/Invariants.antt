use Rattle.std.specs.Prelude.{◌≡◌, ◌≤◌, ◌<◌, ◌+◌, ℕ, length}
use Rattle.afr_live.specs.Noted.{IsSettled}
use Rattle.afr_volume.specs.Going.{Goes}
use Rattle.afr_live.proofs.rest.take_row.Given as goal

abbrev pub invariant-loop-i : goal.invariant-loop-i
invariant-loop-i g l = record {
  goes : Goes l.fn.state.volume l.state.volume;
  settled : length l.state.volume.log ≤ length l.fn.state.volume.log → (k : ℕ) → k < l.i → IsSettled (l.first + k) l.state.volume;
  parts : l.mine.share.parts ≡ l.fn.mine.share.parts;
}
