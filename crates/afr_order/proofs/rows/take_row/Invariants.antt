use Rattle.std.proofs.Common.{◌≡◌, ◌≤◌, ◌<◌, ◌+◌, ℕ, true, length}
use Rattle.std.specs.List.{range_with_len}
use Rattle.afr_model.specs.Actors.{is_done}
use Rattle.afr_volume.specs.Right.{KeepsChosen}
use Rattle.afr_volume.specs.Going.{Goes, Takes}
use Rattle.afr_order.specs.Onward.{Extends}
use Rattle.afr_order.proofs.rows.take_row.Given as goal

abbrev pub invariant-loop-i : goal.invariant-loop-i
invariant-loop-i g l = record {
  goes : Goes l.fn.volume l.volume;
  onto : Extends l.fn.volume.log l.volume.log;
  taken : Takes l.fn.volume.plan (range_with_len l.first l.i) l.fn.volume.log l.volume.log;
  done : length l.volume.log ≤ length l.fn.volume.log → (k : ℕ) → k < l.i → is_done l.volume.plan (l.first + k) l.volume.log ≡ true;
  chosen : KeepsChosen g.F.Fn g.G.Fn l.fn.rules l.fn.volume l.volume;
}
