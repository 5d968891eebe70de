use Rattle.std.proofs.Common.{◌≤◌, replicate}
use Rattle.afr_volume.specs.Right.{KeepsChosen}
use Rattle.afr_volume.specs.Going.{ClientsRun, Goes, Takes}
use Rattle.afr_order.proofs.turns.take_turns.Given as goal

abbrev pub invariant-loop-taken : goal.invariant-loop-taken
invariant-loop-taken g l = record {
  goes : Goes l.fn.volume l.volume;
  taken : Takes l.fn.volume.plan (replicate l._taken l.a.0) l.fn.volume.log l.volume.log;
  chosen : KeepsChosen g.F.Fn g.G.Fn l.fn.rules l.fn.volume l.volume;
  runs : l.a.0 ≤ 16 → ClientsRun l.fn.volume l.volume;
}
