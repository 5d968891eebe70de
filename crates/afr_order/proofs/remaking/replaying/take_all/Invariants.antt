use Rattle.std.proofs.Common.{◌≡◌, false, length, take}
use Rattle.afr_order.specs.Replays.Made.{Made}
use Rattle.afr_volume.specs.Right.{KeepsChosen}
use Rattle.afr_order.proofs.remaking.replaying.take_all.Given as goal

-- the lines so far were made of as many steps
abbrev pub invariant-loop-i : goal.invariant-loop-i
invariant-loop-i g l = record {
  plan : l.volume.plan ≡ l.fn.volume.plan;
  plain : l.volume.crawl ≡ false;
  len : length l.volume.log ≡ l.i;
  made : Made l.fn.volume.plan (take l.i l.steps) l.volume.log;
  chosen : KeepsChosen g.F.Fn g.G.Fn l.fn.rules l.fn.volume l.volume;
}
