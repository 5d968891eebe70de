use Rattle.std.proofs.Common.{◌≡◌, ◌-◌, length, take, reverse}
use Rattle.afr_brick.specs.Undone.{without}
use Rattle.afr_brick.proofs.store.Store.drop_all.Given as goal

abbrev pub invariant-loop-i : goal.invariant-loop-i
invariant-loop-i l = record {
  keeps : l.self.keeps ≡ l.fn.self.keeps;
  rest : without (reverse (take (length l.gfids - l.i) l.gfids)) l.self.objects ≡ without (reverse l.gfids) l.fn.self.objects;
}
