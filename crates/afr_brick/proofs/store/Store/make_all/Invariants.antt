use Rattle.std.proofs.Common.{◌≡◌, ◌-◌, length, drop, reverse}
use Rattle.afr_object.specs.Repairs.{all_made}
use Rattle.afr_brick.specs.Undone.{without}
use Rattle.afr_brick.proofs.store.Store.make_all.Given as goal

abbrev pub invariant-loop-i : goal.invariant-loop-i
invariant-loop-i l = record {
  made : l.self ≡ record l.fn.self { objects = all_made (drop (length l.names - l.i) l.names) l.fn.self.objects };
  undo : without (reverse l.fresh.items) l.self.objects ≡ l.fn.self.objects;
}
