use Rattle.std.proofs.Common.{◌≡◌, ◌++◌, length}
use Rattle.afr_object.specs.Indexed.{index_of}
use Rattle.afr_brick.specs.Placed.{AreApart, table}
use Rattle.afr_brick.proofs.store.Store.walk.Given as goal

abbrev pub invariant-loop-g : goal.invariant-loop-g
invariant-loop-g l = (l.list ++ index_of (table l.self-inside.objects.items l.g-iterator) ≡ index_of (table l.self-inside.objects.items l.self-inside.places.entries)) × AreApart (length l.self-inside.objects.items) l.g-iterator
