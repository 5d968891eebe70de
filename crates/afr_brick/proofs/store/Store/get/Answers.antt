use Rattle.std.proofs.Common.{sym}
use Rattle.afr_brick.proofs.PlacesLemmas.{copy_read}
use Rattle.afr_brick.proofs.store.Store.get.Goals as goal

pub returns-in-Some : goal.returns-in-Some
returns-in-Some c = rw (← c.self.view_is) (record { value = sym (copy_read c.args.g c.index.result.now c.self.inside.objects.items c.self.inside.places.entries c.self.inside.shortcuts c.in-Some.place c.in-Some.ensures c.index.ensures) })

pub returns-in-None : goal.returns-in-None
returns-in-None c = rw (← c.self.view_is) (record { value = sym c.in-None.ensures })
