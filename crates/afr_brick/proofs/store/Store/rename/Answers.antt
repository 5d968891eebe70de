use Rattle.std.proofs.Common.{ap}
use Rattle.afr_object.specs.Tables.{with_names}
use Rattle.afr_brick.proofs.Made.{copies}
use Rattle.afr_brick.proofs.PlacesLemmas.{copy_written}
use Rattle.afr_brick.proofs.store.Store.rename.Goals as goal

pub returns-in-Some : goal.returns-in-Some
returns-in-Some c = rw (← c.self.view_is) (ap (copies c.self.inside.keeps) (copy_written (with_names (λ old. c.args.names)) c.args.g c.index_mut.result.now c.put_names.new.self c.self.inside.objects.items c.self.inside.places.entries c.self.inside.shortcuts c.in-Some.place c.in-Some.ensures c.index_mut.ensures.value c.put_names.ensures))

pub invariant_of-self : goal.invariant_of-self
invariant_of-self c = c.in-Some.ensures.kept c.put_names.new.self
