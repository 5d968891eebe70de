use Rattle.std.proofs.Common.{ap, take}
use Rattle.afr_object.specs.Tables.{with_bytes}
use Rattle.afr_brick.proofs.Found.{found}
use Rattle.afr_brick.proofs.Made.{copies}
use Rattle.afr_brick.proofs.PlacesLemmas.{copy_read, copy_written}
use Rattle.afr_brick.proofs.store.Store.cut.Goals as goal

pub returns-clause-ok : goal.returns-clause-ok
returns-clause-ok c = rw (← c.self.view_is) (ap (copies c.self.inside.keeps) (copy_written (with_bytes c.self.inside.keeps (take c.args.len)) c.args.g c.index_mut-object.result.now c.cut.new.self c.self.inside.objects.items c.self.inside.places.entries c.self.inside.shortcuts c.in-Some.place c.in-Some.ensures c.index_mut-object.ensures.value c.cut.ensures))

pub returns-clause-absent : goal.returns-clause-absent
returns-clause-absent c = rw (← c.self.view_is) (found _ _ c.index_mut-object.result.now (copy_read c.args.g c.index_mut-object.result.now c.self.inside.objects.items c.self.inside.places.entries c.self.inside.shortcuts c.in-Some.place c.in-Some.ensures c.index_mut-object.ensures.value) (λ h. cc))

pub invariant_of-self : goal.invariant_of-self
invariant_of-self c = c.in-Some.ensures.kept c.cut.new.self
