use Rattle.std.proofs.Common.{ap}
use Rattle.afr_object.specs.Tables.{with_attr}
use Rattle.afr_brick.proofs.Found.{found, no_memory, on_err}
use Rattle.afr_brick.proofs.Made.{copies}
use Rattle.afr_brick.proofs.PlacesLemmas.{copy_kept, copy_read, copy_written}
use Rattle.afr_brick.proofs.store.Store.set_attr.Goals as goal

pub returns-in_err-set_attr-clause-absent : goal.returns-in_err-set_attr-clause-absent
returns-in_err-set_attr-clause-absent c = rw (← c.self.view_is) (found _ _ c.index_mut-object.result.now (copy_read c.args.g c.index_mut-object.result.now c.self.inside.objects.items c.self.inside.places.entries c.self.inside.shortcuts c.in-Some.place c.in-Some.ensures c.index_mut-object.ensures.value) (no_memory _ c.from_residual.ensures.1))

pub returns-in_err-set_attr-clause-err : goal.returns-in_err-set_attr-clause-err
returns-in_err-set_attr-clause-err c = rw (← c.self.view_is) (on_err _ (ap (copies c.self.inside.keeps) (copy_kept c.index_mut-object.result.now c.set_attr.new.self c.self.inside.objects.items c.self.inside.places.entries c.in-Some.place c.index_mut-object.ensures.value c.in_err-set_attr.ensures.err)))

pub returns-clause-ok : goal.returns-clause-ok
returns-clause-ok c = rw (← c.self.view_is) (ap (copies c.self.inside.keeps) (copy_written (with_attr c.args.key c.args.value) c.args.g c.index_mut-object.result.now c.set_attr.new.self c.self.inside.objects.items c.self.inside.places.entries c.self.inside.shortcuts c.in-Some.place c.in-Some.ensures c.index_mut-object.ensures.value c.in_ok-set_attr.ensures.ok))

pub returns-clause-absent : goal.returns-clause-absent
returns-clause-absent c = rw (← c.self.view_is) (found _ _ c.index_mut-object.result.now (copy_read c.args.g c.index_mut-object.result.now c.self.inside.objects.items c.self.inside.places.entries c.self.inside.shortcuts c.in-Some.place c.in-Some.ensures c.index_mut-object.ensures.value) (λ h. cc))

pub invariant_of-self : goal.invariant_of-self
invariant_of-self c = c.in-Some.ensures.kept c.set_attr.new.self

pub invariant_of-self-2 : goal.invariant_of-self-2
invariant_of-self-2 c = c.in-Some.ensures.kept c.set_attr.new.self
