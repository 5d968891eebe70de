use Rattle.std.proofs.Common.{ap}
use Rattle.std.specs.BTreeMap.{insert_entry}
use Rattle.afr_object.specs.Tables.{name_cmp, with_names}
use Rattle.afr_brick.proofs.Found.{found, no_memory, on_err}
use Rattle.afr_brick.proofs.Made.{copies}
use Rattle.afr_brick.proofs.PlacesLemmas.{copy_kept, copy_read, copy_written}
use Rattle.afr_brick.proofs.store.Store.add_name.Goals as goal

pub returns-in_err-put_name-clause-absent : goal.returns-in_err-put_name-clause-absent
returns-in_err-put_name-clause-absent c = rw (← c.self.view_is) (found _ _ c.index_mut-object.result.now (copy_read c.args.dir c.index_mut-object.result.now c.self.inside.objects.items c.self.inside.places.entries c.self.inside.shortcuts c.in-Some.place c.in-Some.ensures c.index_mut-object.ensures.value) (no_memory _ c.from_residual.ensures.1))

pub returns-in_err-put_name-clause-err : goal.returns-in_err-put_name-clause-err
returns-in_err-put_name-clause-err c = rw (← c.self.view_is) (on_err _ (ap (copies c.self.inside.keeps) (copy_kept c.index_mut-object.result.now c.put_name.new.self c.self.inside.objects.items c.self.inside.places.entries c.in-Some.place c.index_mut-object.ensures.value c.in_err-put_name.ensures.err)))

pub returns-clause-ok : goal.returns-clause-ok
returns-clause-ok c = rw (← c.self.view_is) (ap (copies c.self.inside.keeps) (copy_written (with_names (λ names. insert_entry name_cmp names c.args.name c.args.entry)) c.args.dir c.index_mut-object.result.now c.put_name.new.self c.self.inside.objects.items c.self.inside.places.entries c.self.inside.shortcuts c.in-Some.place c.in-Some.ensures c.index_mut-object.ensures.value c.in_ok-put_name.ensures.ok))

pub returns-clause-absent : goal.returns-clause-absent
returns-clause-absent c = rw (← c.self.view_is) (found _ _ c.index_mut-object.result.now (copy_read c.args.dir c.index_mut-object.result.now c.self.inside.objects.items c.self.inside.places.entries c.self.inside.shortcuts c.in-Some.place c.in-Some.ensures c.index_mut-object.ensures.value) (λ h. cc))

pub invariant_of-self : goal.invariant_of-self
invariant_of-self c = c.in-Some.ensures.kept c.put_name.new.self

pub invariant_of-self-2 : goal.invariant_of-self-2
invariant_of-self-2 c = c.in-Some.ensures.kept c.put_name.new.self
