use Rattle.std.proofs.Common.{◌≡◌, Some, ap}
use Rattle.afr_object.specs.Bytes.{written}
use Rattle.afr_object.specs.Tables.{copy_at, with_bytes}
use Rattle.afr_brick.proofs.Found.{found, no_memory, on_err}
use Rattle.afr_brick.proofs.Made.{copies}
use Rattle.afr_brick.proofs.PlacesLemmas.{copy_kept, copy_read, copy_written}
use Rattle.afr_brick.proofs.store.Store.write.Goals as goal

pub returns-in_err-write-clause-absent : goal.returns-in_err-write-clause-absent
returns-in_err-write-clause-absent c = rw (← c.self.view_is) (found _ _ c.index_mut-object.result.now (copy_read c.args.g c.index_mut-object.result.now c.self.inside.objects.items c.self.inside.places.entries c.self.inside.shortcuts c.in-Some.place c.in-Some.ensures c.index_mut-object.ensures.value) (no_memory _ c.from_residual.ensures.1))

pub returns-in_err-write-clause-err : goal.returns-in_err-write-clause-err
returns-in_err-write-clause-err c = rw (← c.self.view_is) (on_err _ (ap (copies c.self.inside.keeps) (copy_kept c.index_mut-object.result.now c.write.new.self c.self.inside.objects.items c.self.inside.places.entries c.in-Some.place c.index_mut-object.ensures.value c.in_err-write.ensures.err)))

pub returns-clause-ok : goal.returns-clause-ok
returns-clause-ok c = rw (← c.self.view_is) (ap (copies c.self.inside.keeps) (copy_written (with_bytes c.self.inside.keeps (written c.args.at c.args.bytes.now)) c.args.g c.index_mut-object.result.now c.write.new.self c.self.inside.objects.items c.self.inside.places.entries c.self.inside.shortcuts c.in-Some.place c.in-Some.ensures c.index_mut-object.ensures.value (rw c.as_slice.ensures at c.in_ok-write.ensures.ok)))

pub returns-clause-absent : goal.returns-clause-absent
returns-clause-absent c = rw (← c.self.view_is) (found _ _ c.index_mut-object.result.now (copy_read c.args.g c.index_mut-object.result.now c.self.inside.objects.items c.self.inside.places.entries c.self.inside.shortcuts c.in-Some.place c.in-Some.ensures c.index_mut-object.ensures.value) (λ h. cc))

pub write-requires : goal.write-requires
write-requires c =
    let e : copy_at c.args.g c.args.self.now.objects ≡ Some c.index_mut-object.result.now = rw (← c.self.view_is) (copy_read c.args.g c.index_mut-object.result.now c.self.inside.objects.items c.self.inside.places.entries c.self.inside.shortcuts c.in-Some.place c.in-Some.ensures c.index_mut-object.ensures.value) in
    let r = rw e at c.requires in
    rw c.as_slice.ensures r

pub invariant_of-self : goal.invariant_of-self
invariant_of-self c = c.in-Some.ensures.kept c.write.new.self

pub invariant_of-self-2 : goal.invariant_of-self-2
invariant_of-self-2 c = c.in-Some.ensures.kept c.write.new.self
