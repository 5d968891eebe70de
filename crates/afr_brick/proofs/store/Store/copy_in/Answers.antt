use Rattle.std.proofs.Common.{◌≡◌, Some, ap}
use Rattle.afr_object.specs.Bytes.{copied_in}
use Rattle.afr_object.specs.Tables.{copy_at, with_bytes}
use Rattle.afr_brick.proofs.Found.{found, no_memory, on_err}
use Rattle.afr_brick.proofs.Made.{copies}
use Rattle.afr_brick.proofs.PlacesLemmas.{copy_kept, copy_read, copy_written}
use Rattle.afr_brick.proofs.store.Store.copy_in.Goals as goal

pub returns-in_err-copy_in-clause-absent : goal.returns-in_err-copy_in-clause-absent
returns-in_err-copy_in-clause-absent c = rw (← c.self.view_is) (found _ _ c.index_mut-object.result.now (copy_read c.args.g c.index_mut-object.result.now c.self.inside.objects.items c.self.inside.places.entries c.self.inside.shortcuts c.in-Some.place c.in-Some.ensures c.index_mut-object.ensures.value) (no_memory _ c.from_residual.ensures.1))

pub returns-in_err-copy_in-clause-err : goal.returns-in_err-copy_in-clause-err
returns-in_err-copy_in-clause-err c = rw (← c.self.view_is) (on_err _ (ap (copies c.self.inside.keeps) (copy_kept c.index_mut-object.result.now c.copy_in.new.self c.self.inside.objects.items c.self.inside.places.entries c.in-Some.place c.index_mut-object.ensures.value c.in_err-copy_in.ensures.err)))

pub returns-clause-ok : goal.returns-clause-ok
returns-clause-ok c = rw (← c.self.view_is) (ap (copies c.self.inside.keeps) (copy_written (with_bytes c.self.inside.keeps (copied_in c.args.at c.args.span c.args.bytes.now)) c.args.g c.index_mut-object.result.now c.copy_in.new.self c.self.inside.objects.items c.self.inside.places.entries c.self.inside.shortcuts c.in-Some.place c.in-Some.ensures c.index_mut-object.ensures.value c.in_ok-copy_in.ensures.ok))

pub returns-clause-absent : goal.returns-clause-absent
returns-clause-absent c = rw (← c.self.view_is) (found _ _ c.index_mut-object.result.now (copy_read c.args.g c.index_mut-object.result.now c.self.inside.objects.items c.self.inside.places.entries c.self.inside.shortcuts c.in-Some.place c.in-Some.ensures c.index_mut-object.ensures.value) (λ h. cc))

pub copy_in-requires-clause-end : goal.copy_in-requires-clause-end
copy_in-requires-clause-end c =
    let e : copy_at c.args.g c.args.self.now.objects ≡ Some c.index_mut-object.result.now = rw (← c.self.view_is) (copy_read c.args.g c.index_mut-object.result.now c.self.inside.objects.items c.self.inside.places.entries c.self.inside.shortcuts c.in-Some.place c.in-Some.ensures c.index_mut-object.ensures.value) in
    let r = rw e at c.requires in
    r.0

pub copy_in-requires-clause-len : goal.copy_in-requires-clause-len
copy_in-requires-clause-len c =
    let e : copy_at c.args.g c.args.self.now.objects ≡ Some c.index_mut-object.result.now = rw (← c.self.view_is) (copy_read c.args.g c.index_mut-object.result.now c.self.inside.objects.items c.self.inside.places.entries c.self.inside.shortcuts c.in-Some.place c.in-Some.ensures c.index_mut-object.ensures.value) in
    let r = rw e at c.requires in
    r.1

pub invariant_of-self : goal.invariant_of-self
invariant_of-self c = c.in-Some.ensures.kept c.copy_in.new.self

pub invariant_of-self-2 : goal.invariant_of-self-2
invariant_of-self-2 c = c.in-Some.ensures.kept c.copy_in.new.self
