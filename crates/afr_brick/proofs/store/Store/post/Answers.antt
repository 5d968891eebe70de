use Rattle.std.proofs.Common.{◌≡◌, ◌∙◌, Some, ap, sym}
use Rattle.std.proofs.lemmas.Bool.{not-true}
use Rattle.afr_base.specs.Marks.{closed_op}
use Rattle.afr_object.specs.Indexed.{index_of}
use Rattle.afr_object.specs.Object.{Object}
use Rattle.afr_object.specs.Tables.{copy_at, with_numbers}
use Rattle.afr_brick.proofs.Found.{found}
use Rattle.afr_brick.proofs.IndexLemmas.{index_of-with_copy}
use Rattle.afr_brick.proofs.Made.{copies}
use Rattle.afr_brick.proofs.OpenLemmas.{open_kind}
use Rattle.afr_brick.proofs.PlacesLemmas.{copy_read, copy_written}
use Rattle.afr_brick.proofs.store.Store.post.Goals as goal

pub returns-clause-ok : goal.returns-clause-ok
returns-clause-ok c = rw (← c.self.view_is) (ap (copies c.self.inside.keeps) (copy_written (with_numbers c.args.kind (closed_op c.args.missed)) c.args.g c.index_mut-object.result.now c.post.new.self c.self.inside.objects.items c.self.inside.places.entries c.self.inside.shortcuts c.in-Some.place c.in-Some.ensures c.index_mut-object.ensures.value c.post.ensures))

pub returns-clause-absent : goal.returns-clause-absent
returns-clause-absent c = rw (← c.self.view_is) (found _ _ c.index_mut-object.result.now (copy_read c.args.g c.index_mut-object.result.now c.self.inside.objects.items c.self.inside.places.entries c.self.inside.shortcuts c.in-Some.place c.in-Some.ensures c.index_mut-object.ensures.value) (λ h. cc))

pub post-requires-clause-open : goal.post-requires-clause-open
post-requires-clause-open c =
    let e : copy_at c.args.g c.args.self.now.objects ≡ Some c.index_mut-object.result.now = rw (← c.self.view_is) (copy_read c.args.g c.index_mut-object.result.now c.self.inside.objects.items c.self.inside.places.entries c.self.inside.shortcuts c.in-Some.place c.in-Some.ensures c.index_mut-object.ensures.value) in
    let r = rw e at c.requires in
    r.0

pub post-requires-clause-room : goal.post-requires-clause-room
post-requires-clause-room c =
    let e : copy_at c.args.g c.args.self.now.objects ≡ Some c.index_mut-object.result.now = rw (← c.self.view_is) (copy_read c.args.g c.index_mut-object.result.now c.self.inside.objects.items c.self.inside.places.entries c.self.inside.shortcuts c.in-Some.place c.in-Some.ensures c.index_mut-object.ensures.value) in
    let r = rw e at c.requires in
    r.1

pub returns-clause-index : goal.returns-clause-index
returns-clause-index c =
    let e : copy_at c.args.g c.args.self.now.objects ≡ Some c.index_mut-object.result.now = rw (← c.self.view_is) (copy_read c.args.g c.index_mut-object.result.now c.self.inside.objects.items c.self.inside.places.entries c.self.inside.shortcuts c.in-Some.place c.in-Some.ensures c.index_mut-object.ensures.value) in
    let r = rw e at c.requires in
    rw (← c.self.view_is)
    (λ yes. ap index_of (c.in-Some.ensures.written c.post.new.self)
    ∙ index_of-with_copy c.args.g c.post.new.self c.index_mut-object.result.now _ (copy_read c.args.g c.index_mut-object.result.now c.self.inside.objects.items c.self.inside.places.entries c.self.inside.shortcuts c.in-Some.place c.in-Some.ensures c.index_mut-object.ensures.value) (sym c.is_clean.ensures ∙ not-true c.is_clean.result yes ∙ sym (open_kind c.args.kind c.index_mut-object.result.now.marks r.0)) (ap (λ (o : Object). o.what) c.post.ensures))

pub invariant_of-self : goal.invariant_of-self
invariant_of-self c = c.in-Some.ensures.kept c.post.new.self

pub returns-clause-order : goal.returns-clause-order
returns-clause-order c = rw (← c.self.view_is) c.stand_in_order.ensures
