use Rattle.std.proofs.Common.{◌≡◌, ◌∙◌, Some, ap, sym}
use Rattle.std.proofs.lemmas.Bool.{not-true}
use Rattle.afr_base.specs.Marks.{dirtied, is_no_marks}
use Rattle.afr_object.specs.Indexed.{index_of}
use Rattle.afr_object.specs.Object.{Object}
use Rattle.afr_object.specs.Tables.{copy_at, with_numbers}
use Rattle.afr_brick.proofs.Found.{found}
use Rattle.afr_brick.proofs.IndexLemmas.{index_of-with_copy}
use Rattle.afr_brick.proofs.Made.{copies}
use Rattle.afr_brick.proofs.OpenLemmas.{opened}
use Rattle.afr_brick.proofs.PlacesLemmas.{copy_read, copy_written}
use Rattle.afr_brick.proofs.store.Store.pre.Goals as goal

pub returns-clause-ok : goal.returns-clause-ok
returns-clause-ok c = rw (← c.self.view_is) (ap (copies c.self.inside.keeps) (copy_written (with_numbers c.args.kind dirtied) c.args.g c.index_mut-object.result.now c.pre.new.self c.self.inside.objects.items c.self.inside.places.entries c.self.inside.shortcuts c.in-Some.place c.in-Some.ensures c.index_mut-object.ensures.value c.pre.ensures))

pub returns-clause-absent : goal.returns-clause-absent
returns-clause-absent c = rw (← c.self.view_is) (found _ _ c.index_mut-object.result.now (copy_read c.args.g c.index_mut-object.result.now c.self.inside.objects.items c.self.inside.places.entries c.self.inside.shortcuts c.in-Some.place c.in-Some.ensures c.index_mut-object.ensures.value) (λ h. cc))

pub pre-requires : goal.pre-requires
pre-requires c =
    let e : copy_at c.args.g c.args.self.now.objects ≡ Some c.index_mut-object.result.now = rw (← c.self.view_is) (copy_read c.args.g c.index_mut-object.result.now c.self.inside.objects.items c.self.inside.places.entries c.self.inside.shortcuts c.in-Some.place c.in-Some.ensures c.index_mut-object.ensures.value) in
    rw e at c.requires

pub returns-clause-index : goal.returns-clause-index
returns-clause-index c = rw (← c.self.view_is)
    (λ yes. ap index_of (c.in-Some.ensures.written c.pre.new.self)
    ∙ index_of-with_copy c.args.g c.pre.new.self c.index_mut-object.result.now _ (copy_read c.args.g c.index_mut-object.result.now c.self.inside.objects.items c.self.inside.places.entries c.self.inside.shortcuts c.in-Some.place c.in-Some.ensures c.index_mut-object.ensures.value) (ap (λ (o : Object). is_no_marks o.marks) c.pre.ensures ∙ opened c.args.kind c.index_mut-object.result.now.marks ∙ sym (not-true c.is_clean-was.result yes) ∙ c.is_clean-was.ensures) (ap (λ (o : Object). o.what) c.pre.ensures))

pub invariant_of-self : goal.invariant_of-self
invariant_of-self c = c.in-Some.ensures.kept c.pre.new.self

pub returns-clause-order : goal.returns-clause-order
returns-clause-order c = rw (← c.self.view_is) c.stand_in_order.ensures
