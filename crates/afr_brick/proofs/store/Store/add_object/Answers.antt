use Rattle.std.proofs.Common.{◌≡◌, ap, length, None}
use Rattle.afr_object.specs.Tables.{copy_at, new_object}
use Rattle.afr_brick.proofs.Found.{on_err}
use Rattle.afr_brick.proofs.Made.{copies, none_of}
use Rattle.afr_brick.proofs.PlacesLemmas.{placed_put, placed_spare, table_put, table_spare}
use Rattle.afr_brick.specs.Placed.{table}
use Rattle.afr_brick.proofs.store.Store.add_object.Goals as goal

pub returns-in_err-insert-clause-err : goal.returns-in_err-insert-clause-err
returns-in_err-insert-clause-err c = rw (← c.self.view_is) (on_err _ (ap (copies c.self.inside.keeps) (table_spare c.new.result c.self.inside.objects.items _ c.self.inside.places.entries _ c.self.invariant.apart c.in_ok-push.ensures.items c.in_err-insert.ensures.err)))

pub invariant_of-self-in_err-insert : goal.invariant_of-self-in_err-insert
invariant_of-self-in_err-insert c = placed_spare c.new.result c.self.inside.objects.items _ c.self.inside.places.entries _ c.self.inside.shortcuts c.self.invariant c.in_ok-push.ensures.items c.in_err-insert.ensures.err

pub returns-clause-ok : goal.returns-clause-ok
returns-clause-ok c = rw (← c.self.view_is) (ap (copies c.self.inside.keeps) (table_put c.args.gfid c.new.result (new_object c.args.what) c.self.inside.objects.items _ c.self.inside.places.entries _ (length c.as_slice-place.result.now) c.self.invariant.apart (ap length c.as_slice-place.ensures.value) c.in_ok-push.ensures.items c.in_ok-insert.ensures.entries c.new.ensures))

pub invariant_of-self-2 : goal.invariant_of-self-2
invariant_of-self-2 c =
    let lacks : copy_at c.args.gfid (table c.self.inside.objects.items c.self.inside.places.entries) ≡ None = none_of _ (rw (← c.self.view_is) at c.requires) in
    placed_put c.args.gfid c.new.result c.self.inside.objects.items _ c.self.inside.places.entries _ c.self.inside.shortcuts _ (length c.as_slice-place.result.now) lacks c.self.invariant (ap length c.as_slice-place.ensures.value) c.in_ok-push.ensures.items c.in_ok-insert.ensures.entries c.add.ensures

pub invariant_of-self : goal.invariant_of-self
invariant_of-self c = rw c.in_err-push.ensures.items c.self.invariant
