use Rattle.std.proofs.Common.{◌≡◌, ap, None}
use Rattle.std.specs.BTreeMap.{insert_entry}
use Rattle.afr_object.specs.Tables.{copy_at, gfid_cmp, new_object}
use Rattle.afr_object.specs.TablesLemmas.{remove_entry-insert_entry}
use Rattle.afr_brick.proofs.Made.{copies, not_both, some_of, none_of, name_after_object, still_there}
use Rattle.afr_brick.proofs.store.Store.make_new.Goals as goal

pub returns-in-Ok-clause-ok : goal.returns-in-Ok-clause-ok
returns-in-Ok-clause-ok c =
    let there = some_of (copy_at c.args.dir c.args.self.now.objects) c.requires.dir in
    let new : copy_at c.args.gfid c.args.self.now.objects ≡ None = none_of _ c.requires.new in
    rw (c.in-Ok.ensures.ok, c.in_ok-add_object.ensures.ok)
    (ap (copies c.args.self.now.keeps) (name_after_object c.args.dir c.args.name c.args.gfid c.args.what there.0 c.args.self.now.objects there.1 new))

pub returns-in-Err-clause-found : goal.returns-in-Err-clause-found
returns-in-Err-clause-found c = λ h.
    let there = some_of (copy_at c.args.dir c.args.self.now.objects) c.requires.dir in
    let new : copy_at c.args.gfid c.args.self.now.objects ≡ None = none_of _ c.requires.new in
    not_both (copy_at c.args.dir (insert_entry gfid_cmp c.args.self.now.objects c.args.gfid (new_object c.args.what))) there.0
    (still_there c.args.gfid c.args.dir (new_object c.args.what) there.0 c.args.self.now.objects there.1 new)
    (rw c.in_ok-add_object.ensures.ok at (c.in-Err.ensures.absent.0 h))

pub returns-in-Err-clause-err : goal.returns-in-Err-clause-err
returns-in-Err-clause-err c =
    rw (c.drop_object.ensures, c.in-Err.ensures.err, c.in_ok-add_object.ensures.ok)
    (ap (copies c.args.self.now.keeps) (remove_entry-insert_entry c.args.gfid (new_object c.args.what) c.args.self.now.objects (none_of _ c.requires.new)))
