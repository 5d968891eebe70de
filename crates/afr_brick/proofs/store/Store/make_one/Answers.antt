use Rattle.std.proofs.Common.{◌≡◌, sym, ap, false, reverse}
use Rattle.std.proofs.lemmas.List.{reverse-append}
use Rattle.std.specs.Prelude.{is_some}
use Rattle.afr_object.specs.Tables.{copy_at, new_object}
use Rattle.afr_object.specs.TablesLemmas.{remove_entry-insert_entry}
use Rattle.afr_brick.specs.Undone.{without}
use Rattle.afr_brick.proofs.Made.{copies, none_of}
use Rattle.afr_brick.proofs.store.Store.make_one.Goals as goal

pub returns-in-Ok-clause-undo : goal.returns-in-Ok-clause-undo
returns-in-Ok-clause-undo c =
    let test : is_some (copy_at c.args.entry.gfid c.args.self.now.objects) ≡ false = sym c.if-has.ensures in
    rw (c.in-Ok.ensures.items, reverse-append, c.in_ok-add_object.ensures.ok)
    (ap (without (reverse c.args.fresh.now.items)) (remove_entry-insert_entry c.args.entry.gfid (new_object c.args.entry.what) c.args.self.now.objects (none_of _ test)))

pub returns-in-Err-clause-err : goal.returns-in-Err-clause-err
returns-in-Err-clause-err c =
    let test : is_some (copy_at c.args.entry.gfid c.args.self.now.objects) ≡ false = sym c.if-has.ensures in
    rw (c.drop_object.ensures, c.in_ok-add_object.ensures.ok)
    (ap (copies c.args.self.now.keeps) (remove_entry-insert_entry c.args.entry.gfid (new_object c.args.entry.what) c.args.self.now.objects (none_of _ test)))

pub returns-in-Err-clause-undo : goal.returns-in-Err-clause-undo
returns-in-Err-clause-undo c =
    let test : is_some (copy_at c.args.entry.gfid c.args.self.now.objects) ≡ false = sym c.if-has.ensures in
    rw (c.in-Err.ensures.items, c.drop_object.ensures, c.in_ok-add_object.ensures.ok)
    (ap (without (reverse c.args.fresh.now.items)) (remove_entry-insert_entry c.args.entry.gfid (new_object c.args.entry.what) c.args.self.now.objects (none_of _ test)))
