use Rattle.afr_base.specs.declared.ids.What.TheVariants.{Dir, File}
use Rattle.afr_trace_follow.proofs.ChangeLemmas.{made_named, removed_named}
use Rattle.afr_trace_follow.proofs.KeepingLemmas.{as_well, some_as_well}
use Rattle.afr_trace_follow.proofs.commands.is_named.Goals as goal

pub returns-in-Write : goal.returns-in-Write
returns-in-Write c = rw c.in-Write.is (as_well c.is_write.result _ _ (some_as_well _ _) c.is_write.ensures)

pub returns-in-Cut : goal.returns-in-Cut
returns-in-Cut c = rw c.in-Cut.is (as_well c.is_cut.result _ _ (some_as_well _ _) c.is_cut.ensures)

pub returns-in-SetAttr : goal.returns-in-SetAttr
returns-in-SetAttr c = rw c.in-SetAttr.is (as_well c.is_set_attr.result _ _ (some_as_well _ _) c.is_set_attr.ensures)

pub returns-in-Create : goal.returns-in-Create
returns-in-Create c = rw c.in-Create.is (made_named c.args.g c.made_at.result _ _ _ File c.args.change.now c.makes_last.result c.made_at.ensures c.as_slice.ensures c.makes_last.ensures)

pub returns-in-Mkdir : goal.returns-in-Mkdir
returns-in-Mkdir c =
    rw c.in-Mkdir.is (made_named c.args.g c.made_at-in-Mkdir.result _ _ _ Dir c.args.change.now c.makes_last-in-Mkdir.result c.made_at-in-Mkdir.ensures c.as_slice-in-Mkdir.ensures c.makes_last-in-Mkdir.ensures)

pub returns-in-Unlink : goal.returns-in-Unlink
returns-in-Unlink c = rw c.in-Unlink.is (removed_named c.args.g _ _ File c.args.change.now c.removes_last.result c.as_slice-in-Unlink.ensures c.removes_last.ensures)

pub returns-in-Rmdir : goal.returns-in-Rmdir
returns-in-Rmdir c = rw c.in-Rmdir.is (removed_named c.args.g _ _ Dir c.args.change.now c.removes_last-in-Rmdir.result c.as_slice-in-Rmdir.ensures c.removes_last-in-Rmdir.ensures)
