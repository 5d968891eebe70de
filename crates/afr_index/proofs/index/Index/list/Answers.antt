use Rattle.std.proofs.Common.{refl}
use Rattle.std.proofs.lemmas.List.{take_all}
use Rattle.afr_base.specs.declared.ids.What.TheVariants.{File}
use Rattle.afr_index.proofs.RowLemmas.{next, rising_all}
use Rattle.afr_index.proofs.index.Index.list.Goals as goal

pub returns-in_err-list-clause-rising : goal.returns-in_err-list-clause-rising
returns-in_err-list-clause-rising c = rw (← c.self.view_is) (rising_all c.self.inside.late.items c.self.inside.kinds.entries c.self.invariant)

pub returns-in_err-put_in-clause-rising : goal.returns-in_err-put_in-clause-rising
returns-in_err-put_in-clause-rising c = rw (← c.self.view_is) (rising_all c.self.inside.late.items c.self.inside.kinds.entries c.self.invariant)

pub returns-clause-rising : goal.returns-clause-rising
returns-clause-rising c = rw (← c.self.view_is) (rising_all c.self.inside.late.items c.self.inside.kinds.entries c.self.invariant)

pub loop-entry-preserved : goal.loop-entry-preserved
loop-entry-preserved c = rw (c.in_ok-put_in.ensures, c.loop-entry.invariant, next c.as_slice-entry-items.result.now _ c.loop-entry.entry-index (record { 0 = 0 }, File) c.loop-entry-test.true) refl

pub returns-clause-ok : goal.returns-clause-ok
returns-clause-ok c =
    rw (c.from_vec.ensures, c.loop-entry.invariant, take_all c.loop-entry.entry-index c.as_slice-entry-items.result.now c.loop-entry-test.false, c.as_slice-entry-items.ensures.value, c.in_ok-list.ensures)
    c.self.view_is
