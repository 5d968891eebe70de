use Rattle.std.proofs.Common.{refl, sym, ◌∙◌}
use Rattle.afr_client.proofs.work.WorkMachine.hear.Goals as goal
use Rattle.afr_client.proofs.work.WorkMachine.hear.Goals.{in-Idle, in-Lookup, in-Write, in-Entry, in-Rename}

pub returns-clause-picked : goal.returns-clause-picked
returns-clause-picked g c =
    elim c.match-self.branch [
      | in-Idle w ↦ rw (w.picked-is, w.in-Idle.is) refl
      | in-Lookup w ↦ rw (w.picked-is, w.in-Lookup.is, sym w.machine.view_is ∙ sym w.deref_mut.ensures.value) w.hear-picked.ensures.picked
      | in-Write w ↦ rw (w.picked-is, w.in-Write.is, sym w.machine-in-Write.view_is ∙ sym w.deref_mut-in-Write.ensures.value) w.hear-picked-in-Write.ensures.picked
      | in-Entry w ↦ rw (w.picked-is, w.in-Entry.is, sym w.machine-in-Entry.view_is ∙ sym w.deref_mut-in-Entry.ensures.value) w.hear-picked-in-Entry.ensures.picked
      | in-Rename w ↦ rw (w.picked-is, w.in-Rename.is, sym w.machine-in-Rename.view_is ∙ sym w.deref_mut-in-Rename.ensures.value) w.hear-picked-in-Rename.ensures.picked
    ]
