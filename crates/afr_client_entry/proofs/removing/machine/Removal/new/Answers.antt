use Rattle.afr_client_entry.proofs.Removals.KeptLemmas.{sound_first}
use Rattle.afr_client_entry.proofs.removing.machine.Removal.new.Goals as goal

pub invariant_of-result : goal.invariant_of-result
invariant_of-result c =
    rw (c.after-stage.ensures, c.new-child.ensures)
    (sound_first c.args.change c.args.register c.args.child c.requires.removes c.requires.base c.requires.named c.requires.no_second c.requires.none_second c.requires.unbegun)
