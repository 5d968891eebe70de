use Rattle.std.specs.Prelude.{length}
use Rattle.afr_log.proofs.Entries.{there_push}
use Rattle.afr_log.proofs.log.Log.add_shown.Goals as goal

pub invariant_of-self : goal.invariant_of-self
invariant_of-self c = rw c.push_entry.ensures.items (there_push (length c.self.inside.kept.items) c.self.inside.packed.items c.in-Some.entry c.self.invariant (c.pack_shown.ensures.there c.in-Some.entry c.in-Some.is (length c.self.inside.kept.items)))
