use Rattle.std.specs.Prelude.{length, ◌++◌, ◌∷◌, []}
use Rattle.std.proofs.Common.{◌∙◌}
use Rattle.afr_log.proofs.Entries.{there_push}
use Rattle.afr_log.proofs.log.Log.put.Goals as goal

pub invariant_of-self : goal.invariant_of-self
invariant_of-self c = rw c.push_entry.ensures.items (there_push (length c.self.inside.kept.items) c.self.inside.packed.items c.args.entry c.self.invariant (c.requires.there (length c.self.inside.kept.items)))
