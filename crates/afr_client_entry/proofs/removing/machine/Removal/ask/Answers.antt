use Rattle.std.proofs.Common.{sym, ◌∙◌}
use Rattle.afr_client_entry.proofs.Removals.KeptLemmas.{asking_of}
use Rattle.afr_client_entry.proofs.removing.machine.Removal.ask.Goals as goal

pub brick-requires : goal.brick-requires
brick-requires c =
    asking_of c.args.self.now.stage c.args.self.now c.stays_sound.ensures.ready (sym c.is_over.ensures ∙ c.if-is_over.false) (sym c.is_beginning.ensures ∙ c.if-is_beginning.false)
