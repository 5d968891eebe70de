use Rattle.std.proofs.Common.{sym, subst}
use Rattle.afr_client_entry.specs.Entry.{IsEntry}
use Rattle.afr_client_entry.specs.declared.stage.EntryStage.{EntryStage}
use Rattle.afr_client_entry.proofs.EntryLemmas.{kept_begun}
use Rattle.afr_client_entry.proofs.machine.EntryMachine.begun.Goals as goal

pub invariant_of-self : goal.invariant_of-self
invariant_of-self c =
    subst (λ (stage : EntryStage). IsEntry c.self.inside.walk c.self.inside.job stage) (sym c.stage_begun.ensures)
    (kept_begun c.self.inside.stage c.args.at c.self.inside.walk c.self.inside.job c.self.invariant)
