use Rattle.std.proofs.Common.{sym, subst}
use Rattle.afr_client_write.specs.Write.{IsWrite}
use Rattle.afr_client_write.specs.declared.stage.WriteStage.{WriteStage}
use Rattle.afr_client_write.proofs.WriteLemmas.{kept_begun}
use Rattle.afr_client_write.proofs.machine.WriteMachine.begun.Goals as goal

pub invariant_of-self : goal.invariant_of-self
invariant_of-self c = subst (λ (stage : WriteStage). IsWrite c.self.inside.walk stage) (sym c.stage_begun.ensures) (kept_begun c.self.inside.stage c.args.at c.self.inside.walk c.self.invariant)
