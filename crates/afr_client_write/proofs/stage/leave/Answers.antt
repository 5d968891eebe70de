use Rattle.std.proofs.Common.{sym, subst}
use Rattle.afr_client_walk.specs.declared.walk.WalkStep.{WalkStep}
use Rattle.afr_client_write.specs.Write.{IsWrite, after_step}
use Rattle.afr_client_write.specs.declared.stage.WriteStage.{WriteStage}
use Rattle.afr_client_write.proofs.WriteLemmas.{is_after_walk}
use Rattle.afr_client_write.proofs.stage.leave.Goals as goal

pub returns-in-Arrived-clause-kept : goal.returns-in-Arrived-clause-kept
returns-in-Arrived-clause-kept c =
    subst (λ (stage : WriteStage). IsWrite c.args.walk.now stage) (sym c.arrive.ensures)
    (subst (λ (step : WalkStep). IsWrite c.args.walk.now (after_step step c.args.job c.args.walk.now)) c.in-Arrived.is (is_after_walk c.args.job c.args.walk.now c.requires.walk c.requires.fits))
