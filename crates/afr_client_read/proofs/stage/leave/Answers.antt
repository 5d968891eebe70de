use Rattle.std.proofs.Common.{subst}
use Rattle.afr_client_walk.specs.declared.walk.WalkStep.{WalkStep}
use Rattle.afr_client_read.specs.Lookup.{IsLookup, after_step}
use Rattle.afr_client_read.proofs.LookupLemmas.{is_after_walk}
use Rattle.afr_client_read.proofs.stage.leave.Goals as goal

pub returns-in-Arrived-clause-kept : goal.returns-in-Arrived-clause-kept
returns-in-Arrived-clause-kept c =
    rw c.arrive.ensures
    (subst (λ (step : WalkStep). IsLookup c.args.walk.now (after_step step c.args.job c.args.walk.now)) c.in-Arrived.is (is_after_walk c.args.job c.args.walk.now c.requires))
