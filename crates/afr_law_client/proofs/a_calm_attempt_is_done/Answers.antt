use Rattle.afr_law_client.proofs.Calm.{calm_first, calm_kept}
use Rattle.afr_law_client.proofs.Over.{failed_by_brick, undisturbed_is_done}
use Rattle.afr_law_client.proofs.a_calm_attempt_is_done.Goals as goal

pub returns-clause-first : goal.returns-clause-first
returns-clause-first c = calm_first

pub returns-clause-kept : goal.returns-clause-kept
returns-clause-kept c = calm_kept

pub returns-clause-undisturbed : goal.returns-clause-undisturbed
returns-clause-undisturbed c = undisturbed_is_done

pub returns-clause-failed : goal.returns-clause-failed
returns-clause-failed c = failed_by_brick
