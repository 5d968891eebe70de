use Rattle.std.proofs.Common.{refl}
use Rattle.afr_trace_follow.proofs.HealLemmas.{heal_here, no_heal}
use Rattle.afr_trace_follow.proofs.KeepingLemmas.{as_well, never}
use Rattle.afr_trace_follow.proofs.rounds.is_of_heal.Goals as goal

pub returns-in-Some : goal.returns-in-Some
returns-in-Some c = λ list w asked e about. as_well c.same_gfid.result _ _ (heal_here list w asked c.args.due _ c.args.g _ c.in-Some.is e about) c.same_gfid.ensures

pub returns-in-None : goal.returns-in-None
returns-in-None c = λ list w asked e about. never _ _ refl (no_heal list w asked c.args.due c.in-None.is e)
