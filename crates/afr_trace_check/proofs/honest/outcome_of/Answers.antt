use Rattle.std.proofs.Common.{◌∙◌}
use Rattle.afr_trace_check.proofs.OutcomeLemmas.{same_over}
use Rattle.afr_trace_check.proofs.honest.outcome_of.Goals as goal

pub returns : goal.returns
returns c = c.over_session.ensures ∙ same_over _ _ _ _ _ _ c.is_live-live.ensures c.planned_fault-fault.ensures c.told-said.ensures
