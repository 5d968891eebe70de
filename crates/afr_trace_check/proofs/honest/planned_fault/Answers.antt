use Rattle.std.proofs.Common.{◌∙◌, ◌+◌, ℕ, List, add-one, ap, suc}
use Rattle.afr_model.specs.Honest.{fault_in}
use Rattle.afr_plan.specs.declared.schedule.PlannedFault.{PlannedFault}
use Rattle.afr_trace_check.proofs.honest.planned_fault.Goals as goal

pub returns : goal.returns
returns c =
    c.fault_in.ensures ∙ ap (λ (w : List PlannedFault). fault_in w c.args.b.0 (c.requests.result + 1)) c.as_slice.ensures
    ∙ ap (λ (n : ℕ). fault_in c.args.plan.now.faults c.args.b.0 n) (add-one c.requests.result ∙ ap suc c.requests.ensures.value)
