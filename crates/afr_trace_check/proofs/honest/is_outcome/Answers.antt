use Rattle.afr_trace_check.proofs.OutcomeLemmas.{both_same}
use Rattle.afr_trace_check.proofs.honest.is_outcome.Goals as goal

pub returns : goal.returns
returns c =
    rw (← c.outcome.view_is)
    (both_same c.args.told c.args.took (record { told = c.outcome.inside.told; took = c.outcome.inside.took }) c.same_told-same.result c.same_flag-likewise.result c.both.result c.both.ensures c.same_told-same.ensures
    c.same_flag-likewise.ensures)
