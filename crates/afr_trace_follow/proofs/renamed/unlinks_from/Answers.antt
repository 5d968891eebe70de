use Rattle.afr_trace_follow.proofs.renamed.unlinks_from.Goals as goal

pub returns-in-Some : goal.returns-in-Some
returns-in-Some c = rw c.in-Some.is c.removes_last.ensures
