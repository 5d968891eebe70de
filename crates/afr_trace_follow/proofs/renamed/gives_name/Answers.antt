use Rattle.afr_trace_follow.proofs.renamed.gives_name.Goals as goal

pub returns-in-Some : goal.returns-in-Some
returns-in-Some c = rw c.in-Some.is c.makes_last.ensures
