use Rattle.afr_trace_follow.proofs.renamed.links_to.Goals as goal

pub returns-in-Some : goal.returns-in-Some
returns-in-Some c = rw c.in-Some.is c.gives_name.ensures
