use Rattle.afr_trace_follow.proofs.following.keeps_to_some.Goals as goal

pub returns-in-Some : goal.returns-in-Some
returns-in-Some c = rw c.in-Some.is c.goes_with.ensures
