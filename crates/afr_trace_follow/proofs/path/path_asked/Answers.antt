use Rattle.afr_trace_follow.proofs.path.path_asked.Goals as goal

pub returns-in-ReadName-clause-value : goal.returns-in-ReadName-clause-value
returns-in-ReadName-clause-value c = λ a b took. rw c.in-ReadName.is (c.name_told.ensures.value a b c.in-ReadName.gfid c.in-ReadName.name took)
