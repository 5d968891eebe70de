use Rattle.afr_trace_follow.proofs.renamed.keeps_asked.Goals as goal

pub returns-in-ReadName : goal.returns-in-ReadName
returns-in-ReadName c = λ x b told took. rw c.in-ReadName.is c.is_due_name.ensures
