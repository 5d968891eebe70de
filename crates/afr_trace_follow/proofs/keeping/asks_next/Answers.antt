use Rattle.afr_trace_follow.proofs.keeping.asks_next.Goals as goal

pub returns-in-ReadName : goal.returns-in-ReadName
returns-in-ReadName c = λ a b told took begins. rw c.in-ReadName.is c.is_next_of.ensures
