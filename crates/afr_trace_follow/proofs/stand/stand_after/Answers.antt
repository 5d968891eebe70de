use Rattle.afr_trace_follow.proofs.stand.stand_after.Goals as goal

pub returns-clause-few : goal.returns-clause-few
returns-clause-few c = λ n f. record { path = c.path_shown.ensures.few n f.path; place = c.kept_at.ensures.few n f.place (c.path_shown-next.ensures.few n f.place) }
