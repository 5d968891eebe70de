use Rattle.std.proofs.Common.{◌∙◌, ◌*◌, ℕ, Bool, ap, not, nat_lt}
use Rattle.afr_trace_safe.proofs.AccusedLemmas.{same_four}
use Rattle.afr_trace_safe.proofs.copies.is_judged.Goals as goal

pub returns : goal.returns
returns c =
    c.are_all.ensures
    ∙ same_four _ _ _ _ _ _ _ _ c.has_object-there.ensures c.keeps-kept.ensures (ap (λ (f : Bool). not f) c.accuses-accused.ensures)
    (c.is_most-most.ensures ∙ ap (λ (n : ℕ). nat_lt c.args.plan.now.shape.n (2 * n)) c.count_quiet.ensures.value)
