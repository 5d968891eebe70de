use Rattle.std.proofs.Common.{◌∙◌, Bool, List, ap, not, ℕ}
use Rattle.afr_base.specs.Bricks.{below, member, minus, same}
use Rattle.afr_trace_check.proofs.BlamingLemmas.{same_enough, same_seven}
use Rattle.afr_trace_check.proofs.blamed.has_grounds.Goals as goal

pub returns : goal.returns
returns c =
    c.are_all.ensures
    ∙ same_seven _ _ _ _ _ _ _ _ _ _ _ _ _ _ c.is_begun-begun.ensures c.is_its_change-of_it.ensures (ap (λ (f : Bool). not f) c.was_closed-closed.ensures)
    (c.has-done.ensures ∙ ap (λ (s : List ℕ). member s c.args.b.0) c.done_by-did.ensures)
    (c.suffices-enough.ensures ∙ same_enough c.args.plan.now.shape c.args.kind _ _ _ _ c.seen_by-looked.ensures c.done_by-did.ensures)
    (c.are_others-others.ensures ∙ ap (λ (s : List ℕ). same c.args.missed (minus (below c.args.plan.now.shape.n) s)) c.done_by-did.ensures) c.have_refused-why.ensures
