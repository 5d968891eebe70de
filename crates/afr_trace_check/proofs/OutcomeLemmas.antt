-- Two outcomes are the same where both of their parts are.
use Rattle.std.proofs.Common.{◌≡◌, ◌↔◌, ◌&&◌, ◌∙◌, Bool, true, false, List, Option, refl, ap, subst, sym}
use Rattle.afr_base.specs.declared.ids.ActorId.{ActorId}
use Rattle.afr_base.specs.declared.ids.BrickId.{BrickId}
use Rattle.afr_lines.specs.declared.answer.Told.{Told}
use Rattle.afr_lines.specs.declared.line.Line.{Line}
use Rattle.afr_lines.specs.declared.line.Line.TheVariants.{Ask}
use Rattle.afr_lines.specs.declared.request.Request.{Request}
use Rattle.afr_lines.specs.declared.fault.Fault.{Fault}
use Rattle.afr_model.specs.Honest.{RequestOutcome, over_session}
use Rattle.afr_plan.specs.declared.plan.Plan.{Plan}
use Rattle.afr_trace_check.specs.Honest.{IsHonestBySums, outcome_by_sums}

same_parts : (told : Told) (took : Bool) (o : RequestOutcome) → told ≡ o.told → took ≡ o.took → (record { told = told; took = took }) ≡ o
same_parts told took o h k = rw (h, k) refl

pub both_same : (told : Told) (took : Bool) (o : RequestOutcome) (s t r : Bool) → r ≡ (s && t) → ((s ≡ true) ↔ (told ≡ o.told)) → ((t ≡ true) ↔ (took ≡ o.took)) → ((r ≡ true) ↔ ((record { told = told; took = took }) ≡ o))
both_same told took o s t r is hs ht = (λ e. go s t hs ht (sym is ∙ e), λ e. is ∙ back e)
  where
    go : (s t : Bool) → ((s ≡ true) ↔ (told ≡ o.told)) → ((t ≡ true) ↔ (took ≡ o.took)) → (s && t) ≡ true → (record { told = told; took = took }) ≡ o
    go true true ks kt e = same_parts told took o (ks.0 refl) (kt.0 refl)
    go true false ks kt e = absurd (cc)
    go false t ks kt e = absurd (cc)

    back : (record { told = told; took = took }) ≡ o → (s && t) ≡ true
    back e =
        let first : s ≡ true = hs.1 (ap (λ (x : RequestOutcome). x.told) e) in
        let second : t ≡ true = ht.1 (ap (λ (x : RequestOutcome). x.took) e) in
        rw (first, second) refl

-- a line is honest where it was told the outcome
pub honest_is : (p : Plan) (line : Line) (older : List Line) (a : ActorId) (b : BrickId) (asked : Request) (told : Told) (took : Bool) (o : RequestOutcome) (r : Bool) → line ≡ Ask a b asked told took
    → o ≡ outcome_by_sums p a b.0 asked line older → ((r ≡ true) ↔ ((record { told = told; took = took }) ≡ o)) → ((r ≡ true) ↔ IsHonestBySums p line older)
honest_is p line older a b asked told took o r e h k =
    let is : o ≡ outcome_by_sums p a b.0 asked (Ask a b asked told took) older = h ∙ ap (λ (l : Line). outcome_by_sums p a b.0 asked l older) e in
    subst (λ (l : Line). (r ≡ true) ↔ IsHonestBySums p l older) (sym e) (subst (λ (x : RequestOutcome). (r ≡ true) ↔ ((record { told = told; took = took }) ≡ x)) is k)

-- the same session, fault and answer have the same outcome
pub same_over : (live live' : Bool) (fault fault' : Option Fault) (said said' : Told) → live ≡ live' → fault ≡ fault' → said ≡ said' → over_session live fault said ≡ over_session live' fault' said'
same_over live live' fault fault' said said' hl hf hs = rw (hl, hf, hs) refl
