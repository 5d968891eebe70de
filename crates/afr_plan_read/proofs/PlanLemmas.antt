-- Plans that grow by a line, and the plan that a text spells.
use Rattle.std.proofs.Common.{◌≡◌, ℕ, List, [], ◌∷◌, ◌++◌, Result, Ok, Err, Some, None, refl, sym, ap, ◌∙◌}
use Rattle.afr_plan.specs.declared.plan.PlanFault.{PlanFault}
use Rattle.afr_plan.specs.declared.plan.Plan.{Plan}
use Rattle.afr_plan.specs.Said.{Said}
use Rattle.afr_plan.specs.Judging.{reading, first_fault, fault_in}
use Rattle.afr_plan.specs.PlanOf.{onto_last, plan_of}
use Rattle.afr_plan.specs.Spells.{Spells}
use Rattle.afr_plan_read.proofs.SaysLemmas.{read-says, says-read}

pub onto_end : {A : Type 0} (c : A) (older : List (List A)) (script : List A) → onto_last c (older ++ script ∷ []) ≡ older ++ (script ++ c ∷ []) ∷ []
onto_end c [] script = refl
onto_end c (x ∷ []) script = refl
onto_end c (x ∷ y ∷ older) script = ap (λ t. x ∷ t) (onto_end c (y ∷ older) script)

pub read-spells : (bytes : List ℕ) (all : List Said) (plan : Plan) → reading bytes ≡ Ok all → plan ≡ plan_of all → Spells bytes plan
read-spells bytes all plan r e = (all, read-says bytes all r, e)

-- a text with a first fault spells nothing
pub faulty-spells : (bytes : List ℕ) (fault : PlanFault) (plan : Plan) → first_fault bytes ≡ Some fault → Spells bytes plan → ⊥
faulty-spells bytes fault plan f s =
    let e : None ≡ Some fault = sym (ap fault_in (says-read bytes s.0 s.1)) ∙ f in
    absurd (cc)

-- a text that spells a plan has no fault
pub spells-faultless : (bytes : List ℕ) (plan : Plan) → Spells bytes plan → first_fault bytes ≡ None
spells-faultless bytes plan s = ap fault_in (says-read bytes s.0 s.1)

-- and a text without a fault spells one
pub faultless-spells : (bytes : List ℕ) → first_fault bytes ≡ None → (plan : Plan) × Spells bytes plan
faultless-spells bytes f = step (reading bytes) refl f
  where
    step : (r : Result (List Said) PlanFault) → reading bytes ≡ r → fault_in r ≡ None → (plan : Plan) × Spells bytes plan
    step (Ok all) e f = (plan_of all, read-spells bytes all (plan_of all) e refl)
    step (Err fault) e f = absurd (cc)

-- both plans are that of the lines that are read
pub same-plan : (bytes : List ℕ) (plan other : Plan) → Spells bytes plan → Spells bytes other → plan ≡ other
same-plan bytes plan other s t =
    let e : ◌≡◌ {A = Result (List Said) PlanFault} (Ok s.0) (Ok t.0) = sym (says-read bytes s.0 s.1) ∙ says-read bytes t.0 t.1 in
    let same : s.0 ≡ t.0 = cc in
    s.2 ∙ ap plan_of same ∙ sym t.2
