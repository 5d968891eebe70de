-- An unlock that failed uses up a planned fault.
use Rattle.std.proofs.Common.{◌≡◌, ℕ, suc, ◌+◌, ◌<◌, ◌≤◌, ◌==◌, ◌&&◌, Bool, true, false, inl, inr, refl, sym, ap, arith, List, [], ◌∷◌, ◌∙◌, Option, Some, None}
use Rattle.std.specs.Prelude.{if◌then◌else◌, nat_lt}
use Rattle.std.proofs.lemmas.Bool.{eqb-true, and_parts}
use Rattle.std.proofs.lemmas.Bool.Decides.{nat_tests}
use Rattle.afr_base.specs.declared.ids.ActorId.{ActorId}
use Rattle.afr_base.specs.declared.ids.BrickId.{BrickId}
use Rattle.afr_law_bound.proofs.Ends.Sums.{total_less}
use Rattle.afr_law_bound.specs.Ends.Cost.{total}
use Rattle.afr_law_bound.specs.Ends.Left.{is_to_come}
use Rattle.afr_lines.specs.declared.fault.Fault.TheVariants.{Fail, Lost}
use Rattle.afr_lines.specs.declared.fault.Fault.{Fault}
use Rattle.afr_lines.specs.declared.answer.Told.TheVariants.{Done, Failed, NotConnected}
use Rattle.afr_lines.specs.declared.line.Line.TheVariants.{Ask, Begin, End, Event, HealBegin, HealEnd}
use Rattle.afr_lines.specs.declared.line.Line.{Line}
use Rattle.afr_lines.specs.declared.request.Area.{Area}
use Rattle.afr_lines.specs.declared.request.Request.TheVariants.{Unlock}
use Rattle.afr_model.specs.Honest.{IsHonest, RequestOutcome, fault_in, is_live, one_more, over_session, requests_to}
use Rattle.afr_plan.specs.declared.plan.Plan.{Plan}
use Rattle.afr_plan.specs.declared.schedule.PlannedFault.{PlannedFault}
use Rattle.afr_lines.specs.declared.lock.Domain.{Domain}
use Rattle.afr_law_bound.proofs.Circle.{In}

more_requests : (b : ℕ) (line : Line) (n : ℕ) → n ≤ one_more b line n
more_requests b (Ask a y r told took) n = go (y.0 == b)
  where
    go : (here : Bool) → n ≤ (if here then n + 1 else n)
    go true = omega arith
    go false = omega arith
more_requests b (Begin a change) n = omega arith
more_requests b (HealBegin a g kind) n = omega arith
more_requests b (End a said) n = omega arith
more_requests b (HealEnd a g kind said) n = omega arith
more_requests b (Event event) n = omega arith

later : (m n at : ℕ) → m ≤ n → (if nat_lt n at then 1 else 0) ≤ (if nat_lt m at then 1 else 0)
later m n at low = go (nat_lt n at) refl (nat_lt m at) refl
  where
    go : (x : Bool) → nat_lt n at ≡ x → (y : Bool) → nat_lt m at ≡ y → (if x then 1 else 0) ≤ (if y then 1 else 0)
    go false e y f = omega arith
    go true e true f = omega arith
    go true e false f = absurd (let k : n < at = grind (arith, nat_tests, e) in let l : at ≤ m = grind (arith, nat_tests, f) in omega (arith, k, l, low))

pub fault_later : (line : Line) (older : List Line) (x : PlannedFault) → is_to_come (line ∷ older) x ≤ is_to_come older x
fault_later line older x = later (requests_to x.brick.0 older) (one_more x.brick.0 line (requests_to x.brick.0 older)) x.at (more_requests x.brick.0 line (requests_to x.brick.0 older))

-- the fault of a count stands in the list
fault_there : (xs : List PlannedFault) (b k : ℕ) (fault : Fault) → fault_in xs b k ≡ Some fault → (x : PlannedFault) × In x xs × (x.brick.0 ≡ b) × (x.at ≡ k)
fault_there [] b k fault e = absurd (cc e)
fault_there (x ∷ xs) b k fault e = go ((x.brick.0 == b) && (x.at == k)) refl e (λ f. fault_there xs b k fault f)
  where
    go : (hit : Bool) → ((x.brick.0 == b) && (x.at == k)) ≡ hit → (if hit then Some x.fault else fault_in xs b k) ≡ Some fault → (fault_in xs b k ≡ Some fault → (y : PlannedFault) × In y xs × (y.brick.0 ≡ b) × (y.at ≡ k))
        → (y : PlannedFault) × In y (x ∷ xs) × (y.brick.0 ≡ b) × (y.at ≡ k)
    go true f g rest = (let w = and_parts (x.brick.0 == b) (x.at == k) f in (x, inl refl, eqb-true x.brick.0 b w.0, eqb-true x.at k w.1))
    go false f g rest = (let w = rest g in (w.0, inr w.1, w.2, w.3))

-- an unlock is told Failed only by a planned fault
failed_planned : (live : Bool) (fault : Option Fault) (took : Bool) → (record { told = Failed; took = took }) ≡ over_session live fault Done → fault ≡ Some Fail
failed_planned false fault took e = absurd (let k : Failed ≡ NotConnected = ap (λ (o : RequestOutcome). o.told) e in cc k)
failed_planned true (Some Fail) took e = refl
failed_planned true (Some Lost) took e = absurd (let k : Failed ≡ NotConnected = ap (λ (o : RequestOutcome). o.told) e in cc k)
failed_planned true None took e = absurd (let k : Failed ≡ Done = ap (λ (o : RequestOutcome). o.told) e in cc k)

used : (line : Line) (older : List Line) (x : PlannedFault) → one_more x.brick.0 line (requests_to x.brick.0 older) ≡ requests_to x.brick.0 older + 1 → x.at ≡ suc (requests_to x.brick.0 older) → is_to_come (line ∷ older) x < is_to_come older x
used line older x more at = go (requests_to x.brick.0 older) (one_more x.brick.0 line (requests_to x.brick.0 older)) x.at more at
  where
    go : (m n k : ℕ) → n ≡ m + 1 → k ≡ suc m → (if nat_lt n k then 1 else 0) < (if nat_lt m k then 1 else 0)
    go m n k e f = (let past : nat_lt n k ≡ false = grind (arith, nat_tests, e, f) in let now : nat_lt m k ≡ true = grind (arith, nat_tests, e, f) in rw (past, now) (omega arith))

pub fault_used : (p : Plan) (a : ActorId) (b : BrickId) (domain : Domain) (area : Area) (took : Bool) (older : List Line) → IsHonest p (Ask a b (Unlock domain area) Failed took) older
    → total (is_to_come (Ask a b (Unlock domain area) Failed took ∷ older)) p.faults < total (is_to_come older) p.faults
fault_used p a b domain area took older honest =
    let line : Line = Ask a b (Unlock domain area) Failed took in
    let fault : fault_in p.faults b.0 (suc (requests_to b.0 older)) ≡ Some Fail = failed_planned (is_live p a b.0 line older) (fault_in p.faults b.0 (suc (requests_to b.0 older))) took honest in
    let w = fault_there p.faults b.0 (suc (requests_to b.0 older)) Fail fault in
    total_less (is_to_come older) (is_to_come (line ∷ older)) p.faults w.0 (λ x. fault_later line older x) w.1 (used line older w.0 (one w.0 w.2) (w.3 ∙ ap (λ (k : ℕ). suc (requests_to k older)) (sym w.2)))
  where
    one : (x : PlannedFault) → x.brick.0 ≡ b.0 → one_more x.brick.0 (Ask a b (Unlock domain area) Failed took) (requests_to x.brick.0 older) ≡ requests_to x.brick.0 older + 1
    one x e = (let hit : (b.0 == x.brick.0) ≡ true = grind (arith, nat_tests, e) in rw hit refl)
