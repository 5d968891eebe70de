-- What a healer's line counts in the log, and what each of its rounds may cost.
use Rattle.std.proofs.Common.{◌≡◌, ◌≢◌, ℕ, zero, suc, ◌≤◌, ◌==◌, ◌⊎◌, Bool, true, false, List, [], ◌∷◌, Some, refl, sym, arith, map, slice_get}
use Rattle.std.specs.Prelude.{nat_lt}
use Rattle.std.proofs.lemmas.Bool.Decides.{nat_tests}
use Rattle.afr_base.specs.declared.ids.ActorId.{ActorId}
use Rattle.afr_base.specs.declared.ids.BrickId.{BrickId}
use Rattle.afr_law_bound.specs.Ends.Cost.{costs_of, counted, round_cost}
use Rattle.afr_law_cost.specs.Left.{taken}
use Rattle.afr_lines.specs.declared.answer.Told.TheVariants as as_told
use Rattle.afr_lines.specs.declared.answer.Told.{Told}
use Rattle.afr_lines.specs.declared.line.Line.TheVariants.{Ask}
use Rattle.afr_lines.specs.declared.request.Request.TheVariants as request
use Rattle.afr_lines.specs.declared.request.Request.{Request}
use Rattle.afr_model.specs.Actors.{rounds_of}
use Rattle.afr_plan.specs.declared.plan.Plan.{Plan}
use Rattle.afr_lines.specs.declared.lock.Domain.TheVariants.{Heal, Work}

-- a line that answers a request counts what it takes from the lines left
pub counted_ask : (a : ActorId) (b : BrickId) (asked : Request) (told : Told) (took : Bool) → counted (Ask a b asked told took) ≡ taken asked told
counted_ask a b (request.Lock Work area) (as_told.Held owner) took = refl
counted_ask a b (request.Lock Work area) told took = refl
counted_ask a b (request.Lock Heal area) told took = refl
counted_ask a b (request.Unlock domain area) as_told.Failed took = refl
counted_ask a b (request.Unlock domain area) told took = refl
counted_ask a b asked told took = refl

-- ---- whose line it is
pub self : (n : ℕ) → (n == n) ≡ true
self n = grind (arith, nat_tests)

-- ---- the costs of a healer
one_cost : (xs : List BrickId) (k each cost : ℕ) → slice_get (map (λ b. each) xs) k ≡ Some cost → cost ≡ each
one_cost [] k each cost e = absurd (cc e)
one_cost (b ∷ xs) zero each cost e = sym (cc e)
one_cost (b ∷ xs) (suc k) each cost e = one_cost xs k each cost e

-- each round may cost the same
pub is_round_cost : (p : Plan) (a k cost : ℕ) → 17 ≤ a → slice_get (costs_of p a) k ≡ Some cost → cost ≡ round_cost p
is_round_cost p a k cost healer e = (let high : nat_lt 16 a ≡ true = grind (arith, nat_tests, healer) in one_cost (rounds_of p a) k (round_cost p) cost (rw high at e))
