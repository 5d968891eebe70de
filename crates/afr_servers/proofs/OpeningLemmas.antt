-- One more new server.
use Rattle.std.proofs.Common.{◌≡◌, ℕ, List, [], ◌∷◌, ◌++◌, length, sym, ◌∙◌, subst, Some, slice_get, inl, inr}
use Rattle.afr_plan.specs.declared.plan.Plan.{Plan}
use Rattle.afr_server.specs.Serving.{Serving}
use Rattle.afr_servers.proofs.PlaceLemmas.{got_push}
use Rattle.afr_servers.specs.Opening.{IsNew}

-- the servers of the bricks so far
abbrev pub AreNewSoFar : Plan → List Serving → Type 0
AreNewSoFar p servers = (b : ℕ) (s : Serving) → slice_get servers b ≡ Some s → IsNew p b s

pub new_more : (p : Plan) (n : ℕ) (old new : List Serving) (s : Serving) → new ≡ old ++ s ∷ [] → length old ≡ n → AreNewSoFar p old → IsNew p n s → AreNewSoFar p new
new_more p n old new s is count so one b x h =
    elim (got_push old s b x (subst (λ (l : List Serving). slice_get l b ≡ Some x) is h)) [
      | inl was ↦ so b x was
      | inr last ↦ subst (λ (k : ℕ). IsNew p k x) (sym (last.0 ∙ count)) (subst (λ (y : Serving). IsNew p n y) last.1 one)
    ]
