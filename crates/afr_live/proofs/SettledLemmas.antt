-- A pass that added no line has found every actor done.
use Rattle.std.proofs.Common.{◌≡◌, ◌⊎◌, ◌||◌, ◌==◌, ◌≤◌, ◌<◌, ◌+◌, ◌-◌, ℕ, Bool, true, false, List, [], ◌∷◌, length, inl, inr, refl, sym, subst, ◌∙◌, true≢false}
use Rattle.std.proofs.lemmas.Bool.{eqb-true}
use Rattle.afr_law_bound.specs.Ends.Law.{is_back}
use Rattle.afr_lines.specs.declared.answer.Told.TheVariants.{Held}
use Rattle.afr_lines.specs.declared.line.Line.TheVariants.{Ask}
use Rattle.afr_lines.specs.declared.line.Line.{Line}
use Rattle.afr_lines.specs.declared.request.Request.TheVariants.{Lock}
use Rattle.afr_live.specs.Noted.{IsSettled}
use Rattle.afr_model.specs.Actors.{IsActor, is_done}
use Rattle.afr_model.specs.Following.{NoneDue}
use Rattle.afr_volume.proofs.DoneLemmas.{pass_each, pass_same}
use Rattle.afr_volume.specs.Going.{Goes, IsIdle}
use Rattle.afr_plan.specs.declared.plan.Plan.{Plan}
use Rattle.afr_lines.specs.declared.lock.Domain.TheVariants.{Work}
use Rattle.afr_law_bound.proofs.Standstill.Standing.{goes_on, held_waits, kept_before}
use Rattle.afr_law_bound.specs.Standstill.Law.{IsPresumed, NotAllWait}
use Rattle.afr_law_bound.specs.Standstill.Order.{IsWaiting}
use Rattle.afr_volume.specs.State.{State}

-- who was told so since the last other line waits
back_waits : (p : Plan) (log : List Line) (a : ℕ) → IsPresumed p log → is_back a log ≡ true → IsWaiting p log a
back_waits p [] a kept back = absurd (true≢false (sym back))
back_waits p (Ask x y (Lock Work area) (Held owner) took ∷ older) a kept back = go (x.0 == a) refl back (λ h. back_waits p older a (kept_before p (Ask x y (Lock Work area) (Held owner) took) older kept) h)
  where
    go : (own : Bool) → (x.0 == a) ≡ own → (own || is_back a older) ≡ true → (is_back a older ≡ true → IsWaiting p older a) → IsWaiting p (Ask x y (Lock Work area) (Held owner) took ∷ older) a
    go true e h was = subst (λ (k : ℕ). IsWaiting p (Ask x y (Lock Work area) (Held owner) took ∷ older) k) (eqb-true x.0 a e) (held_waits p older x y area owner took kept)
    go false e h was = goes_on p (Ask x y (Lock Work area) (Held owner) took) older kept tt a e (was h)
back_waits p (line ∷ older) a kept back = absurd (true≢false (sym back))

-- so where each actor is done or was told so, all are done
all_settled : (law : NotAllWait) (p : Plan) (log : List Line) → IsPresumed p log → ((a : ℕ) → IsActor p a → (is_done p a log ≡ true) ⊎ (is_back a log ≡ true)) → (a : ℕ) → IsActor p a → is_done p a log ≡ true
all_settled law p log kept settled a actor = law p log kept waits a actor
  where
    waits : (b : ℕ) → IsActor p b → is_done p b log ≡ false → IsWaiting p log b
    waits b is left = elim (settled b is) [
      | inl done ↦ absurd (true≢false (sym done ∙ left))
      | inr back ↦ back_waits p log b kept back
    ]

pub pass_settled : (law : NotAllWait) (a b c d : State) → IsPresumed a.plan a.log → Goes a b → Goes b c → Goes c d
    → (length b.log ≤ length a.log → (k : ℕ) → k < length a.plan.clients → IsSettled (1 + k) b)
    → (length c.log ≤ length b.log → (k : ℕ) → k < length a.plan.healers → IsSettled (17 + k) c)
    → (length d.log < d.plan.turns → NoneDue d.plan d.log)
    → length d.log ≤ length a.log → IsIdle d
pass_settled law a b c d kept f g h clients healers events l =
    let same : d ≡ a = (pass_same a b c d f g h l).2 in
    record { events = events; done = all_settled law d.plan d.log (rw same kept) (pass_each IsSettled a b c d f g h clients healers l) }
