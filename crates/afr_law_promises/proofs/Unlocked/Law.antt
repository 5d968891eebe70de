-- The register of an actor has each lock of its that a brick has, and between works it has none: so no brick has one.
use Rattle.std.proofs.Common.{◌≡◌, ℕ, zero, suc, ◌≤◌, true, inl, inr, sym, ◌∙◌, subst, arith, Contains, List, [], ◌∷◌, length, true≢false}
use Rattle.afr_lines.specs.declared.fault.Fault.{Fault}
use Rattle.std.specs.Prelude.{Option}
use Rattle.afr_lines.specs.Log.{EveryPrefix}
use Rattle.afr_lines.specs.Places.{Within, place_of}
use Rattle.afr_lines.specs.declared.line.Line.{Line}
use Rattle.afr_lines.specs.declared.request.Area.{Area}
use Rattle.afr_lines.specs.declared.lock.Domain.{Domain}
use Rattle.afr_lines.specs.declared.lock.Domain.TheVariants.{Heal, Work}
use Rattle.afr_lines.specs.declared.lock.HeldLock.{HeldLock}
use Rattle.afr_plan.specs.declared.plan.Plan.{Plan}
use Rattle.afr_model.specs.Honest.{Honest as IsHonestLog, fault_in}
use Rattle.afr_model.specs.Locks.{locks_held}
use Rattle.afr_model_moves.proofs.ByPosition.{past_whole}
use Rattle.afr_model_moves.proofs.Places.{place_is}
use Rattle.afr_model_moves.specs.Discipline.{MovesExactly, exact}
use Rattle.afr_model_moves.specs.Honest.{Honest}
use Rattle.afr_model_moves.specs.Past.{Beginning, Log, held, place}
use Rattle.afr_model_moves.specs.Positions.{by_position}
use Rattle.afr_law.proofs.Discipline.ByList.{exactly_lawful}
use Rattle.afr_law.proofs.Model.Discipline.{exactly_below}
use Rattle.afr_law.proofs.Model.Locks.{In, in_held}
use Rattle.afr_law.proofs.Model.Settles.{all_honest, take_within, within_before}
use Rattle.afr_law.proofs.Safety.Locks.{Grant}
use Rattle.afr_law.specs.Beginning.{start_of}
use Rattle.afr_law.specs.Exactly.{IsLawfulExactly, name_bound}
use Rattle.afr_law_bound.proofs.Kept.{has_busy, kept}
use Rattle.afr_law_quiet.proofs.Lists.Lone.{lone}
use Rattle.afr_law_promises.specs.Unlocked.Unlocked.{AreUnlocked, WorksLeaveNoLock}

-- ---- by positions
module _ (n : ℕ) (files : Beginning) (faults : ℕ → ℕ → Option Fault) (log : Log) (honest : Honest files faults log) (moves : MovesExactly n files.keeps log) where
  none_held : (t a b q : ℕ) (domain : Domain) (area : Area) → (place log t a ≡ Within → ⊥) → Grant log q a b domain area → held log t b q ≡ true → ⊥
  none_held t a b q Work area out grant k = (let own = kept n files faults log honest moves t a in true≢false (sym (has_busy n (exact n files.keeps log t a).law b area (own.locks b q area grant k)) ∙ own.rest out))
  none_held t a b q Heal area out grant k = (let own = lone n files faults log honest moves t a in let has = own.locks b q area grant k in true≢false (sym has.healing ∙ own.rest out b has.below))

-- ---- by lines
in_contained : (lock : HeldLock Area) (locks : List (HeldLock Area)) → Contains locks lock → In lock locks
in_contained lock [] (k, low, is) = absurd (omega (arith, low))
in_contained lock (first ∷ locks) (zero, low, is) = inl (sym is)
in_contained lock (first ∷ locks) (suc k, low, is) = inr (in_contained lock locks (k, omega (arith, low), is))

module _ (p : Plan) (five : p.shape.n ≤ 5) where
  unlocked : (log : List Line) → length log ≤ 4000000 → IsHonestLog p log → IsLawfulExactly p log → AreUnlocked log
  unlocked log short told lawful a out b lock inside mine =
      let whole = past_whole log in
      let has = in_held (by_position log) b log whole lock (in_contained lock (locks_held b log) inside) in
      let below = exactly_below p log five short told lawful in
      none_held p.shape.n (start_of p (name_bound p)) (fault_in p.faults) (by_position log)
      (all_honest p (name_bound p) five log below told (within_before p log (take_within p (name_bound p) five log below told)))
      (exactly_lawful p.shape.n (start_of p (name_bound p)) log lawful).moves
      (length log) lock.owner.0 b has.0 lock.domain lock.area
      (λ at. out (subst (λ (x : ℕ). place_of x log ≡ Within) mine (sym (place_is (by_position log) lock.owner.0 log whole) ∙ at)))
      (record { took = has.1; is = has.2 }) has.3

  moments : (log : List Line) → length log ≤ 4000000 → IsHonestLog p log → IsLawfulExactly p log → EveryPrefix AreUnlocked log
  moments [] short told lawful = unlocked [] short told lawful
  moments (line ∷ older) short told lawful = (unlocked (line ∷ older) short told lawful, moments older (omega (arith, short)) told.1 lawful.1)

pub exact_unlocked : WorksLeaveNoLock
exact_unlocked p log five short honest lawful = moments p five log short honest lawful
