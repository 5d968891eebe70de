-- A heal that gives its lock back leaves none; one that gives back another range, of one byte less, leaves a lock behind.
use Rattle.std.proofs.Common.{◌≡◌, ℕ, zero, suc, ◌==◌, ◌&&◌, ◌++◌, not, Bool, true, false, ◌∙◌, subst, ap, arith, Contains, List, [], ◌∷◌, filter, refl}
use Rattle.std.specs.Prelude.{◌^◌, if◌then◌else◌}
use Rattle.afr_base.specs.declared.ids.Kind.TheVariants.{Attrs}
use Rattle.afr_object.specs.Tables.{root}
use Rattle.afr_lines.specs.Log.{EveryPrefix}
use Rattle.afr_lines.specs.Overlap.{same_area}
use Rattle.afr_lines.specs.Places.{Within, place_of}
use Rattle.afr_lines.specs.declared.answer.Told.TheVariants.{Done, Granted}
use Rattle.afr_lines.specs.declared.line.Line.{Line}
use Rattle.afr_lines.specs.declared.line.Line.TheVariants.{Ask, End, HealEnd}
use Rattle.afr_lines.specs.declared.reply.Good.TheVariants as good
use Rattle.afr_lines.specs.declared.reply.HealReply.TheVariants as healed
use Rattle.afr_lines.specs.declared.reply.Reply.TheVariants as reply
use Rattle.afr_lines.specs.declared.request.Area.{Area}
use Rattle.afr_lines.specs.declared.request.Area.TheVariants.{Range}
use Rattle.afr_lines.specs.declared.request.Request.TheVariants.{Lock, Unlock}
use Rattle.afr_lines.specs.declared.lock.Domain.TheVariants.{Heal}
use Rattle.afr_lines.specs.declared.lock.HeldLock.{HeldLock}
use Rattle.afr_lines.specs.Locks.{is_lock}
use Rattle.afr_model.specs.Locks.{granted_by_line, locks_held, outlives}
use Rattle.afr_model.specs.Sessions.{ends_session}
use Rattle.afr_law_promises.specs.Unlocked.Unlocked.{AreUnlocked, HoldsNone}

-- the healer asks brick 0 for the Heal lock of the root
abbrev locked : List Line
locked = Ask (record { 0 = 17 }) (record { 0 = 0 }) (Lock Heal (Range root 0 (2 ^ 63))) Granted true ∷ []

-- it gives this range of the Heal domain back
abbrev given_back : ℕ → List Line
given_back from = Ask (record { 0 = 17 }) (record { 0 = 0 }) (Unlock Heal (Range root from (2 ^ 63))) Done true ∷ locked

-- its heal ends
abbrev ended_heal : ℕ → List Line
ended_heal from = HealEnd (record { 0 = 17 }) root Attrs healed.Failed ∷ given_back from

-- and its round
abbrev pub ended : ℕ → List Line
ended from = End (record { 0 = 17 }) (reply.Ok good.Done) ∷ ended_heal from

-- an empty list contains no lock
nobody : (lock : HeldLock Area) → Contains [] lock → ⊥
nobody lock (k, low, is) = omega (arith, low)

none_holds : (log : List Line) → ((b : ℕ) → locks_held b log ≡ []) → (a : ℕ) → HoldsNone log a
none_holds log none a b lock inside mine = nobody lock (subst (λ (locks : List (HeldLock Area)). Contains locks lock) (none b) inside)

-- while the lock is held, the healer is within its work
holds_within : (a : ℕ) → (place_of a locked ≡ Within → ⊥) → HoldsNone locked a
holds_within a out b lock inside mine = go (0 == b) inside
  where
    go : (here : Bool) → Contains (if here then record { owner = record { 0 = 17 }; domain = Heal; area = Range root 0 (2 ^ 63) } ∷ [] else []) lock → ⊥
    go true (zero, low, is) = out (subst (λ (x : ℕ). place_of x locked ≡ Within) (ap (λ (l : HeldLock Area). l.owner.0) is ∙ mine) refl)
    go true (suc k, low, is) = omega (arith, low)
    go false none = nobody lock none

-- the unlock takes it from the brick, and no other has one
none_now : (b : ℕ) → locks_held b (given_back 0) ≡ []
none_now b = go (0 == b)
  where
    back : Line
    back = Ask (record { 0 = 17 }) (record { 0 = 0 }) (Unlock Heal (Range root 0 (2 ^ 63))) Done true

    mine : HeldLock Area
    mine = record { owner = record { 0 = 17 }; domain = Heal; area = Range root 0 (2 ^ 63) }

    go : (here : Bool) → filter (λ (lock : HeldLock Area). not (here && is_lock same_area mine lock) && not (ends_session lock.owner.0 b back)) (if here then mine ∷ [] else []) ++ [] ≡ []
    go true = refl
    go false = refl

-- a line that grants nothing leaves none where there was none
none_later : (line : Line) (log : List Line) (b : ℕ) → granted_by_line b line ≡ [] → locks_held b log ≡ [] → locks_held b (line ∷ log) ≡ []
none_later line log b grants none = ap (λ (locks : List (HeldLock Area)). filter (outlives line b) locks ++ granted_by_line b line) none ∙ grants

healed_none : (b : ℕ) → locks_held b (ended_heal 0) ≡ []
healed_none b = none_later (HealEnd (record { 0 = 17 }) root Attrs healed.Failed) (given_back 0) b refl (none_now b)

ended_none : (b : ℕ) → locks_held b (ended 0) ≡ []
ended_none b = none_later (End (record { 0 = 17 }) (reply.Ok good.Done)) (ended_heal 0) b refl (healed_none b)

-- so the healer that gave the lock back holds none between its works, at every moment
pub a_heal_gives_its_lock_back : EveryPrefix AreUnlocked (ended 0)
a_heal_gives_its_lock_back = (
  λ a out. none_holds (ended 0) ended_none a,
  (λ a out. none_holds (ended_heal 0) healed_none a, (λ a out. none_holds (given_back 0) none_now a, (holds_within, λ a out. none_holds [] (λ b. refl) a))),
)

-- the other has a lock after its round
pub a_heal_leaves_a_lock_behind : AreUnlocked (ended 1) → ⊥
a_heal_leaves_a_lock_behind unlocked = unlocked 17 (λ at. cc at) 0 (record { owner = record { 0 = 17 }; domain = Heal; area = Range root 0 (2 ^ 63) }) (0, omega arith, refl) refl
