-- Locks: which conflict, and what a request leaves of those that are held.
use Rattle.std.specs.Prelude.{◌≡◌, ℕ, ◌<◌, ◌≤◌, ◌==◌, ◌&&◌, not, nat_lt, Bool, true, false, List, [], ◌∷◌, Option, Some, None, filter, if◌then◌else◌}
use Rattle.std.specs.List.{AllPairs}
use Rattle.afr_base.specs.declared.ids.ActorId.{ActorId}
use Rattle.afr_base.specs.declared.ids.NameId.{NameId}
use Rattle.afr_lines.specs.declared.lock.Domain.{Domain}
use Rattle.afr_lines.specs.declared.lock.Domain.TheVariants.{Work, Heal}
use Rattle.afr_lines.specs.declared.lock.HeldLock.{HeldLock}

-- two domains are the same
abbrev pub same_domain : Domain → Domain → Bool
same_domain Work Work = true
same_domain Heal Heal = true
same_domain one other = false

-- the range from one number up to another shares a number with the range from start up to end: each begins before the other ends, and has one
abbrev pub share_number : ℕ → ℕ → ℕ → ℕ → Bool
share_number from to start end = nat_lt from end && nat_lt start to && nat_lt from to && nat_lt start end

-- a number is in the range from one number up to another, and in the range from start up to end
abbrev pub IsInBoth : ℕ → ℕ → ℕ → ℕ → Type 0
IsInBoth from to start end = (n : ℕ) × (from ≤ n) × (n < to) × (start ≤ n) × (n < end)

-- two names are the same; none stands for the whole directory
abbrev pub same_name : Option NameId → Option NameId → Bool
same_name None None = true
same_name (Some n) (Some m) = n.0 == m.0
same_name one other = false

-- two owners can't lock both names of a directory at a time: the names are equal, or one is the whole directory
abbrev pub share_name : Option NameId → Option NameId → Bool
share_name None other = true
share_name (Some n) None = true
share_name (Some n) (Some m) = n.0 == m.0

-- a held lock is in the way of a wanted one: another owner has it, in the same domain, and what they cover overlaps
abbrev pub conflicts : {A : Type 0} → (A → A → Bool) → HeldLock A → HeldLock A → Bool
conflicts overlap wanted lock = not (lock.owner.0 == wanted.owner.0) && same_domain wanted.domain lock.domain && overlap wanted.area lock.area

-- the owner of the first lock that is in the way
abbrev pub first_conflict : {A : Type 0} → (A → A → Bool) → HeldLock A → List (HeldLock A) → Option ActorId
first_conflict overlap wanted [] = None
first_conflict overlap wanted (lock ∷ more) = if conflicts overlap wanted lock then Some lock.owner else first_conflict overlap wanted more

-- no lock is in the way of one that was granted after it
abbrev pub AreApart : {A : Type 0} → (A → A → Bool) → List (HeldLock A) → Type 0
AreApart overlap locks = AllPairs (λ earlier later. conflicts overlap later earlier ≡ false) locks

-- two locks have the same owner and domain, and cover the same
abbrev pub is_lock : {A : Type 0} → (A → A → Bool) → HeldLock A → HeldLock A → Bool
is_lock same one lock = (one.owner.0 == lock.owner.0) && same_domain one.domain lock.domain && same one.area lock.area

-- the locks that are left when one is released, as often as it was granted
abbrev pub unlocked : {A : Type 0} → (A → A → Bool) → HeldLock A → List (HeldLock A) → List (HeldLock A)
unlocked same one locks = filter (λ lock. not (is_lock same one lock)) locks

-- the locks of all other owners
abbrev pub without_owner : {A : Type 0} → ActorId → List (HeldLock A) → List (HeldLock A)
without_owner owner locks = filter (λ lock. not (lock.owner.0 == owner.0)) locks
