-- Held locks as their map keeps them, each under a key that ends in the number of its grant, and the list that they stand for.
use Rattle.std.specs.Prelude.{◌≡◌, ℕ, zero, suc, ◌<◌, ◌^◌, ◌==◌, ◌++◌, nat_lt, Bool, false, List, [], ◌∷◌, Option, Some, None, if◌then◌else◌}
use Rattle.std.specs.BTreeMap.Range.{entries_between}
use Rattle.std.specs.List.{AllByRecursion}
use Rattle.std.specs.Ordering.{nat_cmp, ordering_then}
use Rattle.std.specs.declared.cmp.Ordering.{Ordering}
use Rattle.std.specs.declared.ops.Bound.TheVariants.{Included, Excluded}
use Rattle.afr_base.specs.declared.ids.ActorId.{ActorId}
use Rattle.afr_base.specs.declared.ids.Gfid.{Gfid}
use Rattle.afr_lines.specs.Locks.{AreApart, conflicts, is_lock}
use Rattle.afr_lines.specs.declared.lock.Domain.{Domain}
use Rattle.afr_lines.specs.declared.lock.Domain.TheVariants.{Work, Heal}
use Rattle.afr_lines.specs.declared.lock.HeldLock.{HeldLock}
use Rattle.afr_range_locks.specs.declared.lockable.Place.{Place}
use Rattle.afr_range_locks.specs.declared.lockable.Span.{Span}
use Rattle.afr_range_locks.specs.declared.table.Conflict.{Conflict}
use Rattle.afr_range_locks.specs.declared.table.Key.{Key}

-- the order of keys: by domain, object, start and grant
abbrev pub key_cmp : Key → Key → Ordering
key_cmp a b = ordering_then (nat_cmp a.domain b.domain) (ordering_then (nat_cmp a.gfid.0 b.gfid.0) (ordering_then (nat_cmp a.start b.start) (nat_cmp a.grant b.grant)))

-- a domain as a number
abbrev pub domain_number : Domain → ℕ
domain_number Work = 0
domain_number Heal = 1

-- the key of what is locked in a domain at a place under a grant number
abbrev pub key_of : Domain → Place → ℕ → Key
key_of domain place grant = record { domain = domain_number domain; gfid = place.gfid; start = place.start; grant = grant }

-- the locks that were granted under a number
abbrev pub granted_at : {A : Type 0} → ℕ → List (Key × HeldLock A) → List (HeldLock A)
granted_at n [] = []
granted_at n (e ∷ entries) = if e.0.grant == n then e.1 ∷ granted_at n entries else granted_at n entries

-- the locks whose grant numbers are below n, the one that was granted first at the front
abbrev pub granted : {A : Type 0} → ℕ → List (Key × HeldLock A) → List (HeldLock A)
granted zero entries = []
granted (suc n) entries = granted n entries ++ granted_at n entries

-- the conflict that was granted first
abbrev pub earlier : Option Conflict → Option Conflict → Option Conflict
earlier None other = other
earlier (Some one) None = Some one
earlier (Some one) (Some other) = if nat_lt other.grant one.grant then Some other else Some one

-- an entry as a conflict
abbrev pub conflict_of : {A : Type 0} → Key × HeldLock A → Conflict
conflict_of e = record { grant = e.0.grant; owner = e.1.owner }

-- the same, if its lock is in the way
abbrev pub conflict_at : {A : Type 0} → (A → A → Bool) → HeldLock A → Key × HeldLock A → Option Conflict
conflict_at overlap wanted e = if conflicts overlap wanted e.1 then Some (conflict_of e) else None

-- the conflict among the entries that was granted first
abbrev pub first_granted : {A : Type 0} → (A → A → Bool) → HeldLock A → List (Key × HeldLock A) → Option Conflict
first_granted overlap wanted [] = None
first_granted overlap wanted (e ∷ entries) = earlier (conflict_at overlap wanted e) (first_granted overlap wanted entries)

-- the owner of a conflict
abbrev pub owner_of : Option Conflict → Option ActorId
owner_of None = None
owner_of (Some conflict) = Some conflict.owner

-- the entries of a domain and an object that start in a span
abbrev pub in_span : {A : Type 0} → Domain → Gfid → Span → ℕ → List (Key × HeldLock A) → List (Key × HeldLock A)
in_span domain g span next entries =
    entries_between key_cmp (Included (key_of domain (record { gfid = g; start = span.from }) 0)) (Excluded (key_of domain (record { gfid = g; start = span.to }) next)) entries

-- the same of a span that there may be
abbrev pub in_second : {A : Type 0} → Domain → Gfid → Option Span → ℕ → List (Key × HeldLock A) → List (Key × HeldLock A)
in_second domain g None next entries = []
in_second domain g (Some span) next entries = in_span domain g span next entries

-- the entries at a place with grant numbers from one up to, without, another
abbrev pub at_place : {A : Type 0} → Domain → Place → ℕ → ℕ → List (Key × HeldLock A) → List (Key × HeldLock A)
at_place domain place from next entries = entries_between key_cmp (Included (key_of domain place from)) (Excluded (key_of domain place next)) entries

-- the key of the first entry with an equal lock
abbrev pub first_equal : {A : Type 0} → (A → A → Bool) → HeldLock A → List (Key × HeldLock A) → Option Key
first_equal same one [] = None
first_equal same one (e ∷ entries) = if is_lock same one e.1 then Some e.0 else first_equal same one entries

-- an entry stands under its lock's key, with a number below the next grant's
pub record IsFiled {A : Type 0} (at : A → Place) (next : ℕ) (e : Key × HeldLock A) : Type 0 where
  pub key : e.0 ≡ key_of e.1.domain (at e.1.area) e.0.grant
  pub grant : e.0.grant < next
  pub start : e.0.start < 2 ^ 64

-- no entry has this grant number
abbrev pub IsFresh : {A : Type 0} → ℕ → List (Key × HeldLock A) → Type 0
IsFresh n entries = AllByRecursion (λ e. (n == e.0.grant) ≡ false) entries

-- no two entries have the same grant number
abbrev pub AreFresh : {A : Type 0} → List (Key × HeldLock A) → Type 0
AreFresh [] = Unit {0}
AreFresh (e ∷ entries) = IsFresh e.0.grant entries × AreFresh entries

-- what a table of held locks keeps
pub record IsTable {A : Type 0} (overlap : A → A → Bool) (at : A → Place) (next : ℕ) (entries : List (Key × HeldLock A)) : Type 0 where
  pub filed : AllByRecursion (IsFiled at next) entries
  pub fresh : AreFresh entries
  pub apart : AreApart overlap (granted next entries)
