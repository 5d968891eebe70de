-- The requests to a brick so far, and the faults that are planned for some of them.
use Rattle.std.specs.Prelude.{◌≡◌, ℕ, ◌+◌, List, Option, Some}
use Rattle.std.specs.Ordering.{nat_cmp}
use Rattle.std.specs.BTreeMap.{is_at}
use Rattle.std.specs.Map.{lookup}
use Rattle.std.proofs.Common.{◌≢◌}
use Rattle.afr_lines.specs.declared.fault.Fault.{Fault}

-- how many requests came, and the planned faults in the order of their counts
pub record Planned : Type 0 where
  pub requests : ℕ
  pub faults : List (ℕ × Fault)

-- the fault that is planned for the request of this count, where the first request has count 1
abbrev pub fault_at : ℕ → Planned → Option Fault
fault_at count p = lookup (is_at (nat_cmp count)) p.faults

-- the fault of the next request
abbrev pub next_fault : Planned → Option Fault
next_fault p = fault_at (p.requests + 1) p

-- the request of this count has this fault now, every other one has what it had, and as many requests came as before
pub record Plans (old new : Planned) (count : ℕ) (fault : Fault) : Type 0 where
  pub here : fault_at count new ≡ Some fault
  pub others : (other : ℕ) → other ≢ count → fault_at other new ≡ fault_at other old
  pub requests : new.requests ≡ old.requests
