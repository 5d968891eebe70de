-- Which starts a search for conflicts reaches.
use Rattle.std.specs.Prelude.{ℕ, ◌≤◌, ◌&&◌, ◌||◌, nat_le, Bool, false, Option, Some, None}
use Rattle.afr_range_locks.specs.declared.lockable.Reach.{Reach}
use Rattle.afr_range_locks.specs.declared.lockable.Span.{Span}

-- a start is in a span
abbrev pub is_in : Span → ℕ → Bool
is_in span start = nat_le span.from start && nat_le start span.to

-- a start is in a span that there is
abbrev pub is_in_some : Option Span → ℕ → Bool
is_in_some None start = false
is_in_some (Some span) start = is_in span start

-- a start is in one of the spans
abbrev pub reaches : Reach → ℕ → Bool
reaches reach start = is_in reach.first start || is_in_some reach.second start

-- a span, if there is one, begins at or before its end
abbrev pub IsForwardSpan : Option Span → Type 0
IsForwardSpan None = Unit {0}
IsForwardSpan (Some span) = span.from ≤ span.to

-- each span begins at or before its end
pub record IsForward (reach : Reach) : Type 0 where
  pub first : reach.first.from ≤ reach.first.to
  pub second : IsForwardSpan reach.second
