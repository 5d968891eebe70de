-- The attempts on an object, and what they say of a value in one of its cells.
use Rattle.std.specs.Prelude.{ℕ, zero, suc, ◌+◌, ◌==◌, Bool, true, false, List, [], ◌∷◌, ◌++◌, Option, Some, None, length, if◌then◌else◌}
use Rattle.afr_base.specs.declared.ids.Gfid.{Gfid}
use Rattle.afr_object.specs.Tables.{object_of}
use Rattle.afr_object.specs.declared.change.Change.{Change}
use Rattle.afr_object.specs.declared.change.Change.TheVariants.{Write}
use Rattle.afr_lines.specs.Log.{change_at}
use Rattle.afr_lines.specs.declared.line.Line.{Line}
use Rattle.afr_model.specs.Cells.{Cell, Value, leaves, touches}
use Rattle.afr_trace_safe.specs.Acknowledged.{is_acknowledged}
use Rattle.afr_trace_safe.specs.Same.{same_value}
use Rattle.afr_trace_safe.specs.declared.attempts.Attempt.{Attempt}

-- a change of the object
abbrev pub is_on : Gfid → Option Change → Bool
is_on g None = false
is_on g (Some change) = (object_of change).0 == g.0

-- the attempt at position k
abbrev pub attempt_by : List Line → ℕ → Attempt
attempt_by log k = record { position = k; acknowledged = is_acknowledged log k }

-- the same, where it is on the object
abbrev pub attempt_at : List Line → Gfid → ℕ → List Attempt
attempt_at log g k = if is_on g (change_at k log) then attempt_by log k ∷ [] else []

-- the attempts on the object at positions below n, the newest first
abbrev pub attempts_on : List Line → Gfid → ℕ → List Attempt
attempts_on log g zero = []
attempts_on log g (suc k) = attempt_at log g k ++ attempts_on log g k

-- what an attempt says of a value, be the older ones as they are: one that left it makes it stand, an acknowledged one that left another doesn't
abbrev pub verdict : Option Change → Bool → Cell → Value → Option Bool
verdict None acknowledged cell value = None
verdict (Some change) acknowledged cell value = if touches change cell then (if same_value value (leaves change cell) then Some true else (if acknowledged then Some false else None)) else None

-- what older attempts say, where this one says nothing
abbrev pub or_older : Option Bool → Bool → Bool
or_older None older = older
or_older (Some answer) older = answer

-- whether a value stands by some attempts, the newest first: the first that says something decides, or whether it is the opening value
abbrev pub stands : List Line → Cell → Value → Bool → List Attempt → Bool
stands log cell value opening [] = opening
stands log cell value opening (x ∷ more) = or_older (verdict (change_at x.position log) x.acknowledged cell value) (stands log cell value opening more)

-- how far a write goes
abbrev pub end_of : Option Change → ℕ
end_of (Some (Write g at bytes)) = at + length bytes
end_of other = 0
