-- Where writes end.
use Rattle.std.specs.Prelude.{◌+◌, ◌^◌, ◌≤◌, length}
use Rattle.afr_object.specs.declared.change.Change.{Change}
use Rattle.afr_object.specs.declared.change.Change.TheVariants.{Write}

-- a write ends where ranges end
abbrev pub EndsInTime : Change → Type 0
EndsInTime (Write g at bytes) = at + length bytes ≤ 2 ^ 63
EndsInTime change = Unit {0}
