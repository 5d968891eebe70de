-- What the reader keeps of the faults before: the brick and the request of each.
use Rattle.std.specs.Prelude.{◌≡◌, ℕ, List, [], ◌∷◌, ◌++◌, Bool, false, ◌&&◌, ◌==◌}
use Rattle.std.specs.List.{list_any}
use Rattle.afr_plan.specs.Rules.{is_fault_of}
use Rattle.afr_plan.specs.Said.{Said, Faulty}
use Rattle.afr_plan_read.specs.declared.order.FaultPlace.{FaultPlace}

-- a brick and a request to it
abbrev pub place_at : ℕ → ℕ → FaultPlace
place_at brick at = record { brick = brick; at = at }

-- a place is this brick's and this request's
abbrev pub is_place : ℕ → ℕ → FaultPlace → Bool
is_place brick at place = brick == place.brick && at == place.at

-- the places are those of the faults in the lines
abbrev pub ArePlaces : List Said → List FaultPlace → Type 0
ArePlaces before places = (brick at : ℕ) → list_any (is_place brick at) places ≡ list_any (is_fault_of brick at) before

-- the line's fault, if it has one, stands at no place so far
abbrev pub IsNewPlace : Said → List FaultPlace → Type 0
IsNewPlace (Faulty brick at fault) places = list_any (is_place brick at) places ≡ false
IsNewPlace s places = Unit {0}

-- the places with the line's fault, if it has one
abbrev pub with_place : Said → List FaultPlace → List FaultPlace
with_place (Faulty brick at fault) places = places ++ place_at brick at ∷ []
with_place s places = places
