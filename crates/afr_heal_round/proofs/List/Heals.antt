-- The heals of a list, two of each object.
use Rattle.std.proofs.Common.{◌≡◌, ℕ, zero, suc, Bool, true, false, List, [], ◌∷◌, refl, arith, Option, Some, None, slice_get}
use Rattle.afr_base.specs.declared.ids.Gfid.{Gfid}
use Rattle.afr_base.specs.declared.ids.Kind.{Kind}
use Rattle.afr_base.specs.declared.ids.What.{What}
use Rattle.afr_model.specs.Rounds.{heals_of}
use Rattle.afr_heal_round.specs.List.Round.{given, heals_in, kind_at, listed_at}

-- the heal of a listed object: its attributes, or what comes after them
abbrev pub heal_of : Bool → Option (Gfid × What) → Option (Gfid × Kind)
heal_of within None = None
heal_of within (Some x) = Some (x.0, kind_at within x.1)

two_more : (at : ℕ) (within : Bool) → given (suc at) within ≡ suc (suc (given at within))
two_more at within = omega (arith)

-- the heal of the object at a place, where there is one
of_list : (list : List (Gfid × What)) (at : ℕ) (within : Bool) → slice_get (heals_of list) (given at within) ≡ heal_of within (slice_get list at)
of_list [] at within = refl
of_list (y ∷ list) zero true = refl
of_list (y ∷ list) zero false = refl
of_list (y ∷ list) (suc at) within = rw (two_more at within) (of_list list at within)

pub heal_here : (list : Option (List (Gfid × What))) (at : ℕ) (within : Bool) → slice_get (heals_in list) (given at within) ≡ heal_of within (listed_at at list)
heal_here None at within = refl
heal_here (Some list) at within = of_list list at within
