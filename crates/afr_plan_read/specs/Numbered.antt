-- The numbers of a path whose names are there.
use Rattle.std.specs.Prelude.{◌≡◌, ℕ, List}
use Rattle.afr_base.specs.declared.ids.NameId.{NameId}
use Rattle.afr_plan.specs.Names.{with_names}
use Rattle.afr_plan.specs.PlanOf.{path_of}

-- a path has no new name, and these are the numbers of its names
pub record IsNumbered (names path : List (List ℕ)) (ids : List NameId) : Type 0 where
  pub known : with_names names path ≡ names
  pub numbers : path_of names path ≡ ids
