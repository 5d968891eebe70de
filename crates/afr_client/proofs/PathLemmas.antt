-- A path that has a name, by the test of its command.
use Rattle.std.proofs.Common.{◌≡◌, ℕ, ◌<◌, nat_lt, true, List, [], ◌∷◌, ◌++◌, length, arith}
use Rattle.std.proofs.lemmas.Bool.Decides.{nat_tests}
use Rattle.afr_base.specs.declared.ids.NameId.{NameId}
use Rattle.afr_client_entry.specs.Renames.Paths.{front, last}
use Rattle.afr_client_entry.proofs.Renames.PathLemmas.{front_last}
use Rattle.afr_plan.specs.OnNames.{has_name}

pub some_names : (n : ℕ) → nat_lt 0 n ≡ true → 0 < n
some_names n h = grind (arith, nat_tests, h)

pub path_is : (path : List NameId) → has_name path ≡ true → front path ++ last path ∷ [] ≡ path
path_is path h = front_last path (some_names (length path) h)
