-- A path with a name is the names before its last one, and that one.
use Rattle.std.proofs.Common.{◌≡◌, ℕ, ◌<◌, ◌-◌, List, [], ◌∷◌, ◌++◌, length, take, arith, sym, ◌∙◌, ap}
use Rattle.std.proofs.Math.Seq.{take-length}
use Rattle.std.proofs.lemmas.List.{take_more}
use Rattle.afr_base.specs.declared.ids.NameId.{NameId}
use Rattle.afr_client_entry.specs.Renames.Paths.{front, last}

pub front_last : (path : List NameId) → 0 < length path → front path ++ last path ∷ [] ≡ path
front_last path some = sym (take_more path (length path - 1) (record { 0 = 0 }) (omega (arith, some))) ∙ ap (λ (n : ℕ). take n path) (omega (arith, some)) ∙ take-length path
