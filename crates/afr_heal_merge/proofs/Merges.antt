-- One name more in a merge.
use Rattle.std.proofs.Common.{◌≡◌, ℕ, zero, suc, List, [], ◌∷◌, drop, refl, Some, slice_get}
use Rattle.std.specs.BTreeMap.{is_at, insert_entry}
use Rattle.std.specs.Map.{lookup}
use Rattle.afr_base.specs.declared.ids.NameId.{NameId}
use Rattle.afr_object.specs.Repairs.{higher, merged_into}
use Rattle.afr_object.specs.Tables.{name_cmp}
use Rattle.afr_object.specs.declared.entry.Entry.{Entry}

pub one_name : (old names : List (NameId × Entry)) (k : ℕ) (x : NameId × Entry) → slice_get names k ≡ Some x
    → merged_into old (drop k names) ≡ insert_entry name_cmp (merged_into old (drop (suc k) names)) x.0 (higher x.1 (lookup (is_at (name_cmp x.0)) (merged_into old (drop (suc k) names))))
one_name old [] k x e = absurd (cc)
one_name old (y ∷ names) zero x e = let same : y ≡ x = cc in rw same refl
one_name old (y ∷ names) (suc k) x e = one_name old names k x e
