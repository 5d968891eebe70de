-- Names that are replaced after the objects that they name are made, and objects that go again.
use Rattle.std.proofs.Common.{◌≡◌, ℕ, Bool, suc, zero, true, false, List, [], ◌∷◌, Option, Some, None, drop, take, reverse, length, get_or, ◌<◌, refl, sym, ap, ◌⊎◌, inl, inr, ◌==◌, if◌then◌else◌, slice_get}
use Rattle.std.proofs.lemmas.Bool.Decides.{eqb_tells}
use Rattle.std.proofs.Math.Seq.{take-suc}
use Rattle.std.proofs.lemmas.List.{reverse-append}
use Rattle.std.proofs.lemmas.Map.Steps.{set_value_same}
use Rattle.std.specs.Prelude.{is_some}
use Rattle.std.specs.BTreeMap.{insert_entry, is_at}
use Rattle.std.specs.Map.{remove_entry}
use Rattle.afr_base.specs.declared.ids.Gfid.{Gfid}
use Rattle.afr_base.specs.declared.ids.NameId.{NameId}
use Rattle.afr_base.specs.declared.ids.What.{What}
use Rattle.afr_object.specs.Repairs.{all_made, renamed}
use Rattle.afr_object.specs.Tables.{Table, changed, copy_at, gfid_cmp, is_dir, made, new_object, with_copy, with_names}
use Rattle.afr_object.specs.declared.entry.Entry.{Entry}
use Rattle.afr_object.specs.Object.{Object}
use Rattle.afr_object.specs.TablesLemmas.{copy_at-with_copy, with_copy-insert_entry}
use Rattle.afr_brick.specs.Undone.{without}
use Rattle.afr_brick.proofs.Made.{still_there}

-- Of entries from one place on, the first is made last.
pub all_made_step : (names : List (NameId × Entry)) (k : ℕ) (x : NameId × Entry) (t : Table) → slice_get names k ≡ Some x → all_made (drop k names) t ≡ made x.1.gfid x.1.what (all_made (drop (suc k) names) t)
all_made_step [] k x t e = absurd (cc)
all_made_step (y ∷ names) zero x t e = let same : y ≡ x = cc in rw same refl
all_made_step (y ∷ names) (suc k) x t e = all_made_step names k x t e

-- An object that is made hides no other.
still_after_made : (q g : Gfid) (what : What) (o : Object) (t : Table) → copy_at g t ≡ Some o → copy_at g (made q what t) ≡ Some o
still_after_made q g what o t there = go (copy_at q t) refl
  where
    go : (c : Option Object) → copy_at q t ≡ c → copy_at g (if is_some c then t else insert_entry gfid_cmp t q (new_object what)) ≡ Some o
    go (Some w) e = there
    go None e = still_there q g (new_object what) o t there e

-- A copy may be replaced before or after another object is made.
made-with_copy : (q g : Gfid) (what : What) (o w : Object) (t : Table) → copy_at g t ≡ Some o → made q what (with_copy g w t) ≡ with_copy g w (made q what t)
made-with_copy q g what o w t there = rw (copy_at-with_copy g q w o t there) (go (eqb_tells g.0 q.0))
  where
    go : ((g.0 == q.0) ≡ true) × (g.0 ≡ q.0) ⊎ ((g.0 == q.0) ≡ false) × (g.0 ≡ q.0 → ⊥)
        → (if is_some (if g.0 == q.0 then Some w else copy_at q t) then with_copy g w t else insert_entry gfid_cmp (with_copy g w t) q (new_object what)) ≡ with_copy g w (if is_some (copy_at q t) then t else insert_entry gfid_cmp t q (new_object what))
    go (inl s) = let same : g ≡ q = ap (λ (n : ℕ). record { 0 = n }) s.1 in rw (s.0, ← same, there) refl
    go (inr s) = rw s.0 (pick (copy_at q t))
      where
        pick : (c : Option Object) → (if is_some c then with_copy g w t else insert_entry gfid_cmp (with_copy g w t) q (new_object what)) ≡ with_copy g w (if is_some c then t else insert_entry gfid_cmp t q (new_object what))
        pick (Some v) = refl
        pick None = sym (with_copy-insert_entry q g (new_object what) w t (λ e. s.1 (sym e)))

-- Objects that are made hide no other.
still_after_all : (names : List (NameId × Entry)) (g : Gfid) (o : Object) (t : Table) → copy_at g t ≡ Some o → copy_at g (all_made names t) ≡ Some o
still_after_all [] g o t there = there
still_after_all (x ∷ names) g o t there = still_after_made x.1.gfid g x.1.what o (all_made names t) (still_after_all names g o t there)

-- A copy may be replaced before or after other objects are made.
all_made-with_copy : (names : List (NameId × Entry)) (g : Gfid) (o w : Object) (t : Table) → copy_at g t ≡ Some o → all_made names (with_copy g w t) ≡ with_copy g w (all_made names t)
all_made-with_copy [] g o w t there = refl
all_made-with_copy (x ∷ names) g o w t there =
    rw (all_made-with_copy names g o w t there) (made-with_copy x.1.gfid g x.1.what o w (all_made names t) (still_after_all names g o t there))

-- The names may be replaced after the objects that they name are made.
pub renamed_last : (names : List (NameId × Entry)) (g : Gfid) (o : Object) (t : Table) → copy_at g t ≡ Some o
    → changed (with_names (λ old. names)) g (copy_at g (all_made names t)) (all_made names t) ≡ renamed names g (copy_at g t) t
renamed_last names g o t there = rw (still_after_all names g o t there, there) (sym (all_made-with_copy names g o (with_names (λ old. names) o) t there))

-- A directory that has the names stays as it is.
names_stay : (names : List (NameId × Entry)) (o : Object) → o.names ≡ names → with_names (λ old. names) o ≡ o
names_stay names o same = go (is_dir o.what)
  where
    go : (b : Bool) → (if b then record o { names = names } else o) ≡ o
    go true = ap (λ (n : List (NameId × Entry)). record o { names = n }) (sym same)
    go false = refl

-- Where a directory has the names, the objects that they name are made, and no more.
pub renamed_same : (names : List (NameId × Entry)) (g : Gfid) (o : Object) (t : Table) → copy_at g t ≡ Some o → o.names ≡ names → all_made names t ≡ renamed names g (copy_at g t) t
renamed_same names g o t there same =
    let stays : with_copy g o t ≡ t = set_value_same (is_at (gfid_cmp g)) t o there in
    rw (there, names_stay names o same, stays) refl

-- Of objects that go again, the newest goes first.
pub without_newest : (gfids : List Gfid) (k : ℕ) (d : Gfid) (t : Table) → k < length gfids
    → without (reverse (take (suc k) gfids)) t ≡ without (reverse (take k gfids)) (remove_entry (is_at (gfid_cmp (get_or gfids k d))) t)
without_newest gfids k d t small = rw (take-suc gfids k d small, reverse-append (take k gfids) (get_or gfids k d ∷ [])) refl
