-- What a look-up in a brick's tables finds after each step, in lemmas that the proofs of other crates can cite.
use Rattle.std.proofs.Common.{◌≡◌, ℕ, Bool, true, false, cond, [], ◌∷◌, Option, Some, None, refl, ap, ◌⊎◌, inl, inr, arith, ◌==◌, if◌then◌else◌}
use Rattle.std.proofs.lemmas.Bool.Decides.{eqb_tells, nat_tests}
use Rattle.std.specs.Prelude.{is_some}
use Rattle.std.specs.Option.{option_map}
use Rattle.std.specs.BTreeMap.{is_at, insert_entry}
use Rattle.std.specs.Map.{set_value, remove_entry}
use Rattle.afr_base.specs.declared.ids.Gfid.{Gfid}
use Rattle.afr_base.specs.declared.ids.What.{What}
use Rattle.afr_object.specs.Tables.{Table, changed, copy_at, gfid_cmp, made, new_object, with_copy}
use Rattle.afr_object.specs.Object.{Object}

-- A look-up for a gfid passes exactly the keys with its number.
pub same_gfid : (g k : Gfid) → is_at (gfid_cmp g) k ≡ (g.0 == k.0)
same_gfid g k = grind (arith, nat_tests)

-- After a copy was replaced, its gfid finds the new copy, and each other gfid what it found before.
pub copy_at-with_copy : (g q : Gfid) (o w : Object) (t : Table) → copy_at g t ≡ Some w → copy_at q (with_copy g o t) ≡ (if g.0 == q.0 then Some o else copy_at q t)
copy_at-with_copy g q o w [] h = absurd (cc)
copy_at-with_copy g q o w (e ∷ t) h = rw (same_gfid g e.0) (step (eqb_tells g.0 e.0.0) (λ h. copy_at-with_copy g q o w t h))
  where
    step : ((g.0 == e.0.0) ≡ true) × (g.0 ≡ e.0.0) ⊎ ((g.0 == e.0.0) ≡ false) × (g.0 ≡ e.0.0 → ⊥) → (copy_at g t ≡ Some w → copy_at q (set_value (is_at (gfid_cmp g)) t o) ≡ (if g.0 == q.0 then Some o else copy_at q t))
        → copy_at q (cond (g.0 == e.0.0) ((e.0, o) ∷ t) (e ∷ set_value (is_at (gfid_cmp g)) t o)) ≡ (if g.0 == q.0 then Some o else copy_at q (e ∷ t))
    step (inl s) more = rw (s.0, same_gfid q e.0) (grind (arith, nat_tests, s.1))
    step (inr s) more =
        let inside : copy_at g t ≡ Some w = rw (same_gfid g e.0, s.0) at h in
        let m = more inside in
        rw (s.0, same_gfid q e.0) (grind (arith, nat_tests, m, s.1))

-- After an object was put into the tables, its gfid finds it, and each other gfid what it found before.
pub copy_at-insert_entry : (g q : Gfid) (o : Object) (t : Table) → copy_at q (insert_entry gfid_cmp t g o) ≡ (if g.0 == q.0 then Some o else copy_at q t)
copy_at-insert_entry g q o [] = rw (same_gfid q g) (grind (arith, nat_tests))
copy_at-insert_entry g q o (e ∷ t) = grind (arith, nat_tests, same_gfid q g, same_gfid q e.0, copy_at-insert_entry g q o t)

-- After a copy was changed, its gfid finds the changed copy, if there is one, and each other gfid what it found before.
pub copy_at-changed : (f : Object → Object) (g q : Gfid) (t : Table) → copy_at q (changed f g (copy_at g t) t) ≡ (if g.0 == q.0 then option_map f (copy_at g t) else copy_at q t)
copy_at-changed f g q t = by_copy (copy_at g t) refl
  where
    by_copy : (o : Option Object) → copy_at g t ≡ o → copy_at q (changed f g o t) ≡ (if g.0 == q.0 then option_map f o else copy_at q t)
    by_copy None e = absent (eqb_tells g.0 q.0)
      where
        absent : ((g.0 == q.0) ≡ true) × (g.0 ≡ q.0) ⊎ ((g.0 == q.0) ≡ false) × (g.0 ≡ q.0 → ⊥) → copy_at q t ≡ (if g.0 == q.0 then None else copy_at q t)
        absent (inl s) = let same : g ≡ q = ap (λ (n : ℕ). record { 0 = n }) s.1 in rw (s.0, ← same) e
        absent (inr s) = rw s.0 refl
    by_copy (Some o) e = copy_at-with_copy g q (f o) o t e

-- An object that was put into tables without it, and is taken out, leaves them as they were.
pub remove_entry-insert_entry : (g : Gfid) (o : Object) (t : Table) → copy_at g t ≡ None → remove_entry (is_at (gfid_cmp g)) (insert_entry gfid_cmp t g o) ≡ t
remove_entry-insert_entry g o [] h = rw (same_gfid g g) (grind (arith, nat_tests))
remove_entry-insert_entry g o (e ∷ t) h = step (eqb_tells g.0 e.0.0) (λ h. remove_entry-insert_entry g o t h)
  where
    step : ((g.0 == e.0.0) ≡ true) × (g.0 ≡ e.0.0) ⊎ ((g.0 == e.0.0) ≡ false) × (g.0 ≡ e.0.0 → ⊥) → (copy_at g t ≡ None → remove_entry (is_at (gfid_cmp g)) (insert_entry gfid_cmp t g o) ≡ t)
        → remove_entry (is_at (gfid_cmp g)) (insert_entry gfid_cmp (e ∷ t) g o) ≡ e ∷ t
    step (inl s) more = let there = rw (same_gfid g e.0, s.0) at h in absurd (cc)
    step (inr s) more =
        let inside : copy_at g t ≡ None = rw (same_gfid g e.0, s.0) at h in
        let m = more inside in
        grind (arith, nat_tests, same_gfid g g, same_gfid g e.0, m, s.0, s.1)

-- A copy may be replaced before or after another object is put in.
pub with_copy-insert_entry : (g dir : Gfid) (o w : Object) (t : Table) → (g.0 ≡ dir.0 → ⊥) → with_copy dir w (insert_entry gfid_cmp t g o) ≡ insert_entry gfid_cmp (with_copy dir w t) g o
with_copy-insert_entry g dir o w [] n = grind (arith, nat_tests, same_gfid dir g, n)
with_copy-insert_entry g dir o w (e ∷ t) n = grind (arith, nat_tests, same_gfid dir g, same_gfid dir e.0, n, with_copy-insert_entry g dir o w t n)

-- After an object was made where the brick lacked it, its gfid finds it, and each other gfid what it found before.
pub copy_at-made : (g q : Gfid) (what : What) (t : Table) → copy_at q (made g what t) ≡ (if is_some (copy_at g t) then copy_at q t else if g.0 == q.0 then Some (new_object what) else copy_at q t)
copy_at-made g q what t = by_test (is_some (copy_at g t))
  where
    by_test : (b : Bool) → copy_at q (if b then t else insert_entry gfid_cmp t g (new_object what)) ≡ (if b then copy_at q t else if g.0 == q.0 then Some (new_object what) else copy_at q t)
    by_test true = refl
    by_test false = copy_at-insert_entry g q (new_object what) t
