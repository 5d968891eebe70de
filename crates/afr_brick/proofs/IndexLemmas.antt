-- What each step on the tables makes of their index.
use Rattle.std.proofs.Common.{◌≡◌, ℕ, Bool, true, false, cond, [], ◌∷◌, Option, Some, None, refl, ap, ◌⊎◌, inl, inr, arith, ◌==◌, if◌then◌else◌}
use Rattle.std.proofs.lemmas.Bool.Decides.{eqb_tells, nat_tests}
use Rattle.std.specs.Prelude.{is_some}
use Rattle.std.specs.BTreeMap.{is_at, insert_entry}
use Rattle.std.specs.List.{AllByRecursion}
use Rattle.std.specs.List.Sorted.{IsStrictlySortedBy}
use Rattle.std.specs.Map.{keys_of, remove_entry}
use Rattle.std.specs.declared.cmp.Ordering.TheVariants.{Less, Equal, Greater}
use Rattle.afr_base.specs.Marks.{is_no_marks}
use Rattle.afr_base.specs.declared.ids.Gfid.{Gfid}
use Rattle.afr_base.specs.declared.ids.What.{What}
use Rattle.afr_index.specs.Listed.{Listed}
use Rattle.afr_object.specs.Indexed.{index_of}
use Rattle.afr_object.specs.Tables.{Table, changed, copy_at, gfid_cmp, made, new_object, with_copy}
use Rattle.afr_object.specs.Object.{Object}
use Rattle.afr_brick.specs.Followed.{relisted}
use Rattle.afr_object.specs.TablesLemmas.{same_gfid}

-- what a table's index has of an object
abbrev listed_first : Gfid → Object → Listed → Listed
listed_first g o rest = if is_no_marks o.marks then rest else (g, o.what) ∷ rest

-- A copy that keeps its kind, and has a number above 0 or has none as before, is listed as before.
pub index_of-with_copy : (g : Gfid) (o w : Object) (t : Table) → copy_at g t ≡ Some w → is_no_marks o.marks ≡ is_no_marks w.marks → o.what ≡ w.what → index_of (with_copy g o t) ≡ index_of t
index_of-with_copy g o w [] h m k = refl
index_of-with_copy g o w (e ∷ t) h m k = by_key (is_at (gfid_cmp g) e.0) h (λ h. index_of-with_copy g o w t h m k)
  where
    by_key : (b : Bool) → cond b (Some e.1) (copy_at g t) ≡ Some w → (copy_at g t ≡ Some w → index_of (with_copy g o t) ≡ index_of t) → index_of (cond b ((e.0, o) ∷ t) (e ∷ with_copy g o t)) ≡ index_of (e ∷ t)
    by_key true h more =
        let same : e.1 ≡ w = cc in
        rw (m, k, same) refl
    by_key false h more = ap (listed_first e.0 e.1) (more h)

-- An object that is put in with no number above 0 isn't listed.
index_of-insert_entry : (g : Gfid) (what : What) (t : Table) → copy_at g t ≡ None → index_of (insert_entry gfid_cmp t g (new_object what)) ≡ index_of t
index_of-insert_entry g what [] h = refl
index_of-insert_entry g what (e ∷ t) h = grind (arith, nat_tests, same_gfid g e.0, index_of-insert_entry g what t)

-- The objects that a step makes aren't listed.
pub index_of-made : (g : Gfid) (what : What) (t : Table) → index_of (made g what t) ≡ index_of t
index_of-made g what t = by_copy (copy_at g t) refl
  where
    by_copy : (o : Option Object) → copy_at g t ≡ o → index_of (if is_some o then t else insert_entry gfid_cmp t g (new_object what)) ≡ index_of t
    by_copy (Some o) e = refl
    by_copy None e = index_of-insert_entry g what t e

-- A copy that a change leaves with its kind and its numbers is listed as before.
pub index_of-changed : (f : Object → Object) (g : Gfid) (t : Table) → ((o : Object) → (f o).marks ≡ o.marks) → ((o : Object) → (f o).what ≡ o.what) → index_of (changed f g (copy_at g t) t) ≡ index_of t
index_of-changed f g t m k = by_copy (copy_at g t) refl
  where
    by_copy : (o : Option Object) → copy_at g t ≡ o → index_of (changed f g o t) ≡ index_of t
    by_copy None e = refl
    by_copy (Some o) e = index_of-with_copy g (f o) o t e (ap is_no_marks (m o)) (k o)

-- An object below all of a table stands before those that its index lists.
insert_below : (g : Gfid) (what : What) (t : Table) → AllByRecursion (λ y. gfid_cmp g y ≡ Less) (keys_of t) → insert_entry gfid_cmp (index_of t) g what ≡ (g, what) ∷ index_of t
insert_below g what [] h = refl
insert_below g what (e ∷ t) h = by_marks (is_no_marks e.1.marks) (insert_below g what t h.1)
  where
    by_marks : (b : Bool) → insert_entry gfid_cmp (index_of t) g what ≡ (g, what) ∷ index_of t → insert_entry gfid_cmp (if b then index_of t else (e.0, e.1.what) ∷ index_of t) g what ≡ (g, what) ∷ (if b then index_of t else (e.0, e.1.what) ∷ index_of t)
    by_marks true more = more
    by_marks false more = rw h.0 refl

-- An object below all of a table isn't among those that its index lists.
remove_below : (g : Gfid) (t : Table) → AllByRecursion (λ y. gfid_cmp g y ≡ Less) (keys_of t) → remove_entry (is_at (gfid_cmp g)) (index_of t) ≡ index_of t
remove_below g [] h = refl
remove_below g (e ∷ t) h = by_marks (is_no_marks e.1.marks) (remove_below g t h.1)
  where
    by_marks : (b : Bool) → remove_entry (is_at (gfid_cmp g)) (index_of t) ≡ index_of t → remove_entry (is_at (gfid_cmp g)) (if b then index_of t else (e.0, e.1.what) ∷ index_of t) ≡ (if b then index_of t else (e.0, e.1.what) ∷ index_of t)
    by_marks true more = more
    by_marks false more = rw (h.0, more) refl

-- An object that is found among those above another stands above it.
above_found : (k g : Gfid) (w : Object) (t : Table) → AllByRecursion (λ y. gfid_cmp k y ≡ Less) (keys_of t) → copy_at g t ≡ Some w → gfid_cmp g k ≡ Greater
above_found k g w [] s h = absurd (cc)
above_found k g w (e ∷ t) s h = by_key (eqb_tells g.0 e.0.0) (λ h. above_found k g w t s.1 h)
  where
    by_key : ((g.0 == e.0.0) ≡ true) × (g.0 ≡ e.0.0) ⊎ ((g.0 == e.0.0) ≡ false) × (g.0 ≡ e.0.0 → ⊥) → (copy_at g t ≡ Some w → gfid_cmp g k ≡ Greater) → gfid_cmp g k ≡ Greater
    by_key (inl q) more = grind (arith, nat_tests, q.1, s.0)
    by_key (inr q) more = more (rw (same_gfid g e.0, q.0) at h)

-- The first object of a table is listed by its new numbers.
relisted_first : (g : Gfid) (o w : Object) (t : Table) → AllByRecursion (λ y. gfid_cmp g y ≡ Less) (keys_of t) → relisted g o (listed_first g w (index_of t)) ≡ listed_first g o (index_of t)
relisted_first g o w t s = by_marks (is_no_marks o.marks) (is_no_marks w.marks)
  where
    itself : gfid_cmp g g ≡ Equal
    itself = grind (arith, nat_tests)

    by_marks : (a b : Bool)
        → (if a then remove_entry (is_at (gfid_cmp g)) (if b then index_of t else (g, w.what) ∷ index_of t) else insert_entry gfid_cmp (if b then index_of t else (g, w.what) ∷ index_of t) g o.what)
        ≡ (if a then index_of t else (g, o.what) ∷ index_of t)
    by_marks true true = remove_below g t s
    by_marks true false = rw itself refl
    by_marks false true = insert_below g o.what t s
    by_marks false false = rw itself refl

-- An object past the first is listed past it.
relisted_past : (g k : Gfid) (o v : Object) (old new : Listed) → gfid_cmp g k ≡ Greater → relisted g o old ≡ new → relisted g o (listed_first k v old) ≡ listed_first k v new
relisted_past g k o v old new past e = by_marks (is_no_marks o.marks) (is_no_marks v.marks) e
  where
    by_marks : (a b : Bool) → (if a then remove_entry (is_at (gfid_cmp g)) old else insert_entry gfid_cmp old g o.what) ≡ new
        → (if a then remove_entry (is_at (gfid_cmp g)) (if b then old else (k, v.what) ∷ old) else insert_entry gfid_cmp (if b then old else (k, v.what) ∷ old) g o.what) ≡ (if b then new else (k, v.what) ∷ new)
    by_marks a true e = e
    by_marks true false e = rw (past, e) refl
    by_marks false false e = rw (past, e) refl

-- The index of tables with a copy replaced is the index with this copy listed by its new numbers.
pub index_of-relisted : (g : Gfid) (o w : Object) (t : Table) → IsStrictlySortedBy gfid_cmp (keys_of t) → copy_at g t ≡ Some w → relisted g o (index_of t) ≡ index_of (with_copy g o t)
unfolding IsStrictlySortedBy
index_of-relisted g o w [] s h = absurd (cc)
index_of-relisted g o w (e ∷ t) s h = by_key (eqb_tells g.0 e.0.0) (λ h. index_of-relisted g o w t s.1 h)
  where
    by_key : ((g.0 == e.0.0) ≡ true) × (g.0 ≡ e.0.0) ⊎ ((g.0 == e.0.0) ≡ false) × (g.0 ≡ e.0.0 → ⊥) → (copy_at g t ≡ Some w → relisted g o (index_of t) ≡ index_of (with_copy g o t))
        → relisted g o (listed_first e.0 e.1 (index_of t)) ≡ index_of (cond (is_at (gfid_cmp g) e.0) ((e.0, o) ∷ t) (e ∷ with_copy g o t))
    by_key (inl q) more =
        let same : g ≡ e.0 = ap (λ (n : ℕ). record { 0 = n }) q.1 in
        rw (same_gfid g e.0, q.0, same) (relisted_first e.0 o e.1 t s.0)
    by_key (inr q) more =
        let inside : copy_at g t ≡ Some w = rw (same_gfid g e.0, q.0) at h in
        rw (same_gfid g e.0, q.0) (relisted_past g e.0 o e.1 (index_of t) (index_of (with_copy g o t)) (above_found e.0 g w t s.0 inside) (more inside))
