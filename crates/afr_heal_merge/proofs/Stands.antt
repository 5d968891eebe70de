-- Which entry of a name stands in a merge.
use Rattle.std.proofs.Common.{◌≡◌, ℕ, zero, suc, ◌≤◌, Bool, true, false, ◌⊎◌, inl, inr, refl, sym, ◌∙◌, ap, subst, arith, List, [], ◌∷◌, Option, Some, None, ◌==◌, ◌||◌, ◌&&◌, if◌then◌else◌, Contains}
use Rattle.std.specs.Prelude.{nat_lt}
use Rattle.std.proofs.lemmas.Bool.Decides.{eqb_tells, nat_tests}
use Rattle.std.specs.BTreeMap.{is_at, insert_entry}
use Rattle.std.specs.Map.{lookup}
use Rattle.afr_base.specs.declared.ids.NameId.{NameId}
use Rattle.afr_heal_merge.specs.Merging.{LeadsTo, StandsInOne}
use Rattle.afr_heal_merge.proofs.Order.{NameTable, by_order}
use Rattle.afr_object.specs.Repairs.{higher, merged, merged_into, outranks}
use Rattle.afr_object.specs.Tables.{is_dir, name_cmp}
use Rattle.afr_object.specs.declared.entry.Entry.{Entry}

-- an element of a list, by recursion
abbrev pub IsAmong : {A : Type 0} → List A → A → Type 0
IsAmong [] x = ⊥
IsAmong (y ∷ ys) x = (y ≡ x) ⊎ IsAmong ys x

pub among : {A : Type 0} (xs : List A) (x : A) → Contains xs x → IsAmong xs x
among [] x h = absurd (omega (arith, h.1))
among (y ∷ xs) x (zero, low, e) = inl e
among (y ∷ xs) x (suc k, low, e) = inr (among xs x (k, omega (arith, low), e))

pub contained : {A : Type 0} (xs : List A) (x : A) → IsAmong xs x → Contains xs x
contained [] x h = absurd h
contained (y ∷ xs) x (inl e) = (0, omega arith, e)
contained (y ∷ xs) x (inr h) = let at = contained xs x h in (suc at.0, omega (arith, at.1), at.2)

pub same_name_of : (n k : NameId) → is_at (name_cmp n) k ≡ (n.0 == k.0)
same_name_of n k = grind (arith, nat_tests)

name_is : (n q : NameId) → n.0 ≡ q.0 → n ≡ q
name_is n q e = ap (λ (k : ℕ). record { 0 = k }) e

-- a look-up after a name was put in
lookup_named : (n q : NameId) (e : Entry) (t : NameTable) → lookup (is_at (name_cmp q)) (insert_entry name_cmp t n e) ≡ (if n.0 == q.0 then Some e else lookup (is_at (name_cmp q)) t)
lookup_named n q e [] = rw (same_name_of q n) (grind (arith, nat_tests))
lookup_named n q e (x ∷ t) = grind (arith, nat_tests, same_name_of q n, same_name_of q x.0, lookup_named n q e t)

-- ---- no lower gfid stands
above : (g h : ℕ) (dir : Bool) → (nat_lt h g || ((g == h) && dir)) ≡ true → h ≤ g
above g h dir k = grind (arith, nat_tests)

below : (g h : ℕ) (dir : Bool) → (nat_lt h g || ((g == h) && dir)) ≡ false → g ≤ h
below g h dir k = grind (arith, nat_tests)

-- the entry that stands has a gfid no lower than either
higher_first : (e : Entry) (o : Option Entry) → e.gfid.0 ≤ (higher e o).gfid.0
higher_first e None = omega arith
higher_first e (Some f) = go (outranks e f) refl
  where
    go : (b : Bool) → outranks e f ≡ b → e.gfid.0 ≤ (if b then e else f).gfid.0
    go true h = omega arith
    go false h = below e.gfid.0 f.gfid.0 (is_dir e.what) h

higher_second : (e f : Entry) → f.gfid.0 ≤ (higher e (Some f)).gfid.0
higher_second e f = go (outranks e f) refl
  where
    go : (b : Bool) → outranks e f ≡ b → f.gfid.0 ≤ (if b then e else f).gfid.0
    go true h = above e.gfid.0 f.gfid.0 (is_dir e.what) h
    go false h = omega arith

-- what a name leads to is no lower after one name more
still_leads : (x : NameId × Entry) (t : NameTable) (q : NameId) (least : ℕ) → LeadsTo t q least → LeadsTo (insert_entry name_cmp t x.0 (higher x.1 (lookup (is_at (name_cmp x.0)) t))) q least
still_leads x t q least l = split (eqb_tells x.0.0 q.0)
  where
    there : NameTable
    there = insert_entry name_cmp t x.0 (higher x.1 (lookup (is_at (name_cmp x.0)) t))

    split : ((x.0.0 == q.0) ≡ true) × (x.0.0 ≡ q.0) ⊎ ((x.0.0 == q.0) ≡ false) × (x.0.0 ≡ q.0 → ⊥) → LeadsTo there q least
    split (inl s) =
        let old : lookup (is_at (name_cmp x.0)) t ≡ Some l.entry = ap (λ (n : NameId). lookup (is_at (name_cmp n)) t) (name_is x.0 q s.1) ∙ l.found in
        record {
          entry = higher x.1 (lookup (is_at (name_cmp x.0)) t);
          found = lookup_named x.0 q _ t ∙ rw s.0 refl;
          greatest = rw old (omega (arith, l.greatest, higher_second x.1 l.entry));
        }
    split (inr s) = record { entry = l.entry; found = lookup_named x.0 q _ t ∙ rw s.0 l.found; greatest = l.greatest }

-- a name that is put in leads to its entry, or to one with a greater gfid
leads : (x : NameId × Entry) (t : NameTable) → LeadsTo (insert_entry name_cmp t x.0 (higher x.1 (lookup (is_at (name_cmp x.0)) t))) x.0 x.1.gfid.0
leads x t =
    let itself : (x.0.0 == x.0.0) ≡ true = grind (arith, nat_tests) in
    record {
      entry = higher x.1 (lookup (is_at (name_cmp x.0)) t);
      found = lookup_named x.0 x.0 _ t ∙ rw itself refl;
      greatest = higher_first x.1 (lookup (is_at (name_cmp x.0)) t);
    }

leads_old : (old names : NameTable) (q : NameId) (least : ℕ) → LeadsTo old q least → LeadsTo (merged_into old names) q least
leads_old old [] q least l = l
leads_old old (x ∷ more) q least l = still_leads x (merged_into old more) q least (leads_old old more q least l)

leads_new : (old names : NameTable) (y : NameId × Entry) → IsAmong names y → LeadsTo (merged_into old names) y.0 y.1.gfid.0
leads_new old [] y h = absurd h
leads_new old (x ∷ more) y (inl e) = subst (λ (z : NameId × Entry). LeadsTo (merged_into old (x ∷ more)) z.0 z.1.gfid.0) e (leads x (merged_into old more))
leads_new old (x ∷ more) y (inr h) = still_leads x (merged_into old more) y.0 y.1.gfid.0 (leads_new old more y h)

leads_merged : (lists : List NameTable) (names : NameTable) (y : NameId × Entry) → IsAmong lists names → IsAmong names y → LeadsTo (merged lists) y.0 y.1.gfid.0
leads_merged [] names y at h = absurd at
leads_merged (first ∷ more) names y (inl e) h = leads_new (merged more) first y (subst (λ (t : NameTable). IsAmong t y) (sym e) h)
leads_merged (first ∷ more) names y (inr at) h = leads_old (merged more) first y.0 y.1.gfid.0 (leads_merged more names y at h)

-- the merged list has each name of a list, and no lower gfid for it
pub greatest_stands : (lists : List NameTable) (x : NameId × Entry) → StandsInOne lists x → LeadsTo (merged lists) x.0 x.1.gfid.0
greatest_stands lists x s = leads_merged lists s.names x (among lists s.names s.listed) (among s.names x s.named)

-- ---- nothing is added
-- an entry that is found stands in the list
found_among : (q : NameId) (f : Entry) (t : NameTable) → lookup (is_at (name_cmp q)) t ≡ Some f → IsAmong t (q, f)
found_among q f [] e = absurd (cc)
found_among q f (x ∷ t) e = split (found_among q f t) (eqb_tells q.0 x.0.0) (rw (same_name_of q x.0) at e)
  where
    split : (lookup (is_at (name_cmp q)) t ≡ Some f → IsAmong t (q, f)) → ((q.0 == x.0.0) ≡ true) × (q.0 ≡ x.0.0) ⊎ ((q.0 == x.0.0) ≡ false) × (q.0 ≡ x.0.0 → ⊥) → (if q.0 == x.0.0 then Some x.1 else lookup (is_at (name_cmp q)) t) ≡ Some f → IsAmong (x ∷ t) (q, f)
    split later (inl s) g =
        let same : Some x.1 ≡ Some f = rw s.0 at g in
        let entry : x.1 ≡ f = cc in
        let name : x.0 ≡ q = name_is x.0 q (sym s.1) in
        inl (λ i. (name i, entry i))
    split later (inr s) g = inr (later (rw s.0 at g))

-- what stands in a list after a name was put in was there, or is what was put in
put_in : (n : NameId) (e : Entry) (t : NameTable) (y : NameId × Entry) → IsAmong (insert_entry name_cmp t n e) y → IsAmong ((n, e) ∷ t) y
put_in n e [] y h = h
put_in n e (x ∷ t) y h =
    by_order n x.0 (λ l. IsAmong l y → IsAmong ((n, e) ∷ x ∷ t) y) ((n, e) ∷ x ∷ t) ((x.0, e) ∷ t) (x ∷ insert_entry name_cmp t n e) (λ less g. g) (λ same g. replaced (name_is n x.0 same) g) (λ more g. later (put_in n e t y) g) h
  where
    replaced : n ≡ x.0 → IsAmong ((x.0, e) ∷ t) y → IsAmong ((n, e) ∷ x ∷ t) y
    replaced same (inl h) = inl (ap (λ (k : NameId). (k, e)) same ∙ h)
    replaced same (inr h) = inr (inr h)

    after : IsAmong ((n, e) ∷ t) y → IsAmong ((n, e) ∷ x ∷ t) y
    after (inl h) = inl h
    after (inr h) = inr (inr h)

    later : (IsAmong (insert_entry name_cmp t n e) y → IsAmong ((n, e) ∷ t) y) → IsAmong (x ∷ insert_entry name_cmp t n e) y → IsAmong ((n, e) ∷ x ∷ t) y
    later more (inl h) = inr (inl h)
    later more (inr h) = after (more h)

-- what stands after one name more was there, or is that name with its entry
one_more : (x : NameId × Entry) (t : NameTable) (y : NameId × Entry) → IsAmong (insert_entry name_cmp t x.0 (higher x.1 (lookup (is_at (name_cmp x.0)) t))) y → IsAmong (x ∷ t) y
one_more x t y h = which (lookup (is_at (name_cmp x.0)) t) refl (put_in x.0 _ t y h)
  where
    which : (o : Option Entry) → lookup (is_at (name_cmp x.0)) t ≡ o → IsAmong ((x.0, higher x.1 o) ∷ t) y → IsAmong (x ∷ t) y
    which o found (inr h) = inr h
    which None found (inl h) = inl h
    which (Some f) found (inl h) = go (outranks x.1 f) h
      where
        go : (b : Bool) → (x.0, if b then x.1 else f) ≡ y → IsAmong (x ∷ t) y
        go true h = inl h
        go false h = inr (subst (λ (z : NameId × Entry). IsAmong t z) h (found_among x.0 f t found))

into_added : (old names : NameTable) (y : NameId × Entry) → IsAmong (merged_into old names) y → IsAmong names y ⊎ IsAmong old y
into_added old [] y h = inr h
into_added old (x ∷ more) y h = split (into_added old more y) (one_more x (merged_into old more) y h)
  where
    rest : IsAmong more y ⊎ IsAmong old y → IsAmong (x ∷ more) y ⊎ IsAmong old y
    rest (inl h) = inl (inr h)
    rest (inr h) = inr h

    split : (IsAmong (merged_into old more) y → IsAmong more y ⊎ IsAmong old y) → IsAmong (x ∷ merged_into old more) y → IsAmong (x ∷ more) y ⊎ IsAmong old y
    split later (inl h) = inl (inl h)
    split later (inr h) = rest (later h)

-- each entry of the merged list stands in one of the lists
in_one : (lists : List NameTable) (y : NameId × Entry) → IsAmong (merged lists) y → (names : NameTable) × IsAmong lists names × IsAmong names y
in_one [] y h = absurd h
in_one (first ∷ more) y h = split (in_one more y) (into_added (merged more) first y h)
  where
    split : (IsAmong (merged more) y → (names : NameTable) × IsAmong more names × IsAmong names y) → IsAmong first y ⊎ IsAmong (merged more) y → (names : NameTable) × IsAmong (first ∷ more) names × IsAmong names y
    split later (inl h) = (first, inl refl, h)
    split later (inr h) = let l = later h in (l.0, inr l.1, l.2)

pub nothing_added : (lists : List NameTable) (x : NameId × Entry) → Contains (merged lists) x → StandsInOne lists x
nothing_added lists x h =
    let l = in_one lists x (among (merged lists) x h) in
    record { names = l.0; listed = contained lists l.0 l.1; named = contained l.0 x l.2 }
