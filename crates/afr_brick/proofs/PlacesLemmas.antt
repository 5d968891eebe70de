-- The tables of objects by their places: what a look-up finds, and what each step makes of them.
use Rattle.std.proofs.Common.{◌≡◌, ℕ, suc, zero, ◌+◌, ◌^◌, ◌<◌, Bool, true, false, cond, List, [], ◌∷◌, ◌++◌, length, get_or, set, Option, Some, None, refl, sym, ap, subst, ◌∙◌, ◌⊎◌, inl, inr, arith, ◌==◌, if◌then◌else◌, get_or-set_same, get_or-set_other, slice_get}
use Rattle.std.proofs.Math.Seq.{get_or-append_seam}
use Rattle.std.proofs.lemmas.Bool.Decides.{eqb_tells, nat_tests}
use Rattle.std.proofs.lemmas.List.{get_or_append_left, get_or_read, length-append, length-set, set-get_or}
use Rattle.std.proofs.lemmas.Option.{none-some, same_Some}
use Rattle.std.specs.Option.{option_map}
use Rattle.std.specs.Prelude.{MatchOption}
use Rattle.std.specs.Ordering.{match_ordering}
use Rattle.std.specs.declared.cmp.Ordering.{Ordering}
use Rattle.std.specs.declared.cmp.Ordering.TheVariants.{Less, Equal, Greater}
use Rattle.std.specs.BTreeMap.{is_at, insert_entry}
use Rattle.std.specs.Map.{keys_of, lookup, remove_entry}
use Rattle.afr_base.specs.declared.ids.Gfid.{Gfid}
use Rattle.afr_base.specs.declared.ids.What.TheVariants.{File}
use Rattle.afr_object.specs.Object.{Object}
use Rattle.afr_object.specs.Tables.{Table, changed, copy_at, gfid_cmp, new_object, opening_gfid, with_copy}
use Rattle.afr_object.specs.TablesLemmas.{same_gfid}
use Rattle.afr_brick.specs.Placed.{AreApart, AreFound, AreKept, IsPlaceOf, IsPlaced, Keeps, Knows, Lacks, Learns, Remembers, object_at, table}
use Rattle.afr_brick.specs.declared.shortcuts.Shortcuts.{Shortcuts}

-- where a gfid stands
abbrev pub placed : Gfid → List (Gfid × ℕ) → Option ℕ
placed g places = lookup (is_at (gfid_cmp g)) places

-- two tables that begin alike
cons_same : (g : Gfid) (o w : Object) (t u : Table) → o ≡ w → t ≡ u → (g, o) ∷ t ≡ (g, w) ∷ u
cons_same g o w t u a b = ap (λ (x : Object). (g, x) ∷ t) a ∙ ap (λ (x : Table). (g, w) ∷ x) b

-- A look-up in the tables finds the object at the place.
pub copy_at-table : (g : Gfid) (objects : List Object) (places : List (Gfid × ℕ)) → copy_at g (table objects places) ≡ option_map (object_at objects) (placed g places)
copy_at-table g objects [] = refl
copy_at-table g objects (e ∷ places) = step (is_at (gfid_cmp g) e.0) (copy_at-table g objects places)
  where
    step : (b : Bool) → copy_at g (table objects places) ≡ option_map (object_at objects) (placed g places)
        → cond b (Some (object_at objects e.1)) (copy_at g (table objects places)) ≡ option_map (object_at objects) (cond b (Some e.1) (placed g places))
    step true more = refl
    step false more = more

pub copy_there : (g : Gfid) (objects : List Object) (places : List (Gfid × ℕ)) (p : ℕ) → Some p ≡ placed g places → copy_at g (table objects places) ≡ Some (object_at objects p)
copy_there g objects places p there = copy_at-table g objects places ∙ ap (option_map (object_at objects)) (sym there)

pub copy_absent : (g : Gfid) (objects : List Object) (places : List (Gfid × ℕ)) → None ≡ placed g places → copy_at g (table objects places) ≡ None
copy_absent g objects places there = copy_at-table g objects places ∙ ap (option_map (object_at objects)) (sym there)

-- A place that a gfid has is below the number.
pub within : (g : Gfid) (n : ℕ) (places : List (Gfid × ℕ)) (p : ℕ) → AreApart n places → Some p ≡ placed g places → p < n
within g n [] p apart there = absurd (none-some _ (sym there))
within g n (e ∷ places) p apart there = step (is_at (gfid_cmp g) e.0) there (λ there. within g n places p apart.2 there)
  where
    step : (b : Bool) → Some p ≡ cond b (Some e.1) (placed g places) → (Some p ≡ placed g places → p < n) → p < n
    step true there more = let same : p ≡ e.1 = same_Some _ _ there in rw same apart.0
    step false there more = more there

-- A gfid whose place others lack is at another place than theirs.
other_place : (g : Gfid) (q p : ℕ) (places : List (Gfid × ℕ)) → Lacks q places → Some p ≡ placed g places → q ≡ p → ⊥
other_place g q p [] lacks there same = none-some _ (sym there)
other_place g q p (e ∷ places) lacks there same = step (is_at (gfid_cmp g) e.0) there (λ there. other_place g q p places lacks.1 there same)
  where
    step : (b : Bool) → Some p ≡ cond b (Some e.1) (placed g places) → (Some p ≡ placed g places → ⊥) → ⊥
    step true there more = let here : p ≡ e.1 = same_Some _ _ there in lacks.0 (sym here ∙ sym same)
    step false there more = more there

-- The tables have the gfids of the places.
pub keys_of-table : (objects : List Object) (places : List (Gfid × ℕ)) → keys_of (table objects places) ≡ keys_of places
keys_of-table objects [] = refl
keys_of-table objects (e ∷ places) = ap (λ (more : List Gfid). e.0 ∷ more) (keys_of-table objects places)

-- ---- an object is replaced
table-lacking : (p : ℕ) (w : Object) (objects : List Object) (places : List (Gfid × ℕ)) → Lacks p places → table (set objects p w) places ≡ table objects places
table-lacking p w objects [] lacks = refl
table-lacking p w objects (e ∷ places) lacks =
    cons_same e.0 _ _ _ _ (get_or-set_other objects p e.1 w (new_object File) lacks.0) (table-lacking p w objects places lacks.1)

with_copy-table : (g : Gfid) (w : Object) (objects : List Object) (places : List (Gfid × ℕ)) (p : ℕ) → AreApart (length objects) places → Some p ≡ placed g places
    → table (set objects p w) places ≡ with_copy g w (table objects places)
with_copy-table g w objects [] p apart there = refl
with_copy-table g w objects (e ∷ places) p apart there = step (is_at (gfid_cmp g) e.0) there (λ there. with_copy-table g w objects places p apart.2 there)
  where
    step : (b : Bool) → Some p ≡ cond b (Some e.1) (placed g places) → (Some p ≡ placed g places → table (set objects p w) places ≡ with_copy g w (table objects places))
        → (e.0, object_at (set objects p w) e.1) ∷ table (set objects p w) places ≡ cond b ((e.0, w) ∷ table objects places) ((e.0, object_at objects e.1) ∷ with_copy g w (table objects places))
    step true there more =
        let same : p ≡ e.1 = same_Some _ _ there in
        rw same (cons_same e.0 _ _ _ _ (get_or-set_same objects e.1 w (new_object File) apart.0) (table-lacking e.1 w objects places apart.1))
    step false there more =
        cons_same e.0 _ _ _ _ (get_or-set_other objects p e.1 w (new_object File) (λ same. other_place g e.1 p places apart.1 there same)) (more there)

placed-set : (objects : List Object) (places : List (Gfid × ℕ)) (shortcuts : Shortcuts) (p : ℕ) (w : Object) → IsPlaced objects places shortcuts → IsPlaced (set objects p w) places shortcuts
placed-set objects places shortcuts p w is = record { apart = subst (λ n. AreApart n places) (sym (length-set objects p w)) is.apart; found = is.found; kept = is.kept }

-- ---- an object is put in
more_room : (n : ℕ) (places : List (Gfid × ℕ)) → AreApart n places → AreApart (n + 1) places
more_room n [] apart = tt
more_room n (e ∷ places) apart = (omega (arith, apart.0), apart.1, more_room n places apart.2)

lacks_last : (n : ℕ) (places : List (Gfid × ℕ)) → AreApart n places → Lacks n places
lacks_last n [] apart = tt
lacks_last n (e ∷ places) apart = (λ same. let low = apart.0 in absurd (omega (arith, low, same)), lacks_last n places apart.2)

lacks-insert : (q n : ℕ) (g : Gfid) (places : List (Gfid × ℕ)) → (n ≡ q → ⊥) → Lacks q places → Lacks q (insert_entry gfid_cmp places g n)
lacks-insert q n g [] other lacks = (other, tt)
lacks-insert q n g (e ∷ places) other lacks = step (gfid_cmp g e.0) (lacks-insert q n g places other lacks.1)
  where
    step : (k : Ordering) → Lacks q (insert_entry gfid_cmp places g n) → Lacks q (match_ordering k ((g, n) ∷ e ∷ places) ((e.0, n) ∷ places) (e ∷ insert_entry gfid_cmp places g n))
    step Less more = (other, lacks)
    step Equal more = (other, lacks.1)
    step Greater more = (lacks.0, more)

apart-insert : (n : ℕ) (g : Gfid) (places : List (Gfid × ℕ)) → AreApart n places → AreApart (n + 1) (insert_entry gfid_cmp places g n)
apart-insert n g [] apart = (omega arith, tt, tt)
apart-insert n g (e ∷ places) apart = step (gfid_cmp g e.0) (apart-insert n g places apart.2)
  where
    step : (k : Ordering) → AreApart (n + 1) (insert_entry gfid_cmp places g n) → AreApart (n + 1) (match_ordering k ((g, n) ∷ e ∷ places) ((e.0, n) ∷ places) (e ∷ insert_entry gfid_cmp places g n))
    step Less more = (omega arith, lacks_last n (e ∷ places) apart, more_room n (e ∷ places) apart)
    step Equal more = (omega arith, lacks_last n places apart.2, more_room n places apart.2)
    step Greater more =
        let low = apart.0 in
        (omega (arith, low), lacks-insert e.1 n g places (λ same. absurd (omega (arith, low, same))) apart.1, more)

table-more : (o : Object) (objects : List Object) (places : List (Gfid × ℕ)) → AreApart (length objects) places → table (objects ++ o ∷ []) places ≡ table objects places
table-more o objects [] apart = refl
table-more o objects (e ∷ places) apart = cons_same e.0 _ _ _ _ (get_or_append_left objects (o ∷ []) (new_object File) e.1 apart.0) (table-more o objects places apart.2)

table-insert : (g : Gfid) (o : Object) (objects : List Object) (places : List (Gfid × ℕ)) → AreApart (length objects) places
    → table (objects ++ o ∷ []) (insert_entry gfid_cmp places g (length objects)) ≡ insert_entry gfid_cmp (table objects places) g o
table-insert g o objects [] apart = cons_same g _ _ _ _ (get_or-append_seam objects o [] (new_object File)) refl
table-insert g o objects (e ∷ places) apart = step (gfid_cmp g e.0) (table-insert g o objects places apart.2)
  where
    step : (k : Ordering) → table (objects ++ o ∷ []) (insert_entry gfid_cmp places g (length objects)) ≡ insert_entry gfid_cmp (table objects places) g o
        → table (objects ++ o ∷ []) (match_ordering k ((g, length objects) ∷ e ∷ places) ((e.0, length objects) ∷ places) (e ∷ insert_entry gfid_cmp places g (length objects)))
        ≡ match_ordering k ((g, o) ∷ table objects (e ∷ places)) ((e.0, o) ∷ table objects places) ((e.0, object_at objects e.1) ∷ insert_entry gfid_cmp (table objects places) g o)
    step Less more = cons_same g _ _ _ _ (get_or-append_seam objects o [] (new_object File)) (table-more o objects (e ∷ places) apart)
    step Equal more = cons_same e.0 _ _ _ _ (get_or-append_seam objects o [] (new_object File)) (table-more o objects places apart.2)
    step Greater more = cons_same e.0 _ _ _ _ (get_or_append_left objects (o ∷ []) (new_object File) e.1 apart.0) more

-- ---- what is remembered
placed-insert : (g q : Gfid) (n : ℕ) (places : List (Gfid × ℕ)) → placed q (insert_entry gfid_cmp places g n) ≡ (if g.0 == q.0 then Some n else placed q places)
placed-insert g q n [] = rw (same_gfid q g) (grind (arith, nat_tests))
placed-insert g q n (e ∷ places) = grind (arith, nat_tests, same_gfid q g, same_gfid q e.0, placed-insert g q n places)

still_placed : (g q : Gfid) (n p : ℕ) (places : List (Gfid × ℕ)) → placed g places ≡ None → placed q places ≡ Some p → placed q (insert_entry gfid_cmp places g n) ≡ Some p
still_placed g q n p places new there = placed-insert g q n places ∙ other (eqb_tells g.0 q.0)
  where
    other : ((g.0 == q.0) ≡ true) × (g.0 ≡ q.0) ⊎ ((g.0 == q.0) ≡ false) × (g.0 ≡ q.0 → ⊥) → (if g.0 == q.0 then Some n else placed q places) ≡ Some p
    other (inl s) = let same : g ≡ q = ap (λ (x : ℕ). record { 0 = x }) s.1 in absurd (none-some p (sym new ∙ ap (λ (x : Gfid). placed x places) same ∙ there))
    other (inr s) = rw s.0 there

found-insert : (g : Gfid) (n : ℕ) (places : List (Gfid × ℕ)) (opening : List ℕ) → placed g places ≡ None → AreFound opening places → AreFound opening (insert_entry gfid_cmp places g n)
found-insert g n places opening new found i p at = still_placed g (opening_gfid (suc i)) n p places new (found i p at)

-- the place that is remembered last is the last
last_or_before : (opening : List ℕ) (n i p : ℕ) → slice_get (opening ++ n ∷ []) i ≡ Some p → (slice_get opening i ≡ Some p) ⊎ ((i ≡ length opening) × (p ≡ n))
last_or_before [] n zero p at = inr (refl, sym (same_Some _ _ at))
last_or_before [] n (suc i) p at = absurd (none-some _ at)
last_or_before (x ∷ opening) n zero p at = inl at
last_or_before (x ∷ opening) n (suc i) p at = elim (last_or_before opening n i p at) [ inl here ↦ inl here | inr last ↦ inr (omega (arith, last.0), last.1) ]

found-remembered : (g : Gfid) (n : ℕ) (places : List (Gfid × ℕ)) (old new : List ℕ) → placed g places ≡ None → AreFound old places → Remembers g n old new → AreFound new (insert_entry gfid_cmp places g n)
found-remembered g n places old new lacks found (inl same) = rw same (found-insert g n places old lacks found)
found-remembered g n places old new lacks found (inr more) = rw more.1 each
  where
    itself : (if g.0 == g.0 then Some n else placed g places) ≡ Some n
    itself = grind (arith, nat_tests)

    each : AreFound (old ++ n ∷ []) (insert_entry gfid_cmp places g n)
    each i p at = elim (last_or_before old n i p at) [
      | inl here ↦ found-insert g n places old lacks found i p here
      | inr last ↦
          let same : g ≡ opening_gfid (suc i) = ap (λ (x : ℕ). record { 0 = x }) (omega (arith, more.0, last.0)) in
          subst (λ (x : Gfid). placed x (insert_entry gfid_cmp places g n) ≡ Some p) same (placed-insert g g n places ∙ itself ∙ ap Some (sym last.1))
    ]

-- what is kept in slots is right with one more place, in a slot or in none
kept-learned : (g : Gfid) (n : ℕ) (places old new : List (Gfid × ℕ)) → placed g places ≡ None → AreKept old places → Keeps g n old new → AreKept new (insert_entry gfid_cmp places g n)
kept-learned g n places old new lacks kept keeps i e at = elim (keeps i e at) [
  | inl this ↦ subst (λ (x : Gfid × ℕ). placed x.0 (insert_entry gfid_cmp places g n) ≡ Some x.1) (sym this) (placed-insert g g n places ∙ itself)
  | inr that ↦ still_placed g e.0 n e.1 places lacks (kept that.0 e that.1)
]
  where
    itself : (if g.0 == g.0 then Some n else placed g places) ≡ Some n
    itself = grind (arith, nat_tests)

-- the place that is remembered for a gfid is its place
pub found_at : (g : Gfid) (places : List (Gfid × ℕ)) (opening : List ℕ) (i p : ℕ) → AreFound opening places → g.0 ≡ 2 ^ 64 + 1 + i → slice_get opening i ≡ Some p → Some p ≡ placed g places
found_at g places opening i p found number at =
    let same : g ≡ opening_gfid (suc i) = ap (λ (x : ℕ). record { 0 = x }) (omega (arith, number)) in
    rw same (sym (found i p at))

pub known_at : (g : Gfid) (objects : List Object) (places : List (Gfid × ℕ)) (shortcuts : Shortcuts) (p : ℕ) → IsPlaced objects places shortcuts → Knows shortcuts g p → Some p ≡ placed g places
known_at g objects places shortcuts p is (inl it) = found_at g places shortcuts.opening.items it.0 p is.found it.1 it.2
known_at g objects places shortcuts p is (inr it) = sym (is.kept it.0 (g, p) it.1)

-- An object is put in under a gfid that the brick lacked.
pub table_put : (g : Gfid) (o made : Object) (objects after : List Object) (places placed_after : List (Gfid × ℕ)) (n : ℕ) → AreApart (length objects) places → n ≡ length objects → after ≡ objects ++ o ∷ [] → placed_after ≡ insert_entry gfid_cmp places g n → o ≡ made
    → table after placed_after ≡ insert_entry gfid_cmp (table objects places) g made
table_put g o made objects after places placed_after n apart last pushed put is = rw (pushed, put, last, is) (table-insert g made objects places apart)

pub placed_put : (g : Gfid) (o : Object) (objects after : List Object) (places placed_after : List (Gfid × ℕ)) (old new : Shortcuts) (n : ℕ) → copy_at g (table objects places) ≡ None → IsPlaced objects places old → n ≡ length objects
    → after ≡ objects ++ o ∷ [] → placed_after ≡ insert_entry gfid_cmp places g n → Learns g n old new → IsPlaced after placed_after new
placed_put g o objects after places placed_after old new n lacks is last pushed put learns = record {
  apart = rw (pushed, put, last, length-append objects (o ∷ [])) (apart-insert (length objects) g places is.apart);
  found = rw put (found-remembered g n places old.opening.items new.opening.items (absent (placed g places) refl) is.found learns.opening);
  kept = rw put (kept-learned g n places old.others.items new.others.items (absent (placed g places) refl) is.kept learns.others);
}
  where
    absent : (o : Option ℕ) → placed g places ≡ o → placed g places ≡ None
    absent None e = e
    absent (Some p) e = absurd (none-some _ (sym lacks ∙ copy_there g objects places p (sym e)))

-- An object that gets no place changes nothing.
pub table_spare : (o : Object) (objects after : List Object) (places placed_after : List (Gfid × ℕ)) → AreApart (length objects) places → after ≡ objects ++ o ∷ [] → placed_after ≡ places → table after placed_after ≡ table objects places
table_spare o objects after places placed_after apart pushed same = rw (pushed, same) (table-more o objects places apart)

pub placed_spare : (o : Object) (objects after : List Object) (places placed_after : List (Gfid × ℕ)) (shortcuts : Shortcuts) → IsPlaced objects places shortcuts → after ≡ objects ++ o ∷ [] → placed_after ≡ places → IsPlaced after placed_after shortcuts
placed_spare o objects after places placed_after shortcuts is pushed same = record {
  apart = rw (pushed, same, length-append objects (o ∷ [])) (more_room (length objects) places is.apart);
  found = rw same is.found;
  kept = rw same is.kept;
}

-- ---- a place is given up
pub table-remove : (g : Gfid) (objects : List Object) (places : List (Gfid × ℕ)) → table objects (remove_entry (is_at (gfid_cmp g)) places) ≡ remove_entry (is_at (gfid_cmp g)) (table objects places)
table-remove g objects [] = refl
table-remove g objects (e ∷ places) = step (is_at (gfid_cmp g) e.0) (table-remove g objects places)
  where
    step : (b : Bool) → table objects (remove_entry (is_at (gfid_cmp g)) places) ≡ remove_entry (is_at (gfid_cmp g)) (table objects places)
        → table objects (cond b places (e ∷ remove_entry (is_at (gfid_cmp g)) places)) ≡ cond b (table objects places) ((e.0, object_at objects e.1) ∷ remove_entry (is_at (gfid_cmp g)) (table objects places))
    step true more = refl
    step false more = ap (λ (t : Table). (e.0, object_at objects e.1) ∷ t) more

lacks-remove : (q : ℕ) (g : Gfid) (places : List (Gfid × ℕ)) → Lacks q places → Lacks q (remove_entry (is_at (gfid_cmp g)) places)
lacks-remove q g [] lacks = tt
lacks-remove q g (e ∷ places) lacks = step (is_at (gfid_cmp g) e.0) (lacks-remove q g places lacks.1)
  where
    step : (b : Bool) → Lacks q (remove_entry (is_at (gfid_cmp g)) places) → Lacks q (cond b places (e ∷ remove_entry (is_at (gfid_cmp g)) places))
    step true more = lacks.1
    step false more = (lacks.0, more)

pub apart-remove : (n : ℕ) (g : Gfid) (places : List (Gfid × ℕ)) → AreApart n places → AreApart n (remove_entry (is_at (gfid_cmp g)) places)
apart-remove n g [] apart = tt
apart-remove n g (e ∷ places) apart = step (is_at (gfid_cmp g) e.0) (apart-remove n g places apart.2)
  where
    step : (b : Bool) → AreApart n (remove_entry (is_at (gfid_cmp g)) places) → AreApart n (cond b places (e ∷ remove_entry (is_at (gfid_cmp g)) places))
    step true more = apart.2
    step false more = (apart.0, lacks-remove e.1 g places apart.1, more)

-- nothing leads any more to the place that was given up
lacks_removed : (g : Gfid) (n p : ℕ) (places : List (Gfid × ℕ)) → AreApart n places → Some p ≡ placed g places → Lacks p (remove_entry (is_at (gfid_cmp g)) places)
lacks_removed g n p [] apart there = tt
lacks_removed g n p (e ∷ places) apart there = step (is_at (gfid_cmp g) e.0) there (λ there. lacks_removed g n p places apart.2 there)
  where
    step : (b : Bool) → Some p ≡ cond b (Some e.1) (placed g places) → (Some p ≡ placed g places → Lacks p (remove_entry (is_at (gfid_cmp g)) places)) → Lacks p (cond b places (e ∷ remove_entry (is_at (gfid_cmp g)) places))
    step true there more = let same : p ≡ e.1 = same_Some _ _ there in rw same apart.1
    step false there more = (λ same. other_place g e.1 p places apart.1 there same, more there)

-- An object goes, and its place is emptied.
pub table_dropped : (g : Gfid) (w : Object) (objects : List Object) (places : List (Gfid × ℕ)) (p : ℕ) → AreApart (length objects) places → Some p ≡ placed g places
    → table (set objects p w) (remove_entry (is_at (gfid_cmp g)) places) ≡ remove_entry (is_at (gfid_cmp g)) (table objects places)
table_dropped g w objects places p apart there = table-lacking p w objects (remove_entry (is_at (gfid_cmp g)) places) (lacks_removed g (length objects) p places apart there) ∙ table-remove g objects places

pub apart_dropped : (g : Gfid) (w : Object) (objects : List Object) (places : List (Gfid × ℕ)) (p : ℕ) → AreApart (length objects) places → AreApart (length (set objects p w)) (remove_entry (is_at (gfid_cmp g)) places)
apart_dropped g w objects places p apart = subst (λ n. AreApart n (remove_entry (is_at (gfid_cmp g)) places)) (sym (length-set objects p w)) (apart-remove (length objects) g places apart)

-- With nothing remembered, what is remembered is right.
pub none_found : (places : List (Gfid × ℕ)) → AreFound [] places
none_found places i p at = absurd (none-some _ at)

pub none_kept : (places : List (Gfid × ℕ)) → AreKept [] places
none_kept places i e at = absurd (none-some _ at)

-- ---- the place of a gfid
pub is_place_of : (g : Gfid) (objects : List Object) (places : List (Gfid × ℕ)) (shortcuts : Shortcuts) (p : ℕ) → IsPlaced objects places shortcuts → Some p ≡ placed g places → IsPlaceOf objects places shortcuts g p
is_place_of g objects places shortcuts p is there = record {
  within = within g (length objects) places p is.apart there;
  there = copy_there g objects places p there;
  written = λ w. with_copy-table g w objects places p is.apart there;
  kept = λ w. placed-set objects places shortcuts p w is;
}

pub place_or_none : (g : Gfid) (objects : List Object) (places : List (Gfid × ℕ)) (shortcuts : Shortcuts) (r : Option ℕ) → IsPlaced objects places shortcuts → r ≡ placed g places
    → MatchOption r (copy_at g (table objects places) ≡ None) (λ p. IsPlaceOf objects places shortcuts g p)
place_or_none g objects places shortcuts None is e = copy_absent g objects places e
place_or_none g objects places shortcuts (Some p) is e = is_place_of g objects places shortcuts p is e

-- What was read at the place of a gfid is its copy.
pub copy_read : (g : Gfid) (x : Object) (objects : List Object) (places : List (Gfid × ℕ)) (shortcuts : Shortcuts) (p : ℕ) → IsPlaceOf objects places shortcuts g p → x ≡ get_or objects p x → copy_at g (table objects places) ≡ Some x
copy_read g x objects places shortcuts p is read = is.there ∙ ap Some (sym (get_or_read objects p x is.within read (new_object File)))

-- What is written there changes the copy.
pub copy_written : (f : Object → Object) (g : Gfid) (x w : Object) (objects : List Object) (places : List (Gfid × ℕ)) (shortcuts : Shortcuts) (p : ℕ) → IsPlaceOf objects places shortcuts g p → x ≡ get_or objects p x
    → w ≡ f x → table (set objects p w) places ≡ changed f g (copy_at g (table objects places)) (table objects places)
copy_written f g x w objects places shortcuts p is read new =
    is.written w
    ∙ ap (λ (o : Object). with_copy g o (table objects places)) new
    ∙ ap (λ (o : Option Object). changed f g o (table objects places)) (sym (copy_read g x objects places shortcuts p is read))

-- An object that is written as it was leaves the tables.
pub copy_kept : (x w : Object) (objects : List Object) (places : List (Gfid × ℕ)) (p : ℕ) → x ≡ get_or objects p x → w ≡ x → table (set objects p w) places ≡ table objects places
copy_kept x w objects places p read same = ap (λ (o : Object). table (set objects p o) places) (same ∙ read) ∙ ap (λ (os : List Object). table os places) (set-get_or objects p x)
