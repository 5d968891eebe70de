-- The merge of lists that are all one list is that list.
use Rattle.std.proofs.Common.{◌≡◌, Bool, true, false, ◌⊎◌, inl, inr, refl, sym, ap, subst, arith, List, [], ◌∷◌, Option, Some, None, ◌==◌, ◌<◌, if◌then◌else◌, Contains}
use Rattle.std.proofs.lemmas.Bool.Decides.{nat_tests}
use Rattle.std.specs.BTreeMap.{is_at, insert_entry}
use Rattle.std.specs.List.Sorted.{IsStrictlySortedBy}
use Rattle.std.specs.Map.{lookup}
use Rattle.std.specs.declared.cmp.Ordering.TheVariants.{Less}
use Rattle.afr_base.specs.declared.ids.NameId.{NameId}
use Rattle.afr_heal_merge.specs.Merging.{AreAll, present}
use Rattle.afr_heal_merge.proofs.Order.{AreAfter, AreRising, NameTable, by_order, is_less}
use Rattle.afr_heal_merge.proofs.Stands.{IsAmong, among, same_name_of}
use Rattle.afr_object.specs.Repairs.{higher, merged, merged_into, outranks}
use Rattle.afr_object.specs.Tables.{name_cmp}
use Rattle.afr_object.specs.declared.entry.Entry.{Entry}

-- A name below all others isn't found among them.
lookup_below : (n : NameId) (t : NameTable) → AreAfter n t → lookup (is_at (name_cmp n)) t ≡ None
lookup_below n [] h = refl
lookup_below n (x ∷ t) h = rw h.0 (lookup_below n t h.1)

-- It stands before them.
put_first : (x : NameId × Entry) (t : NameTable) → AreAfter x.0 t → insert_entry name_cmp t x.0 x.1 ≡ x ∷ t
put_first x [] h = refl
put_first x (y ∷ t) h = rw h.0 refl

-- A list in order that is put into no names is what they are then.
into_none : (t : NameTable) → AreRising t → merged_into [] t ≡ t
unfolding IsStrictlySortedBy
into_none [] h = refl
into_none (x ∷ t) h = rw (into_none t h.1, lookup_below x.0 t h.0) (put_first x t h.0)

-- A name that stands below a list stands below each of its names.
after_among : (n : NameId) (t : NameTable) (x : NameId × Entry) → AreAfter n t → IsAmong t x → name_cmp n x.0 ≡ Less
after_among n [] x h at = absurd at
after_among n (y ∷ t) x h (inl e) = subst (λ (z : NameId × Entry). name_cmp n z.0 ≡ Less) e h.0
after_among n (y ∷ t) x h (inr at) = after_among n t x h.1 at

-- In a list in order a name leads to its entry.
found : (t : NameTable) (x : NameId × Entry) → AreRising t → IsAmong t x → lookup (is_at (name_cmp x.0)) t ≡ Some x.1
unfolding IsStrictlySortedBy
found [] x h at = absurd at
found (y ∷ t) x h (inl e) =
    let itself : (y.0.0 == y.0.0) ≡ true = grind (arith, nat_tests) in
    subst (λ (z : NameId × Entry). lookup (is_at (name_cmp z.0)) (y ∷ t) ≡ Some z.1) e (rw (same_name_of y.0 y.0, itself) refl)
found (y ∷ t) x h (inr at) =
    let lower : y.0.0 < x.0.0 = is_less y.0 x.0 (after_among y.0 t x h.0 at) in
    let other : (x.0.0 == y.0.0) ≡ false = grind (arith, nat_tests, lower) in
    rw (same_name_of x.0 y.0, other) (found t x h.1 at)

-- An entry that stands in a list in order, and is put in again, changes nothing.
put_again : (t : NameTable) (x : NameId × Entry) → AreRising t → IsAmong t x → insert_entry name_cmp t x.0 x.1 ≡ t
unfolding IsStrictlySortedBy
put_again [] x h at = absurd at
put_again (y ∷ t) x h (inl e) =
    let same : y.0.0 ≡ x.0.0 = ap (λ (z : NameId × Entry). z.0.0) e in
    by_order x.0 y.0 (λ l. l ≡ y ∷ t) (x ∷ y ∷ t) ((y.0, x.1) ∷ t) (y ∷ insert_entry name_cmp t x.0 x.1) (λ less. absurd (omega (arith, less, same))) (λ equal. ap (λ (z : NameId × Entry). (y.0, z.1) ∷ t) (sym e)) (λ more. absurd (omega (arith, more, same)))
put_again (y ∷ t) x h (inr at) =
    let lower : y.0.0 < x.0.0 = is_less y.0 x.0 (after_among y.0 t x h.0 at) in
    by_order x.0 y.0 (λ l. l ≡ y ∷ t) (x ∷ y ∷ t) ((y.0, x.1) ∷ t) (y ∷ insert_entry name_cmp t x.0 x.1) (λ less. absurd (omega (arith, less, lower))) (λ equal. absurd (omega (arith, equal, lower))) (λ more. ap (λ (l : NameTable). y ∷ l) (put_again t x h.1 at))

-- Of two equal entries either stands.
higher_same : (e : Entry) → higher e (Some e) ≡ e
higher_same e = go (outranks e e)
  where
    go : (b : Bool) → (if b then e else e) ≡ e
    go true = refl
    go false = refl

-- A part of a list in order that is put into it changes nothing.
into_whole : (t part : NameTable) → AreRising t → ((x : NameId × Entry) → IsAmong part x → IsAmong t x) → merged_into t part ≡ t
into_whole t [] h within = refl
into_whole t (x ∷ part) h within =
    rw (into_whole t part h (λ y at. within y (inr at)), found t x h (within x (inl refl)), higher_same x.1) (put_again t x h (within x (inl refl)))

-- The merge of lists that are all this one is it, where there is one.
merged_all : (t : NameTable) (lists : List (Option NameTable)) → AreRising t → AreAll t lists → (present lists ≡ []) ⊎ (merged (present lists) ≡ t)
merged_all t [] h all = inl refl
merged_all t (None ∷ lists) h all = merged_all t lists h all
merged_all t (Some names ∷ lists) h all = inr (go (merged_all t lists h all.1))
  where
    go : (present lists ≡ []) ⊎ (merged (present lists) ≡ t) → merged_into (merged (present lists)) names ≡ t
    go (inl e) = rw (e, ← all.0) (into_none t h)
    go (inr e) = rw (e, ← all.0) (into_whole t t h (λ x at. at))

-- A list is there.
not_none : (t : NameTable) (lists : List (Option NameTable)) → IsAmong lists (Some t) → present lists ≡ [] → ⊥
not_none t [] at e = at
not_none t (None ∷ lists) (inl same) e = absurd (cc)
not_none t (None ∷ lists) (inr at) e = not_none t lists at e
not_none t (Some names ∷ lists) at e = absurd (cc)

-- A list in order that all others are, is their merge.
pub is_merge : (t : NameTable) (lists : List (Option NameTable)) → Contains lists (Some t) → AreAll t lists → AreRising t → t ≡ merged (present lists)
is_merge t lists one all h = go (merged_all t lists h all)
  where
    go : (present lists ≡ []) ⊎ (merged (present lists) ≡ t) → t ≡ merged (present lists)
    go (inl e) = absurd (not_none t lists (among lists (Some t) one) e)
    go (inr e) = sym e
