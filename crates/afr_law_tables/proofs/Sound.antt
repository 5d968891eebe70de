-- Every copy is sound: its names rise and are below a bound, and its bytes end where ranges end.
use Rattle.std.proofs.Common.{◌≡◌, ℕ, suc, zero, ◌+◌, ◌<◌, ◌≤◌, ◌^◌, max, Bool, true, false, ◌&&◌, refl, sym, ◌∙◌, subst, arith, List, [], ◌∷◌, length, Option, None, Some, ◌==◌, if◌then◌else◌, take, length-take}
use Rattle.std.specs.Prelude.{is_some}
use Rattle.std.specs.Option.{option_map}
use Rattle.std.specs.BTreeMap.{is_at, insert_entry}
use Rattle.std.specs.Map.{remove_entry}
use Rattle.afr_base.specs.declared.ids.Gfid.{Gfid}
use Rattle.afr_base.specs.declared.ids.NameId.{NameId}
use Rattle.afr_base.specs.declared.ids.What.{What}
use Rattle.afr_base.specs.declared.ids.What.TheVariants.{File, Dir}
use Rattle.afr_object.specs.Bytes.{copied_in, written}
use Rattle.afr_object.specs.BytesLemmas.{length-copied_in, length-written}
use Rattle.afr_object.specs.Repairs.{Contents, Bytes, Attrs, Names, all_made, mended, renamed, with_attrs}
use Rattle.afr_object.specs.Tables.{Table, copy_at, changed, with_copy, with_bytes, with_attr, with_names, made, linked, applied, new_object, opening, opening_gfid, root, is_file, is_dir, name_cmp}
use Rattle.afr_object.specs.declared.change.Change.{Change}
use Rattle.afr_object.specs.declared.change.Change.TheVariants.{Write, Cut, SetAttr, Make, Remove}
use Rattle.afr_object.specs.declared.change.Repair.{Repair}
use Rattle.afr_object.specs.declared.change.Repair.TheVariants.{CutTo, Copy, PutAttrs, PutNames}
use Rattle.afr_object.specs.Object.{Object}
use Rattle.afr_object.specs.TablesLemmas.{same_gfid, copy_at-changed, copy_at-made}
use Rattle.afr_law_tables.proofs.Names.{AreRising, rising_inserted, rising_removed}
use Rattle.afr_law_tables.specs.Ends.{EndsInTime}
use Rattle.afr_law_tables.proofs.Merged.{NameTable, AreBelow, below_inserted, below_removed}
use Rattle.std.proofs.lemmas.Option.{same_Some}

-- ---- what holds of every copy
abbrev pub EachCopy : (Object → Type 0) → Table → Type 0
EachCopy P t = (g : Gfid) (o : Object) → copy_at g t ≡ Some o → P o

pub each_changed : (P : Object → Type 0) (f : Object → Object) → ((o : Object) → P o → P (f o)) → (g : Gfid) (t : Table) → EachCopy P t → EachCopy P (changed f g (copy_at g t) t)
each_changed P f keep g t all q w h = split (g.0 == q.0) (sym (copy_at-changed f g q t) ∙ h)
  where
    mapped : (o : Option Object) → copy_at g t ≡ o → option_map f o ≡ Some w → P w
    mapped None e k = absurd (cc k)
    mapped (Some o) e k = subst P (same_Some (f o) w k) (keep o (all g o e))

    split : (same : Bool) → (if same then option_map f (copy_at g t) else copy_at q t) ≡ Some w → P w
    split true k = mapped (copy_at g t) refl k
    split false k = all q w k

pub each_made : (P : Object → Type 0) → ((what : What) → P (new_object what)) → (g : Gfid) (what : What) (t : Table) → EachCopy P t → EachCopy P (made g what t)
each_made P new g what t all q w h = split (is_some (copy_at g t)) (g.0 == q.0) (sym (copy_at-made g q what t) ∙ h)
  where
    split : (there same : Bool) → (if there then copy_at q t else (if same then Some (new_object what) else copy_at q t)) ≡ Some w → P w
    split true same k = all q w k
    split false true k = subst P (same_Some (new_object what) w k) (new what)
    split false false k = all q w k

pub each_all_made : (P : Object → Type 0) → ((what : What) → P (new_object what)) → (names : NameTable) (t : Table) → EachCopy P t → EachCopy P (all_made names t)
each_all_made P new [] t all = all
each_all_made P new (x ∷ more) t all = each_made P new x.1.gfid x.1.what (all_made more t) (each_all_made P new more t all)

-- ---- sound copies
-- a new name is below n
abbrev pub NameFits : ℕ → Change → Type 0
NameFits n (Make dir name g what) = name.0 < n
NameFits n change = Unit {0}

-- its names rise and are below n, and its bytes end where ranges end
abbrev pub IsSound : ℕ → Object → Type 0
IsSound n o = AreRising o.names × AreBelow n o.names × (length o.content ≤ 2 ^ 63)

module _ (n : ℕ) where
  sound_new : (what : What) → IsSound n (new_object what)
  sound_new what = (tt, tt, omega arith)

  sound_bytes : (keeps : Bool) (f : List ℕ → List ℕ) → ((old : List ℕ) → length old ≤ 2 ^ 63 → length (f old) ≤ 2 ^ 63) → (o : Object) → IsSound n o → IsSound n (with_bytes keeps f o)
  sound_bytes keeps f keep o h = go (keeps && is_file o.what)
    where
      go : (b : Bool) → IsSound n (if b then record o { content = f o.content } else o)
      go true = (h.0, h.1, keep o.content h.2)
      go false = h

  sound_names : (f : NameTable → NameTable) → ((t : NameTable) → AreRising t → AreBelow n t → AreRising (f t) × AreBelow n (f t)) → (o : Object) → IsSound n o → IsSound n (with_names f o)
  sound_names f keep o h = go (is_dir o.what)
    where
      go : (b : Bool) → IsSound n (if b then record o { names = f o.names } else o)
      go true = (let k = keep o.names h.0 h.1 in (k.0, k.1, h.2))
      go false = h

  short_written : (at : ℕ) (bytes old : List ℕ) → (0 < length bytes → at + length bytes ≤ 2 ^ 63) → length old ≤ 2 ^ 63 → length (written at bytes old) ≤ 2 ^ 63
  short_written at [] old ends h = h
  short_written at (b ∷ bytes) old ends h =
      let is : length (written at (b ∷ bytes) old) ≡ max (length old) (at + length (b ∷ bytes)) = length-written at (b ∷ bytes) old (omega arith) in
      let low : at + length (b ∷ bytes) ≤ 2 ^ 63 = ends (omega arith) in
      omega (arith, is, low, h)

  sound_linked : (dir : Gfid) (name : NameId) (g : Gfid) (what : What) (t : Table) → name.0 < n → EachCopy (IsSound n) t → EachCopy (IsSound n) (linked dir name g what (copy_at dir t) t)
  sound_linked dir name g what t low all = go (copy_at dir t) refl
    where
      f : NameTable → NameTable
      f names = insert_entry name_cmp names name (record { gfid = g; what = what })

      keep : (s : NameTable) → AreRising s → AreBelow n s → AreRising (f s) × AreBelow n (f s)
      keep s h k = (rising_inserted name (record { gfid = g; what = what }) s h, below_inserted n name (record { gfid = g; what = what }) s low k)

      go : (o : Option Object) → copy_at dir t ≡ o → EachCopy (IsSound n) (linked dir name g what o t)
      go None e = all
      go (Some o) e = each_made (IsSound n) sound_new g what (with_copy dir (with_names f o) t) (subst (λ (x : Option Object). EachCopy (IsSound n) (changed (with_names f) dir x t)) e (each_changed (IsSound n) (with_names f) (sound_names f keep) dir t all))

  -- a change that fits leaves every copy sound
  pub sound_applied : (keeps : Bool) (change : Change) (t : Table) → EndsInTime change → NameFits n change → EachCopy (IsSound n) t → EachCopy (IsSound n) (applied keeps change t)
  sound_applied keeps (Write g at bytes) t ends low all = each_changed (IsSound n) _ (sound_bytes keeps (written at bytes) (λ old h. short_written at bytes old (λ some. ends) h)) g t all
  sound_applied keeps (Cut g len) t ends low all = each_changed (IsSound n) _ (sound_bytes keeps (take len) (λ old h. omega (arith, h, length-take len old))) g t all
  sound_applied keeps (SetAttr g key value) t ends low all = each_changed (IsSound n) (with_attr key value) (λ o h. h) g t all
  sound_applied keeps (Remove dir name what) t ends low all =
      each_changed (IsSound n) _ (sound_names (remove_entry (is_at (name_cmp name))) (λ s h k. (rising_removed (is_at (name_cmp name)) s h, below_removed n (is_at (name_cmp name)) s k))) dir t all
  sound_applied keeps (Make dir name g what) t ends low all = sound_linked dir name g what t low all

  -- what a repair carries keeps copies sound
  abbrev pub CarriesSound : Repair → Contents → Type 0
  CarriesSound (Copy g at span read) (Bytes bytes) = 0 < length bytes → at + length bytes ≤ 2 ^ 63
  CarriesSound (PutNames g reads) (Names names) = AreRising names × AreBelow n names
  CarriesSound repair contents = Unit {0}

  sound_renamed : (names : NameTable) (g : Gfid) (t : Table) → AreRising names × AreBelow n names → EachCopy (IsSound n) t → EachCopy (IsSound n) (renamed names g (copy_at g t) t)
  sound_renamed names g t fit all = go (copy_at g t) refl
    where
      f : NameTable → NameTable
      f old = names

      go : (o : Option Object) → copy_at g t ≡ o → EachCopy (IsSound n) (renamed names g o t)
      go None e = all
      go (Some o) e = each_all_made (IsSound n) sound_new names (with_copy g (with_names f o) t) (subst (λ (x : Option Object). EachCopy (IsSound n) (changed (with_names f) g x t)) e (each_changed (IsSound n) (with_names f) (sound_names f (λ s h k. fit)) g t all))

  short_copied : (at span : ℕ) (bytes old : List ℕ) → (0 < length bytes → at + length bytes ≤ 2 ^ 63) → length old ≤ 2 ^ 63 → length (copied_in at span bytes old) ≤ 2 ^ 63
  short_copied at span bytes old ends h = omega (arith, length-copied_in at span bytes old, short_written at bytes old ends h)

  -- a repair leaves every copy sound
  pub sound_mended : (keeps : Bool) (repair : Repair) (contents : Contents) (t : Table) → CarriesSound repair contents → EachCopy (IsSound n) t → EachCopy (IsSound n) (mended keeps repair contents t)
  sound_mended keeps (CutTo g len) contents t fit all = each_changed (IsSound n) _ (sound_bytes keeps (take len) (λ old h. omega (arith, h, length-take len old))) g t all
  sound_mended keeps (Copy g at span read) (Bytes bytes) t fit all = each_changed (IsSound n) _ (sound_bytes keeps (copied_in at span bytes) (λ old h. short_copied at span bytes old fit h)) g t all
  sound_mended keeps (PutAttrs g read) (Attrs attrs) t fit all = each_changed (IsSound n) (with_attrs attrs) (λ o h. h) g t all
  sound_mended keeps (PutNames g reads) (Names names) t fit all = sound_renamed names g t fit all
  sound_mended keeps repair contents t fit all = all

  sound_root : EachCopy (IsSound n) ((root, new_object Dir) ∷ [])
  sound_root q w h = split (q.0 == 1) (subst (λ (b : Bool). (if b then Some (new_object Dir) else None) ≡ Some w) (same_gfid q root) h)
    where
      split : (same : Bool) → (if same then Some (new_object Dir) else None) ≡ Some w → IsSound n w
      split true k = subst (IsSound n) (same_Some (new_object Dir) w k) (sound_new Dir)
      split false k = absurd (cc k)

  -- opening files are sound
  pub sound_opening : (files : ℕ) → files ≤ n → EachCopy (IsSound n) (opening files)
  sound_opening zero low = sound_root
  sound_opening (suc i) low = sound_linked root (record { 0 = i }) (opening_gfid (suc i)) File (opening i) (omega (arith, low)) (sound_opening i (omega (arith, low)))
