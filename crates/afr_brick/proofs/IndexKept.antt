-- The index that a brick keeps is right after each call.
use Rattle.std.proofs.Common.{◌≡◌, ℕ, Bool, true, false, List, [], ◌∷◌, Option, Some, None, Result, Ok, Err, refl, sym, ap, ◌∙◌, arith, ◌==◌, ◌&&◌, if◌then◌else◌, take}
use Rattle.std.proofs.lemmas.Bool.Decides.{nat_tests}
use Rattle.std.specs.Prelude.{OnOk, OnErr, option_map}
use Rattle.std.specs.BTreeMap.{is_at, insert_entry}
use Rattle.std.specs.List.Sorted.{IsStrictlySortedBy}
use Rattle.std.specs.Map.{keys_of, remove_entry}
use Rattle.afr_base.specs.Marks.{is_no_marks}
use Rattle.afr_base.specs.declared.ids.Gfid.{Gfid}
use Rattle.afr_base.specs.declared.ids.NameId.{NameId}
use Rattle.afr_base.specs.declared.ids.What.{What}
use Rattle.afr_object.specs.Bytes.{copied_in, written}
use Rattle.afr_index.specs.Listed.{Listed}
use Rattle.afr_object.specs.Indexed.{index_of}
use Rattle.afr_object.specs.Repairs.{Contents, all_made, mended, renamed, with_attrs}
use Rattle.afr_object.specs.Repairs as contents
use Rattle.afr_object.specs.Tables.{Table, applied, changed, copy_at, gfid_cmp, is_dir, is_file, linked, name_cmp, with_attr, with_bytes, with_copy, with_names}
use Rattle.afr_object.specs.declared.change.Change.{Change}
use Rattle.afr_object.specs.declared.change.Change.TheVariants.{Write, Cut, SetAttr, Make, Remove}
use Rattle.afr_object.specs.declared.change.Repair.{Repair}
use Rattle.afr_object.specs.declared.change.Repair.TheVariants.{CutTo, Copy, PutAttrs, PutNames}
use Rattle.afr_object.specs.declared.entry.Entry.{Entry}
use Rattle.afr_object.specs.Object.{Object}
use Rattle.afr_brick.specs.Followed.{Follows, IsIndexOf, relisted}
use Rattle.afr_object.specs.State.{Copies}
use Rattle.afr_object.specs.TablesLemmas.{copy_at-changed}
use Rattle.afr_brick.proofs.IndexLemmas.{index_of-changed, index_of-made, index_of-relisted, index_of-with_copy}

-- A change of bytes or of names leaves the kind and the numbers.
marks_with_bytes : (keeps : Bool) (f : List ℕ → List ℕ) (o : Object) → (with_bytes keeps f o).marks ≡ o.marks
marks_with_bytes keeps f o = by_test (keeps && is_file o.what)
  where
    by_test : (b : Bool) → (if b then record o { content = f o.content } else o).marks ≡ o.marks
    by_test true = refl
    by_test false = refl

what_with_bytes : (keeps : Bool) (f : List ℕ → List ℕ) (o : Object) → (with_bytes keeps f o).what ≡ o.what
what_with_bytes keeps f o = by_test (keeps && is_file o.what)
  where
    by_test : (b : Bool) → (if b then record o { content = f o.content } else o).what ≡ o.what
    by_test true = refl
    by_test false = refl

marks_with_names : (f : List (NameId × Entry) → List (NameId × Entry)) (o : Object) → (with_names f o).marks ≡ o.marks
marks_with_names f o = by_test (is_dir o.what)
  where
    by_test : (b : Bool) → (if b then record o { names = f o.names } else o).marks ≡ o.marks
    by_test true = refl
    by_test false = refl

what_with_names : (f : List (NameId × Entry) → List (NameId × Entry)) (o : Object) → (with_names f o).what ≡ o.what
what_with_names f o = by_test (is_dir o.what)
  where
    by_test : (b : Bool) → (if b then record o { names = f o.names } else o).what ≡ o.what
    by_test true = refl
    by_test false = refl

bytes_changed : (keeps : Bool) (f : List ℕ → List ℕ) (g : Gfid) (t : Table) → index_of (changed (with_bytes keeps f) g (copy_at g t) t) ≡ index_of t
bytes_changed keeps f g t = index_of-changed (with_bytes keeps f) g t (marks_with_bytes keeps f) (what_with_bytes keeps f)

-- Neither a new name nor the object that it names is listed.
pub index_of-linked : (dir : Gfid) (name : NameId) (g : Gfid) (what : What) (t : Table) → index_of (linked dir name g what (copy_at dir t) t) ≡ index_of t
index_of-linked dir name g what t = by_copy (copy_at dir t) refl
  where
    by_copy : (o : Option Object) → copy_at dir t ≡ o → index_of (linked dir name g what o t) ≡ index_of t
    by_copy None e = refl
    by_copy (Some o) e =
        let more : List (NameId × Entry) → List (NameId × Entry) = λ names. insert_entry name_cmp names name (record { gfid = g; what = what }) in
        index_of-made g what (with_copy dir (with_names more o) t) ∙ index_of-with_copy dir (with_names more o) o t e (ap is_no_marks (marks_with_names more o)) (what_with_names more o)

-- A change leaves the index.
pub index_of-applied : (keeps : Bool) (change : Change) (t : Table) → index_of (applied keeps change t) ≡ index_of t
index_of-applied keeps (Write g at bytes) t = bytes_changed keeps (written at bytes) g t
index_of-applied keeps (Cut g len) t = bytes_changed keeps (take len) g t
index_of-applied keeps (SetAttr g key value) t = index_of-changed (with_attr key value) g t (λ o. refl) (λ o. refl)
index_of-applied keeps (Make dir name g what) t = index_of-linked dir name g what t
index_of-applied keeps (Remove dir name what) t = index_of-changed (with_names (remove_entry (is_at (name_cmp name)))) dir t (marks_with_names _) (what_with_names _)

-- The objects that names stand for aren't listed as they are made.
index_of-all_made : (names : List (NameId × Entry)) (t : Table) → index_of (all_made names t) ≡ index_of t
index_of-all_made [] t = refl
index_of-all_made (x ∷ names) t = index_of-made x.1.gfid x.1.what (all_made names t) ∙ index_of-all_made names t

index_of-renamed : (names : List (NameId × Entry)) (g : Gfid) (t : Table) → index_of (renamed names g (copy_at g t) t) ≡ index_of t
index_of-renamed names g t = by_copy (copy_at g t) refl
  where
    by_copy : (o : Option Object) → copy_at g t ≡ o → index_of (renamed names g o t) ≡ index_of t
    by_copy None e = refl
    by_copy (Some o) e =
        let given : List (NameId × Entry) → List (NameId × Entry) = λ old. names in
        index_of-all_made names (with_copy g (with_names given o) t) ∙ index_of-with_copy g (with_names given o) o t e (ap is_no_marks (marks_with_names given o)) (what_with_names given o)

-- A repair leaves the index.
pub index_of-mended : (keeps : Bool) (repair : Repair) (load : Contents) (t : Table) → index_of (mended keeps repair load t) ≡ index_of t
index_of-mended keeps (CutTo g len) load t = bytes_changed keeps (take len) g t
index_of-mended keeps (Copy g at span read) contents.Nothing t = refl
index_of-mended keeps (Copy g at span read) (contents.Bytes bytes) t = bytes_changed keeps (copied_in at span bytes) g t
index_of-mended keeps (Copy g at span read) (contents.Attrs attrs) t = refl
index_of-mended keeps (Copy g at span read) (contents.Names names) t = refl
index_of-mended keeps (PutAttrs g read) contents.Nothing t = refl
index_of-mended keeps (PutAttrs g read) (contents.Bytes bytes) t = refl
index_of-mended keeps (PutAttrs g read) (contents.Attrs attrs) t = index_of-changed (with_attrs attrs) g t (λ o. refl) (λ o. refl)
index_of-mended keeps (PutAttrs g read) (contents.Names names) t = refl
index_of-mended keeps (PutNames g reads) contents.Nothing t = refl
index_of-mended keeps (PutNames g reads) (contents.Bytes bytes) t = refl
index_of-mended keeps (PutNames g reads) (contents.Attrs attrs) t = refl
index_of-mended keeps (PutNames g reads) (contents.Names names) t = index_of-renamed names g t

-- An index is right for tables that list the same.
pub same_index : (old new : Table) (index : Option Listed) → index_of new ≡ index_of old → IsIndexOf old index → IsIndexOf new index
same_index old new None e h = h
same_index old new (Some listed) e h = h ∙ sym e

-- A call that leaves the index of the tables, or the tables themselves, leaves the index right.
pub index_stays : {A E : Type 0} (r : Result A E) (old new after : Copies) (index : Option Listed) → OnOk r (new ≡ after) → OnErr r (new ≡ old) → index_of after.objects ≡ index_of old.objects → IsIndexOf old.objects index → IsIndexOf new.objects index
index_stays (Ok x) old new after index ok err e h = rw ok (same_index old.objects after.objects index e h)
index_stays (Err x) old new after index ok err e h = rw err h

-- An index that follows a copy whose numbers have changed is right again.
pub index_follows : (f : Object → Object) (g : Gfid) (t : Table) (old new : Option Listed) → IsStrictlySortedBy gfid_cmp (keys_of t) → IsIndexOf t old → Follows g (copy_at g (changed f g (copy_at g t) t)) old new → IsIndexOf (changed f g (copy_at g t) t) new
index_follows f g t old new s h k = by_copy (copy_at g t) refl (rw (copy_at-changed f g g t, itself) at k)
  where
    itself : (g.0 == g.0) ≡ true
    itself = grind (arith, nat_tests)

    pick : (o : Object) (old new : Option Listed) → copy_at g t ≡ Some o → IsIndexOf t old → Follows g (Some (f o)) old new → IsIndexOf (with_copy g (f o) t) new
    pick o old None e h k = tt
    pick o None (Some listed) e h k = absurd (cc)
    pick o (Some before) (Some listed) e h k =
        let same : relisted g (f o) before ≡ listed = cc in
        sym same ∙ ap (relisted g (f o)) h ∙ index_of-relisted g (f o) o t s e

    by_copy : (o : Option Object) → copy_at g t ≡ o → Follows g (option_map f o) old new → IsIndexOf (changed f g o t) new
    by_copy None e k = rw k h
    by_copy (Some o) e k = pick o old new e h k
