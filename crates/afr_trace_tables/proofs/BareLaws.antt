-- What a change and a repair make of tables, they make of the same tables without numbers.
use Rattle.std.proofs.Common.{◌≡◌, ℕ, zero, suc, ◌&&◌, List, [], ◌∷◌, Option, Some, None, refl, sym, ap, ◌∙◌, Bool, true, false, cond, take}
use Rattle.std.specs.Prelude.{is_some, option_map}
use Rattle.std.specs.BTreeMap.{insert_entry, is_at}
use Rattle.std.specs.Map.{remove_entry, set_value}
use Rattle.std.specs.Ordering.{match_ordering}
use Rattle.std.specs.declared.cmp.Ordering.{Ordering}
use Rattle.std.specs.declared.cmp.Ordering.TheVariants.{Less, Equal, Greater}
use Rattle.std.proofs.lemmas.Map.Made.{lookup-map_values}
use Rattle.std.proofs.lemmas.Map.Steps.{set_value_same}
use Rattle.afr_base.specs.declared.ids.Gfid.{Gfid}
use Rattle.afr_base.specs.declared.ids.Kind.{Kind}
use Rattle.afr_base.specs.declared.ids.NameId.{NameId}
use Rattle.afr_base.specs.declared.ids.What.{What}
use Rattle.afr_base.specs.declared.ids.What.TheVariants.{File}
use Rattle.afr_base.specs.declared.marks.Marks.{Marks}
use Rattle.afr_object.specs.Bytes.{copied_in, written}
use Rattle.afr_object.specs.Object.{Object}
use Rattle.afr_object.specs.Repairs.{Contents, Bytes, Attrs, Names, all_made, mended, renamed, with_attrs}
use Rattle.afr_object.specs.Tables.{Table, applied, changed, copy_at, gfid_cmp, is_dir, is_file, linked, made, name_cmp, new_object, opening, opening_gfid, root, with_attr, with_bytes, with_copy, with_names, with_numbers}
use Rattle.afr_object.specs.declared.change.Change.{Change}
use Rattle.afr_object.specs.declared.change.Change.TheVariants.{Write, Cut, SetAttr, Make, Remove}
use Rattle.afr_object.specs.declared.change.Repair.{Repair}
use Rattle.afr_object.specs.declared.change.Repair.TheVariants as repair
use Rattle.afr_object.specs.declared.entry.Entry.{Entry}
use Rattle.afr_trace_tables.specs.Plain.{bare, bare_object}

-- ---- copies
pub copy_bare : (g : Gfid) (t : Table) → copy_at g (bare t) ≡ option_map bare_object (copy_at g t)
copy_bare g t = lookup-map_values bare_object (is_at (gfid_cmp g)) t

set_bare : (test : Gfid → Bool) (t : Table) (o : Object) → bare (set_value test t o) ≡ set_value test (bare t) (bare_object o)
set_bare test [] o = refl
set_bare test (e ∷ es) o = step (test e.0) (set_bare test es o)
  where
    step : (b : Bool) → bare (set_value test es o) ≡ set_value test (bare es) (bare_object o)
        → bare (cond b ((e.0, o) ∷ es) (e ∷ set_value test es o)) ≡ cond b ((e.0, bare_object o) ∷ bare es) ((e.0, bare_object e.1) ∷ set_value test (bare es) (bare_object o))
    step true h = refl
    step false h = ap (λ (t : Table). (e.0, bare_object e.1) ∷ t) h

-- what a change does to a copy, it does to the copy without numbers
abbrev Keeps : (Object → Object) → Type 0
Keeps f = (o : Object) → bare_object (f o) ≡ f (bare_object o)

changed_bare : (f : Object → Object) → Keeps f → (g : Gfid) (t : Table) → bare (changed f g (copy_at g t) t) ≡ changed f g (copy_at g (bare t)) (bare t)
changed_bare f h g t = step (copy_at g t) ∙ ap (λ (o : Option Object). changed f g o (bare t)) (sym (copy_bare g t))
  where
    step : (o : Option Object) → bare (changed f g o t) ≡ changed f g (option_map bare_object o) (bare t)
    step None = refl
    step (Some o) = set_bare (is_at (gfid_cmp g)) t (f o) ∙ ap (set_value (is_at (gfid_cmp g)) (bare t)) (h o)

-- numbers that change leave the rest as it is
pub numbers_bare : (kind : Kind) (f : Marks → Marks) (g : Gfid) (t : Table) → bare (changed (with_numbers kind f) g (copy_at g t) t) ≡ bare t
numbers_bare kind f g t = step (copy_at g t) (copy_bare g t)
  where
    step : (o : Option Object) → copy_at g (bare t) ≡ option_map bare_object o → bare (changed (with_numbers kind f) g o t) ≡ bare t
    step None e = refl
    step (Some o) e = set_bare (is_at (gfid_cmp g)) t (with_numbers kind f o) ∙ set_value_same (is_at (gfid_cmp g)) (bare t) (bare_object o) e

-- ---- new objects
insert_bare : (t : Table) (g : Gfid) (o : Object) → bare (insert_entry gfid_cmp t g o) ≡ insert_entry gfid_cmp (bare t) g (bare_object o)
insert_bare [] g o = refl
insert_bare (e ∷ es) g o = step (gfid_cmp g e.0) (insert_bare es g o)
  where
    step : (c : Ordering) → bare (insert_entry gfid_cmp es g o) ≡ insert_entry gfid_cmp (bare es) g (bare_object o)
        → bare (match_ordering c ((g, o) ∷ e ∷ es) ((e.0, o) ∷ es) (e ∷ insert_entry gfid_cmp es g o))
        ≡ match_ordering c ((g, bare_object o) ∷ (e.0, bare_object e.1) ∷ bare es) ((e.0, bare_object o) ∷ bare es) ((e.0, bare_object e.1) ∷ insert_entry gfid_cmp (bare es) g (bare_object o))
    step Less h = refl
    step Equal h = refl
    step Greater h = ap (λ (t : Table). (e.0, bare_object e.1) ∷ t) h

pub there_bare : (o : Option Object) → is_some (option_map bare_object o) ≡ is_some o
there_bare None = refl
there_bare (Some o) = refl

made_bare : (g : Gfid) (what : What) (t : Table) → bare (made g what t) ≡ made g what (bare t)
made_bare g what t = step (is_some (copy_at g t)) ∙ ap (λ (b : Bool). cond b (bare t) (insert_entry gfid_cmp (bare t) g (new_object what))) (sym (ap is_some (copy_bare g t) ∙ there_bare (copy_at g t)))
  where
    step : (b : Bool) → bare (cond b t (insert_entry gfid_cmp t g (new_object what))) ≡ cond b (bare t) (insert_entry gfid_cmp (bare t) g (new_object what))
    step true = refl
    step false = insert_bare t g (new_object what)

-- ---- what a change does to a copy
bytes_keep : (keeps : Bool) (f : List ℕ → List ℕ) → Keeps (with_bytes keeps f)
bytes_keep keeps f o = step (keeps && is_file o.what)
  where
    step : (b : Bool) → bare_object (cond b (record o { content = f o.content }) o) ≡ cond b (record (bare_object o) { content = f o.content }) (bare_object o)
    step true = refl
    step false = refl

names_keep : (f : List (NameId × Entry) → List (NameId × Entry)) → Keeps (with_names f)
names_keep f o = step (is_dir o.what)
  where
    step : (b : Bool) → bare_object (cond b (record o { names = f o.names }) o) ≡ cond b (record (bare_object o) { names = f o.names }) (bare_object o)
    step true = refl
    step false = refl

-- ---- changes
linked_bare : (dir : Gfid) (name : NameId) (g : Gfid) (what : What) (t : Table) → bare (linked dir name g what (copy_at dir t) t) ≡ linked dir name g what (copy_at dir (bare t)) (bare t)
linked_bare dir name g what t = step (copy_at dir t) ∙ ap (λ (o : Option Object). linked dir name g what o (bare t)) (sym (copy_bare dir t))
  where
    named : List (NameId × Entry) → List (NameId × Entry)
    named names = insert_entry name_cmp names name (record { gfid = g; what = what })

    step : (o : Option Object) → bare (linked dir name g what o t) ≡ linked dir name g what (option_map bare_object o) (bare t)
    step None = refl
    step (Some o) = made_bare g what (with_copy dir (with_names named o) t) ∙ ap (made g what) (set_bare (is_at (gfid_cmp dir)) t (with_names named o) ∙ ap (set_value (is_at (gfid_cmp dir)) (bare t)) (names_keep named o))

pub applied_bare : (keeps : Bool) (change : Change) (t : Table) → bare (applied keeps change t) ≡ applied keeps change (bare t)
applied_bare keeps (Write g at bytes) t = changed_bare (with_bytes keeps (written at bytes)) (bytes_keep keeps (written at bytes)) g t
applied_bare keeps (Cut g len) t = changed_bare (with_bytes keeps (take len)) (bytes_keep keeps (take len)) g t
applied_bare keeps (SetAttr g key value) t = changed_bare (with_attr key value) (λ o. refl) g t
applied_bare keeps (Make dir name g what) t = linked_bare dir name g what t
applied_bare keeps (Remove dir name what) t = changed_bare (with_names (remove_entry (is_at (name_cmp name)))) (names_keep (remove_entry (is_at (name_cmp name)))) dir t

pub opening_bare : (n : ℕ) → bare (opening n) ≡ opening n
opening_bare zero = refl
opening_bare (suc n) = applied_bare true (Make root (record { 0 = n }) (opening_gfid (suc n)) File) (opening n) ∙ ap (applied true (Make root (record { 0 = n }) (opening_gfid (suc n)) File)) (opening_bare n)

-- ---- repairs
all_made_bare : (names : List (NameId × Entry)) (t : Table) → bare (all_made names t) ≡ all_made names (bare t)
all_made_bare [] t = refl
all_made_bare (x ∷ more) t = made_bare x.1.gfid x.1.what (all_made more t) ∙ ap (made x.1.gfid x.1.what) (all_made_bare more t)

renamed_bare : (names : List (NameId × Entry)) (g : Gfid) (t : Table) → bare (renamed names g (copy_at g t) t) ≡ renamed names g (copy_at g (bare t)) (bare t)
renamed_bare names g t = step (copy_at g t) ∙ ap (λ (o : Option Object). renamed names g o (bare t)) (sym (copy_bare g t))
  where
    put : List (NameId × Entry) → List (NameId × Entry)
    put old = names

    step : (o : Option Object) → bare (renamed names g o t) ≡ renamed names g (option_map bare_object o) (bare t)
    step None = refl
    step (Some o) = all_made_bare names (with_copy g (with_names put o) t) ∙ ap (all_made names) (set_bare (is_at (gfid_cmp g)) t (with_names put o) ∙ ap (set_value (is_at (gfid_cmp g)) (bare t)) (names_keep put o))

pub mended_bare : (keeps : Bool) (r : Repair) (contents : Contents) (t : Table) → bare (mended keeps r contents t) ≡ mended keeps r contents (bare t)
mended_bare keeps (repair.CutTo g len) contents t = changed_bare (with_bytes keeps (take len)) (bytes_keep keeps (take len)) g t
mended_bare keeps (repair.Copy g at span read) (Bytes bytes) t = changed_bare (with_bytes keeps (copied_in at span bytes)) (bytes_keep keeps (copied_in at span bytes)) g t
mended_bare keeps (repair.PutAttrs g read) (Attrs attrs) t = changed_bare (with_attrs attrs) (λ o. refl) g t
mended_bare keeps (repair.PutNames g reads) (Names names) t = renamed_bare names g t
mended_bare keeps r contents t = refl
