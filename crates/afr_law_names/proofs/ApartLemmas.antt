-- Only directories have names, so no name leads to its own directory where it leads to a file.
use Rattle.std.proofs.Common.{◌≡◌, ℕ, suc, zero, Bool, true, false, ◌&&◌, refl, sym, ◌∙◌, ap, subst, arith, List, [], ◌∷◌, Option, None, Some, ◌==◌, if◌then◌else◌, take}
use Rattle.std.proofs.lemmas.Option.{same_Some}
use Rattle.std.specs.BTreeMap.{is_at, insert_entry}
use Rattle.std.specs.Map.{lookup, remove_entry}
use Rattle.std.proofs.lemmas.Bool.{ne_eqb}
use Rattle.afr_base.specs.Marks.{dirtied, closed_op, taken_back}
use Rattle.afr_base.specs.declared.ids.Gfid.{Gfid}
use Rattle.afr_base.specs.declared.ids.Kind.{Kind}
use Rattle.afr_base.specs.declared.ids.NameId.{NameId}
use Rattle.afr_base.specs.declared.ids.What.{What}
use Rattle.afr_base.specs.declared.ids.What.TheVariants.{File, Dir}
use Rattle.afr_base.specs.declared.marks.Marks.{Marks}
use Rattle.afr_object.specs.TablesLemmas.{same_gfid}
use Rattle.afr_object.specs.Bytes.{copied_in, written}
use Rattle.afr_object.specs.Repairs.{Contents, Bytes, Attrs, Names, mended, renamed, with_attrs}
use Rattle.afr_object.specs.Tables.{Table, applied, changed, copy_at, is_dir, is_file, linked, name_cmp, new_object, opening, opening_gfid, root, with_attr, with_bytes, with_copy, with_names, with_numbers}
use Rattle.afr_object.specs.declared.change.Change.{Change}
use Rattle.afr_object.specs.declared.change.Change.TheVariants.{Write, Cut, SetAttr, Make, Remove}
use Rattle.afr_object.specs.declared.change.Repair.{Repair}
use Rattle.afr_object.specs.declared.change.Repair.TheVariants.{CutTo, Copy, PutAttrs, PutNames}
use Rattle.afr_object.specs.Object.{Object}
use Rattle.afr_lines.specs.Log.{change_at}
use Rattle.afr_lines.specs.declared.line.Line.{Line}
use Rattle.afr_lines.specs.declared.line.Line.TheVariants.{Ask}
use Rattle.afr_lines.specs.declared.request.Request.{Request}
use Rattle.afr_lines.specs.declared.request.Request.TheVariants.{Pre, Apply, Post, Mend, Settle}
use Rattle.afr_model.specs.Tables.{Past, asked, carried, effect, entry_in, held_before, holds, keeps_bytes, step}
use Rattle.afr_plan.specs.declared.plan.Plan.{Plan}
use Rattle.afr_law.specs.ModelKinds.{ModelOneKind, Now}
use Rattle.afr_law_tables.proofs.Merged.{NameTable}
use Rattle.afr_law_tables.proofs.Sound.{EachCopy, each_all_made, each_changed, each_made}
use Rattle.afr_law_tables.specs.CopyLaws.{gfid_is}
use Rattle.afr_law_names.specs.Apart.{FilesElsewhere, OnlyDirectoriesHaveNames}

-- a file has no names
abbrev IsApart : Object → Type 0
IsApart o = is_dir o.what ≡ false → o.names ≡ []

new_apart : (what : What) → IsApart (new_object what)
new_apart what e = refl

bytes_apart : (keeps : Bool) (f : List ℕ → List ℕ) (o : Object) → IsApart o → IsApart (with_bytes keeps f o)
bytes_apart keeps f o h = go (keeps && is_file o.what)
  where
    go : (b : Bool) → IsApart (if b then record o { content = f o.content } else o)
    go true = h
    go false = h

names_apart : (f : NameTable → NameTable) (o : Object) → IsApart o → IsApart (with_names f o)
names_apart f o h = go (is_dir o.what) refl
  where
    go : (b : Bool) → is_dir o.what ≡ b → IsApart (if b then record o { names = f o.names } else o)
    go true e = λ k. absurd (cc (e, k))
    go false e = h

linked_apart : (dir : Gfid) (name : NameId) (g : Gfid) (what : What) (t : Table) → EachCopy IsApart t → EachCopy IsApart (linked dir name g what (copy_at dir t) t)
linked_apart dir name g what t all = go (copy_at dir t) refl
  where
    f : NameTable → NameTable
    f names = insert_entry name_cmp names name (record { gfid = g; what = what })

    go : (o : Option Object) → copy_at dir t ≡ o → EachCopy IsApart (linked dir name g what o t)
    go None e = all
    go (Some o) e = each_made IsApart new_apart g what (with_copy dir (with_names f o) t) (subst (λ (x : Option Object). EachCopy IsApart (changed (with_names f) dir x t)) e (each_changed IsApart (with_names f) (names_apart f) dir t all))

applied_apart : (keeps : Bool) (change : Change) (t : Table) → EachCopy IsApart t → EachCopy IsApart (applied keeps change t)
applied_apart keeps (Write g at bytes) t all = each_changed IsApart _ (bytes_apart keeps (written at bytes)) g t all
applied_apart keeps (Cut g len) t all = each_changed IsApart _ (bytes_apart keeps (take len)) g t all
applied_apart keeps (SetAttr g key value) t all = each_changed IsApart (with_attr key value) (λ o h. h) g t all
applied_apart keeps (Remove dir name what) t all = each_changed IsApart _ (names_apart (remove_entry (is_at (name_cmp name)))) dir t all
applied_apart keeps (Make dir name g what) t all = linked_apart dir name g what t all

renamed_apart : (names : NameTable) (g : Gfid) (t : Table) → EachCopy IsApart t → EachCopy IsApart (renamed names g (copy_at g t) t)
renamed_apart names g t all = go (copy_at g t) refl
  where
    f : NameTable → NameTable
    f old = names

    go : (o : Option Object) → copy_at g t ≡ o → EachCopy IsApart (renamed names g o t)
    go None e = all
    go (Some o) e = each_all_made IsApart new_apart names (with_copy g (with_names f o) t) (subst (λ (x : Option Object). EachCopy IsApart (changed (with_names f) g x t)) e (each_changed IsApart (with_names f) (names_apart f) g t all))

mended_apart : (keeps : Bool) (repair : Repair) (contents : Contents) (t : Table) → EachCopy IsApart t → EachCopy IsApart (mended keeps repair contents t)
mended_apart keeps (CutTo g len) contents t all = each_changed IsApart _ (bytes_apart keeps (take len)) g t all
mended_apart keeps (Copy g at span read) (Bytes bytes) t all = each_changed IsApart _ (bytes_apart keeps (copied_in at span bytes)) g t all
mended_apart keeps (PutAttrs g read) (Attrs attrs) t all = each_changed IsApart (with_attrs attrs) (λ o h. h) g t all
mended_apart keeps (PutNames g reads) (Names names) t all = renamed_apart names g t all
mended_apart keeps repair contents t all = all

numbers_apart : (g : Gfid) (t : Table) (kind : Kind) (f : Marks → Marks) → EachCopy IsApart t → EachCopy IsApart (changed (with_numbers kind f) g (copy_at g t) t)
numbers_apart g t kind f all = each_changed IsApart (with_numbers kind f) (λ o k. k) g t all

asked_apart : (keeps : Bool) (r : Request) (older : List Line) (past : Past) (t : Table) → EachCopy IsApart t → EachCopy IsApart (asked keeps r older past t)
asked_apart keeps (Apply attempt) older past t all = go (change_at attempt older)
  where
    go : (change : Option Change) → EachCopy IsApart (effect keeps change t)
    go None = all
    go (Some change) = applied_apart keeps change t all
asked_apart keeps (Mend repair) older past t all = mended_apart keeps repair (carried past older repair) t all
asked_apart keeps (Pre g kind) older past t all = numbers_apart g t kind dirtied all
asked_apart keeps (Post attempt g kind missed) older past t all = numbers_apart g t kind (closed_op missed) all
asked_apart keeps (Settle g kind less) older past t all = numbers_apart g t kind (taken_back less) all
asked_apart keeps r older past t all = all

step_apart : (p : Plan) (line : Line) (b : ℕ) (older : List Line) (past : Past) (t : Table) → EachCopy IsApart t → EachCopy IsApart (step p line b older past t)
step_apart p (Ask a y r told took) b older past t all = go took (y.0 == b)
  where
    go : (f here : Bool) → EachCopy IsApart (if f then (if here then asked (keeps_bytes p b) r older past t else t) else t)
    go true true = asked_apart (keeps_bytes p b) r older past t all
    go true false = all
    go false here = all
step_apart p line b older past t all = all

root_apart : EachCopy IsApart ((root, new_object Dir) ∷ [])
root_apart q w h = split (q.0 == 1) (subst (λ (b : Bool). (if b then Some (new_object Dir) else None) ≡ Some w) (same_gfid q root) h)
  where
    split : (same : Bool) → (if same then Some (new_object Dir) else None) ≡ Some w → IsApart w
    split true k = subst IsApart (same_Some (new_object Dir) w k) (new_apart Dir)
    split false k = absurd (cc k)

opening_apart : (files : ℕ) → EachCopy IsApart (opening files)
opening_apart zero = root_apart
opening_apart (suc i) = linked_apart root (record { 0 = i }) (opening_gfid (suc i)) File (opening i) (opening_apart i)

all_apart : (p : Plan) (log : List Line) (b : ℕ) → EachCopy IsApart (holds p log b)
all_apart p [] b = opening_apart p.files
all_apart p (line ∷ older) b = step_apart p line b older (held_before p older) (holds p older b) (all_apart p older b)

pub only_directories : OnlyDirectoriesHaveNames
only_directories p log b g o h = all_apart p log b g o h

-- ---- a file's name
pub files_elsewhere : ModelOneKind → FilesElsewhere
files_elsewhere kinds p log b dir name e five short honest lawful is file = go (copy_at dir (holds p log b)) refl
  where
    no_names : (o : Object) → o.names ≡ [] → entry_in name (Some o) ≡ Some e → ⊥
    no_names o none h = absurd (cc (sym (ap (λ (names : NameTable). lookup (is_at (name_cmp name)) names) none) ∙ h))

    no_file : (w : What) → is_dir w ≡ true → w ≡ File → ⊥
    no_file File d f = cc d
    no_file Dir d f = cc f

    there : (o : Object) → copy_at dir (holds p log b) ≡ Some o → (dirs : Bool) → is_dir o.what ≡ dirs → e.gfid.0 ≡ dir.0 → ⊥
    there o at false k same = no_names o (all_apart p log b dir o at k) (subst (λ (x : Option Object). entry_in name x ≡ Some e) at is)
    there o at true k same =
        no_file o.what k
        ((kinds p log five short honest lawful).entries (holds p log b) (holds p log b) (Now b refl) (Now b refl) dir name e o is (subst (λ (g : Gfid). copy_at g (holds p log b) ≡ Some o) (sym (gfid_is e.gfid dir same)) at) ∙ file)

    go : (o : Option Object) → copy_at dir (holds p log b) ≡ o → (e.gfid.0 == dir.0) ≡ false
    go None at = absurd (cc (sym (ap (entry_in name) at) ∙ is))
    go (Some o) at = ne_eqb e.gfid.0 dir.0 (there o at (is_dir o.what) refl)
