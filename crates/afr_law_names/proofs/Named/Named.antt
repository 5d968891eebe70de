-- In the tables of any log each name leads to an object that is there.
use Rattle.std.proofs.Common.{◌≡◌, ℕ, zero, suc, Bool, true, false, cond, ◌&&◌, refl, ◌∙◌, subst, ap, List, [], ◌∷◌, Option, None, Some, ◌==◌, if◌then◌else◌, take}
use Rattle.std.specs.Prelude.{is_some}
use Rattle.std.specs.BTreeMap.{is_at, insert_entry}
use Rattle.std.specs.Map.{lookup, remove_entry}
use Rattle.afr_base.specs.Marks.{dirtied, closed_op, taken_back}
use Rattle.afr_base.specs.declared.ids.Gfid.{Gfid}
use Rattle.afr_base.specs.declared.ids.Kind.{Kind}
use Rattle.afr_base.specs.declared.ids.NameId.{NameId}
use Rattle.afr_base.specs.declared.ids.What.{What}
use Rattle.afr_base.specs.declared.ids.What.TheVariants.{File, Dir}
use Rattle.afr_base.specs.declared.marks.Marks.{Marks}
use Rattle.afr_object.specs.Bytes.{copied_in, written}
use Rattle.afr_object.specs.Repairs.{Contents, Bytes, Attrs, Names, all_made, mended, renamed, with_attrs}
use Rattle.afr_object.specs.Tables.{Table, applied, changed, copy_at, is_dir, is_file, linked, made, name_cmp, new_object, opening, opening_gfid, root, with_attr, with_bytes, with_copy, with_names, with_numbers}
use Rattle.afr_object.specs.declared.change.Change.{Change}
use Rattle.afr_object.specs.declared.change.Change.TheVariants.{Write, Cut, SetAttr, Make, Remove}
use Rattle.afr_object.specs.declared.change.Repair.{Repair}
use Rattle.afr_object.specs.declared.change.Repair.TheVariants.{CutTo, Copy, PutAttrs, PutNames}
use Rattle.afr_object.specs.declared.entry.Entry.{Entry}
use Rattle.afr_object.specs.Object.{Object}
use Rattle.afr_lines.specs.Log.{change_at}
use Rattle.afr_lines.specs.declared.line.Line.{Line}
use Rattle.afr_lines.specs.declared.line.Line.TheVariants.{Ask}
use Rattle.afr_lines.specs.declared.request.Request.{Request}
use Rattle.afr_lines.specs.declared.request.Request.TheVariants.{Pre, Apply, Post, Mend, Settle}
use Rattle.afr_plan.specs.declared.plan.Plan.{Plan}
use Rattle.afr_object.specs.TablesLemmas.{copy_at-made, same_gfid}
use Rattle.afr_model.specs.Sums.{has_object}
use Rattle.afr_model.specs.Tables.{Past, asked, carried, effect, entry_in, held_before, holds, keeps_bytes, step}
use Rattle.afr_model_moves.proofs.Tests.{same_self}
use Rattle.afr_law_tables.proofs.Merged.{NameTable}
use Rattle.afr_law_tables.proofs.Names.{by_order}
use Rattle.afr_law_tables.proofs.Sound.{each_all_made}
use Rattle.afr_law_tables.specs.CopyLaws.{EachCopy, HasAll, each_changed, each_made, some_is, stays_changed, stays_made}
use Rattle.afr_law_tables.specs.RepairLaws.{stays_mended}
use Rattle.afr_law_tables.specs.TableLaws.{stays_applied}
use Rattle.afr_law_names.specs.Named.Named.{EntriesHaveCopies}

-- ---- names
-- what the names lead to is in the tables
abbrev AreThere : Table → NameTable → Type 0
AreThere u [] = Unit {0}
AreThere u (x ∷ names) = (is_some (copy_at x.1.gfid u) ≡ true) × AreThere u names

there_still : (t u : Table) → HasAll t u → (names : NameTable) → AreThere t names → AreThere u names
there_still t u more [] h = tt
there_still t u more (x ∷ names) h = (more x.1.gfid h.0, there_still t u more names h.1)

there_inserted : (u : Table) (n : NameId) (e : Entry) (names : NameTable) → is_some (copy_at e.gfid u) ≡ true → AreThere u names → AreThere u (insert_entry name_cmp names n e)
there_inserted u n e [] here h = (here, tt)
there_inserted u n e (x ∷ names) here h =
    by_order n.0 x.0.0 (AreThere u) ((n, e) ∷ x ∷ names) ((x.0, e) ∷ names) (x ∷ insert_entry name_cmp names n e) (λ less. (here, h)) (λ same. (here, h.1)) (λ more. (h.0, there_inserted u n e names here h.1))

there_removed : (u : Table) (test : NameId → Bool) (names : NameTable) → AreThere u names → AreThere u (remove_entry test names)
there_removed u test [] h = tt
there_removed u test (x ∷ names) h = go (test x.0) (there_removed u test names h.1)
  where
    go : (hit : Bool) → AreThere u (remove_entry test names) → AreThere u (cond hit names (x ∷ remove_entry test names))
    go true more = h.1
    go false more = (h.0, more)

there_found : (u : Table) (test : NameId → Bool) (names : NameTable) (e : Entry) → AreThere u names → lookup test names ≡ Some e → is_some (copy_at e.gfid u) ≡ true
there_found u test [] e h is = absurd (cc is)
there_found u test (x ∷ names) e h is = go (test x.0) is (λ k. there_found u test names e h.1 k)
  where
    go : (hit : Bool) → cond hit (Some x.1) (lookup test names) ≡ Some e → (lookup test names ≡ Some e → is_some (copy_at e.gfid u) ≡ true) → is_some (copy_at e.gfid u) ≡ true
    go true k rest = (let same : x.1 ≡ e = cc k in subst (λ (y : Entry). is_some (copy_at y.gfid u) ≡ true) same h.0)
    go false k rest = rest k

-- ---- copies
-- what the names of a copy lead to is in the tables
abbrev LeadsIn : Table → Object → Type 0
LeadsIn u o = AreThere u o.names

-- so it is with each copy
abbrev AllLead : Table → Type 0
AllLead t = EachCopy (LeadsIn t) t

still : (t u : Table) → HasAll t u → AllLead t → EachCopy (LeadsIn u) t
still t u more all g o h = there_still t u more o.names (all g o h)

lead_changed : (f : Object → Object) → ((u : Table) (o : Object) → LeadsIn u o → LeadsIn u (f o)) → (g : Gfid) (t : Table) → AllLead t → AllLead (changed f g (copy_at g t) t)
lead_changed f keep g t all = (
    let u : Table = changed f g (copy_at g t) t in
    each_changed (LeadsIn u) (LeadsIn u) f (keep u) (λ o h. h) g t (still t u (stays_changed f g t) all)
    )

lead_bytes : (keeps : Bool) (f : List ℕ → List ℕ) (u : Table) (o : Object) → LeadsIn u o → LeadsIn u (with_bytes keeps f o)
lead_bytes keeps f u o h = go (keeps && is_file o.what)
  where
    go : (b : Bool) → LeadsIn u (if b then record o { content = f o.content } else o)
    go true = h
    go false = h

lead_names : (u : Table) (f : NameTable → NameTable) (o : Object) → AreThere u (f o.names) → LeadsIn u o → LeadsIn u (with_names f o)
lead_names u f o new h = go (is_dir o.what)
  where
    go : (b : Bool) → LeadsIn u (if b then record o { names = f o.names } else o)
    go true = new
    go false = h

-- ---- changes
-- what was made is there
made_there : (g : Gfid) (what : What) (t : Table) → is_some (copy_at g (made g what t)) ≡ true
made_there g what t = ap (λ (o : Option Object). is_some o) (copy_at-made g g what t) ∙ go (is_some (copy_at g t)) refl
  where
    go : (has : Bool) → is_some (copy_at g t) ≡ has → is_some (if has then copy_at g t else (if g.0 == g.0 then Some (new_object what) else copy_at g t)) ≡ true
    go true e = e
    go false e = ap (λ (b : Bool). is_some (if b then Some (new_object what) else copy_at g t)) (same_self g.0)

lead_linked : (dir : Gfid) (name : NameId) (g : Gfid) (what : What) (t : Table) → AllLead t → AllLead (linked dir name g what (copy_at dir t) t)
lead_linked dir name g what t all = go (copy_at dir t) refl (stays_applied true (Make dir name g what) t)
  where
    f : NameTable → NameTable
    f names = insert_entry name_cmp names name (record { gfid = g; what = what })

    go : (o : Option Object) → copy_at dir t ≡ o → HasAll t (linked dir name g what o t) → AllLead (linked dir name g what o t)
    go None e more = all
    go (Some o) e more = (
        let u : Table = made g what (with_copy dir (with_names f o) t) in
        let named : (q : Object) → LeadsIn u q → LeadsIn u (with_names f q) = λ q h. lead_names u f q (there_inserted u name (record { gfid = g; what = what }) q.names (made_there g what (with_copy dir (with_names f o) t)) h) h in
        each_made (LeadsIn u) g what (with_copy dir (with_names f o) t) tt
        (subst (λ (x : Option Object). EachCopy (LeadsIn u) (changed (with_names f) dir x t)) e (each_changed (LeadsIn u) (LeadsIn u) (with_names f) named (λ q h. h) dir t (still t u more all)))
        )

lead_applied : (keeps : Bool) (change : Change) (t : Table) → AllLead t → AllLead (applied keeps change t)
lead_applied keeps (Write g at bytes) t all = lead_changed (with_bytes keeps (written at bytes)) (lead_bytes keeps (written at bytes)) g t all
lead_applied keeps (Cut g len) t all = lead_changed (with_bytes keeps (take len)) (lead_bytes keeps (take len)) g t all
lead_applied keeps (SetAttr g key value) t all = lead_changed (with_attr key value) (λ u o h. h) g t all
lead_applied keeps (Remove dir name what) t all = lead_changed (with_names (remove_entry (is_at (name_cmp name)))) (λ u o h. lead_names u (remove_entry (is_at (name_cmp name))) o (there_removed u (is_at (name_cmp name)) o.names h) h) dir t all
lead_applied keeps (Make dir name g what) t all = lead_linked dir name g what t all

-- ---- repairs
all_made_there : (names : NameTable) (t : Table) → AreThere (all_made names t) names
all_made_there [] t = tt
all_made_there (x ∷ names) t = (made_there x.1.gfid x.1.what (all_made names t), there_still (all_made names t) (made x.1.gfid x.1.what (all_made names t)) (stays_made x.1.gfid x.1.what (all_made names t)) names (all_made_there names t))

lead_renamed : (names : NameTable) (g : Gfid) (t : Table) → HasAll t (renamed names g (copy_at g t) t) → AllLead t → AllLead (renamed names g (copy_at g t) t)
lead_renamed names g t has all = go (copy_at g t) refl has
  where
    f : NameTable → NameTable
    f old = names

    go : (o : Option Object) → copy_at g t ≡ o → HasAll t (renamed names g o t) → AllLead (renamed names g o t)
    go None e more = all
    go (Some o) e more = (
        let u : Table = all_made names (with_copy g (with_names f o) t) in
        let named : (q : Object) → LeadsIn u q → LeadsIn u (with_names f q) = λ q h. lead_names u f q (all_made_there names (with_copy g (with_names f o) t)) h in
        each_all_made (LeadsIn u) (λ what. tt) names (with_copy g (with_names f o) t)
        (subst (λ (x : Option Object). EachCopy (LeadsIn u) (changed (with_names f) g x t)) e (each_changed (LeadsIn u) (LeadsIn u) (with_names f) named (λ q h. h) g t (still t u more all)))
        )

lead_mended : (keeps : Bool) (repair : Repair) (contents : Contents) (t : Table) → AllLead t → AllLead (mended keeps repair contents t)
lead_mended keeps (CutTo g len) contents t all = lead_changed (with_bytes keeps (take len)) (lead_bytes keeps (take len)) g t all
lead_mended keeps (Copy g at span read) (Bytes bytes) t all = lead_changed (with_bytes keeps (copied_in at span bytes)) (lead_bytes keeps (copied_in at span bytes)) g t all
lead_mended keeps (PutAttrs g read) (Attrs attrs) t all = lead_changed (with_attrs attrs) (λ u o h. h) g t all
lead_mended keeps (PutNames g reads) (Names names) t all = lead_renamed names g t (stays_mended keeps (PutNames g reads) (Names names) t) all
lead_mended keeps repair contents t all = all

-- ---- lines
lead_numbers : (g : Gfid) (t : Table) (kind : Kind) (f : Marks → Marks) → AllLead t → AllLead (changed (with_numbers kind f) g (copy_at g t) t)
lead_numbers g t kind f all = lead_changed (with_numbers kind f) (λ u o h. h) g t all

lead_asked : (keeps : Bool) (r : Request) (older : List Line) (past : Past) (t : Table) → AllLead t → AllLead (asked keeps r older past t)
lead_asked keeps (Apply attempt) older past t all = go (change_at attempt older)
  where
    go : (change : Option Change) → AllLead (effect keeps change t)
    go None = all
    go (Some change) = lead_applied keeps change t all
lead_asked keeps (Mend repair) older past t all = lead_mended keeps repair (carried past older repair) t all
lead_asked keeps (Pre g kind) older past t all = lead_numbers g t kind dirtied all
lead_asked keeps (Post attempt g kind missed) older past t all = lead_numbers g t kind (closed_op missed) all
lead_asked keeps (Settle g kind less) older past t all = lead_numbers g t kind (taken_back less) all
lead_asked keeps r older past t all = all

lead_step : (p : Plan) (line : Line) (b : ℕ) (older : List Line) (past : Past) (t : Table) → AllLead t → AllLead (step p line b older past t)
lead_step p (Ask a y r told took) b older past t all = go took (y.0 == b)
  where
    go : (f here : Bool) → AllLead (if f then (if here then asked (keeps_bytes p b) r older past t else t) else t)
    go true true = lead_asked (keeps_bytes p b) r older past t all
    go true false = all
    go false here = all
lead_step p line b older past t all = all

lead_root : AllLead ((root, new_object Dir) ∷ [])
lead_root q w h = split (q.0 == 1) (subst (λ (b : Bool). (if b then Some (new_object Dir) else None) ≡ Some w) (same_gfid q root) h)
  where
    split : (same : Bool) → (if same then Some (new_object Dir) else None) ≡ Some w → LeadsIn ((root, new_object Dir) ∷ []) w
    split true k = subst (LeadsIn ((root, new_object Dir) ∷ [])) (some_is (new_object Dir) w k) tt
    split false k = absurd (cc k)

lead_opening : (files : ℕ) → AllLead (opening files)
lead_opening zero = lead_root
lead_opening (suc i) = lead_linked root (record { 0 = i }) (opening_gfid (suc i)) File (opening i) (lead_opening i)

all_lead : (p : Plan) (log : List Line) (b : ℕ) → AllLead (holds p log b)
all_lead p [] b = lead_opening p.files
all_lead p (line ∷ older) b = lead_step p line b older (held_before p older) (holds p older b) (all_lead p older b)

-- ---- the law
pub named : EntriesHaveCopies
named p log b dir name e is = go (copy_at dir (holds p log b)) refl is
  where
    go : (o : Option Object) → copy_at dir (holds p log b) ≡ o → entry_in name o ≡ Some e → has_object p log e.gfid b ≡ true
    go None at k = absurd (cc k)
    go (Some o) at k = there_found (holds p log b) (is_at (name_cmp name)) o.names e (all_lead p log b dir o at) k
