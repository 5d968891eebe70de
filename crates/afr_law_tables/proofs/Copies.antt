-- What a change makes of kinds and cells, as numbers.
use Rattle.std.proofs.Common.{◌≡◌, ℕ, suc, zero, Bool, true, false, ◌&&◌, ◌⊎◌, inl, inr, refl, ◌∙◌, ap, subst, List, Option, None, Some, ◌==◌, if◌then◌else◌, take}
use Rattle.std.specs.Prelude.{is_some}
use Rattle.std.specs.Option.{option_map}
use Rattle.std.specs.BTreeMap.{is_at, insert_entry}
use Rattle.std.specs.Map.{remove_entry}
use Rattle.std.proofs.lemmas.Bool.Decides.{eqb_tells}
use Rattle.afr_base.specs.declared.ids.Gfid.{Gfid}
use Rattle.afr_base.specs.declared.ids.NameId.{NameId}
use Rattle.afr_base.specs.declared.ids.What.{What}
use Rattle.afr_base.specs.declared.ids.What.TheVariants.{File, Dir}
use Rattle.afr_object.specs.Bytes.{written}
use Rattle.afr_object.specs.Tables.{Table, copy_at, changed, with_copy, with_bytes, with_attr, with_names, made, linked, applied, new_object, is_file, is_dir, name_cmp}
use Rattle.afr_object.specs.declared.change.Change.{Change}
use Rattle.afr_object.specs.declared.change.Change.TheVariants.{Write, Cut, SetAttr, Make, Remove}
use Rattle.afr_object.specs.declared.entry.Entry.{Entry as NameEntry}
use Rattle.afr_object.specs.Object.{Object}
use Rattle.afr_object.specs.TablesLemmas.{copy_at-changed, copy_at-made}
use Rattle.afr_model_moves.specs.Cells.{what_code}
use Rattle.afr_law_tables.specs.Codes.{kind_code, kind_in}
use Rattle.afr_model_moves.specs.Past.{keep, object}
use Rattle.afr_model_moves.proofs.Tests.{some_what}

-- a change of a copy that leaves the kind
pub kind_changed : (f : Object → Object) → ((o : Object) → (f o).what ≡ o.what) → (g : Gfid) (t : Table) (q : ℕ) → kind_in (changed f g (copy_at g t) t) q ≡ kind_in t q
kind_changed f same g t q = ap kind_code (copy_at-changed f g (record { 0 = q }) t) ∙ split (eqb_tells g.0 q)
  where
    of_copy : (o : Option Object) → kind_code (option_map f o) ≡ kind_code o
    of_copy None = refl
    of_copy (Some o) = ap what_code (same o)

    split : ((g.0 == q) ≡ true) × (g.0 ≡ q) ⊎ ((g.0 == q) ≡ false) × (g.0 ≡ q → ⊥) → kind_code (if g.0 == q then option_map f (copy_at g t) else copy_at (record { 0 = q }) t) ≡ kind_in t q
    split (inl s) = rw s.0 (of_copy (copy_at g t) ∙ ap (kind_in t) s.1)
    split (inr s) = rw s.0 refl

pub what_bytes : (keeps : Bool) (f : List ℕ → List ℕ) (o : Object) → (with_bytes keeps f o).what ≡ o.what
what_bytes keeps f o = go (keeps && is_file o.what)
  where
    go : (b : Bool) → (if b then record o { content = f o.content } else o).what ≡ o.what
    go true = refl
    go false = refl

pub what_names : (f : List (NameId × NameEntry) → List (NameId × NameEntry)) (o : Object) → (with_names f o).what ≡ o.what
what_names f o = go (is_dir o.what)
  where
    go : (b : Bool) → (if b then record o { names = f o.names } else o).what ≡ o.what
    go true = refl
    go false = refl

-- the kind that a change gives object q
abbrev pub made_by : ℕ → Change → ℕ
made_by q (Make dir name g what) = if g.0 == q then what_code what else 0
made_by q change = 0

pub keep_none : (k : ℕ) (b : Bool) → k ≡ keep k (if b then 0 else 0)
keep_none zero true = refl
keep_none zero false = refl
keep_none (suc k) b = refl

pub kind_made : (g : Gfid) (what : What) (t : Table) (q : ℕ) → kind_in (made g what t) q ≡ keep (kind_in t q) (if g.0 == q then what_code what else 0)
kind_made g what t q = ap kind_code (copy_at-made g (record { 0 = q }) what t) ∙ split (eqb_tells g.0 q)
  where
    here : (o : Option Object) → kind_code (if is_some o then o else Some (new_object what)) ≡ keep (kind_code o) (what_code what)
    here None = refl
    here (Some o) = go o.what
      where
        go : (w : What) → what_code w ≡ keep (what_code w) (what_code what)
        go File = refl
        go Dir = refl

    other : (b : Bool) (k : ℕ) → k ≡ keep k 0
    other b zero = refl
    other b (suc k) = refl

    pick : (b : Bool) (o : Option Object) → kind_code (if b then o else o) ≡ keep (kind_code o) 0
    pick true o = other true (kind_code o)
    pick false o = other true (kind_code o)

    split : ((g.0 == q) ≡ true) × (g.0 ≡ q) ⊎ ((g.0 == q) ≡ false) × (g.0 ≡ q → ⊥)
        → kind_code (if is_some (copy_at g t) then copy_at (record { 0 = q }) t else (if g.0 == q then Some (new_object what) else copy_at (record { 0 = q }) t)) ≡ keep (kind_in t q) (if g.0 == q then what_code what else 0)
    split (inl s) = rw s.0 (subst (λ (k : ℕ). kind_code (if is_some (copy_at g t) then copy_at (record { 0 = k }) t else Some (new_object what)) ≡ keep (kind_in t k) (what_code what)) s.1 (here (copy_at g t)))
    split (inr s) = rw s.0 (pick (is_some (copy_at g t)) (copy_at (record { 0 = q }) t))

-- the kinds after a change
pub kind_applied : (keeps : Bool) (change : Change) (t : Table) (q : ℕ) → kind_in (applied keeps change t) q ≡ keep (kind_in t q) (if kind_in t (object change) == 0 then 0 else made_by q change)
kind_applied keeps (Write g at bytes) t q = kind_changed _ (what_bytes keeps (written at bytes)) g t q ∙ keep_none _ _
kind_applied keeps (Cut g len) t q = kind_changed _ (what_bytes keeps (take len)) g t q ∙ keep_none _ _
kind_applied keeps (SetAttr g key value) t q = kind_changed (with_attr key value) (λ o. refl) g t q ∙ keep_none _ _
kind_applied keeps (Remove dir name what) t q = kind_changed _ (what_names (remove_entry (is_at (name_cmp name)))) dir t q ∙ keep_none _ _
kind_applied keeps (Make dir name g what) t q = go (copy_at dir t) refl
  where
    f : Object → Object
    f = with_names (λ names. insert_entry name_cmp names name (record { gfid = g; what = what }))

    go : (o : Option Object) → copy_at dir t ≡ o → kind_in (linked dir name g what o t) q ≡ keep (kind_in t q) (if kind_code o == 0 then 0 else made_by q (Make dir name g what))
    go None e = keep_none _ true
    go (Some o) e =
        let there : kind_in (with_copy dir (f o) t) q ≡ kind_in t q = subst (λ (x : Option Object). kind_in (changed f dir x t) q ≡ kind_in t q) e (kind_changed f (what_names _) dir t q) in
        rw (some_what o.what) (kind_made g what (with_copy dir (f o) t) q ∙ ap (λ (k : ℕ). keep k (if g.0 == q then what_code what else 0)) there)
