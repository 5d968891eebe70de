-- Making an object and its name, in the order in which a brick does it.
use Rattle.std.proofs.Common.{◌≡◌, ℕ, Bool, true, false, Option, Some, None, refl, sym, ap, ◌∙◌, ◌⊎◌, inl, inr, ◌==◌, if◌then◌else◌}
use Rattle.std.proofs.lemmas.Bool.Decides.{eqb_tells}
use Rattle.std.specs.Prelude.{is_some}
use Rattle.std.specs.BTreeMap.{insert_entry}
use Rattle.afr_base.specs.declared.ids.Gfid.{Gfid}
use Rattle.afr_base.specs.declared.ids.NameId.{NameId}
use Rattle.afr_base.specs.declared.ids.What.{What}
use Rattle.afr_object.specs.Tables.{Table, changed, copy_at, gfid_cmp, linked, name_cmp, new_object, with_copy, with_names}
use Rattle.afr_object.specs.Object.{Object}
use Rattle.afr_object.specs.State.{Copies}
use Rattle.afr_object.specs.TablesLemmas.{copy_at-insert_entry, copy_at-with_copy, with_copy-insert_entry}

-- a brick with these tables
abbrev pub copies : Bool → Table → Copies
copies keeps t = record { keeps = keeps; objects = t }

-- What a test for an object that is there has found.
pub some_of : {X : Type 0} (o : Option X) → is_some o ≡ true → (x : X) × (o ≡ Some x)
some_of None h = absurd (cc)
some_of (Some x) h = (x, refl)

-- What a test for an object that is not there has shown.
pub none_of : {X : Type 0} (o : Option X) → is_some o ≡ false → o ≡ None
none_of None h = refl
none_of (Some x) h = absurd (cc)

-- Nothing is both there and absent.
pub not_both : {X : Type 0} (o : Option X) (x : X) → o ≡ Some x → o ≡ None → ⊥
not_both o x e n = absurd (cc)

-- the directory with the name
abbrev named : NameId → Gfid → What → Object → Object
named name g what = with_names (λ names. insert_entry name_cmp names name (record { gfid = g; what = what }))

-- An object that is there and one that is not have two gfids.
apart : (g dir : Gfid) (o : Object) (t : Table) → copy_at dir t ≡ Some o → copy_at g t ≡ None → g.0 ≡ dir.0 → ⊥
apart g dir o t there new e =
    let same : g ≡ dir = ap (λ (n : ℕ). record { 0 = n }) e in
    not_both (copy_at g t) o (rw same there) new

-- An object that is put in hides no other.
pub still_there : (g dir : Gfid) (n o : Object) (t : Table) → copy_at dir t ≡ Some o → copy_at g t ≡ None → copy_at dir (insert_entry gfid_cmp t g n) ≡ Some o
still_there g dir n o t there new = copy_at-insert_entry g dir n t ∙ other (eqb_tells g.0 dir.0)
  where
    other : ((g.0 == dir.0) ≡ true) × (g.0 ≡ dir.0) ⊎ ((g.0 == dir.0) ≡ false) × (g.0 ≡ dir.0 → ⊥) → (if g.0 == dir.0 then Some n else copy_at dir t) ≡ Some o
    other (inl s) = absurd (apart g dir o t there new s.1)
    other (inr s) = rw s.0 there

-- The object is put in first, and then its name.
pub name_after_object : (dir : Gfid) (name : NameId) (g : Gfid) (what : What) (o : Object) (t : Table) → copy_at dir t ≡ Some o → copy_at g t ≡ None
    → changed (named name g what) dir (copy_at dir (insert_entry gfid_cmp t g (new_object what))) (insert_entry gfid_cmp t g (new_object what)) ≡ linked dir name g what (copy_at dir t) t
name_after_object dir name g what o t there new =
    let lacks : copy_at g (with_copy dir (named name g what o) t) ≡ None = lacking (eqb_tells dir.0 g.0) in
    rw (still_there g dir (new_object what) o t there new, there, lacks) (with_copy-insert_entry g dir (new_object what) (named name g what o) t (apart g dir o t there new))
  where
    lacking : ((dir.0 == g.0) ≡ true) × (dir.0 ≡ g.0) ⊎ ((dir.0 == g.0) ≡ false) × (dir.0 ≡ g.0 → ⊥) → copy_at g (with_copy dir (named name g what o) t) ≡ None
    lacking (inl s) = absurd (apart g dir o t there new (sym s.1))
    lacking (inr s) = copy_at-with_copy dir g (named name g what o) o t there ∙ rw s.0 new

-- Where the object is there, the name alone is added.
pub name_alone : (dir : Gfid) (name : NameId) (g : Gfid) (what : What) (o w : Object) (t : Table) → copy_at dir t ≡ Some o → copy_at g t ≡ Some w
    → linked dir name g what (copy_at dir t) t ≡ changed (named name g what) dir (copy_at dir t) t
name_alone dir name g what o w t there has = rw (there, copy_at-with_copy dir g (named name g what o) o t there) (split (eqb_tells dir.0 g.0))
  where
    split : ((dir.0 == g.0) ≡ true) × (dir.0 ≡ g.0) ⊎ ((dir.0 == g.0) ≡ false) × (dir.0 ≡ g.0 → ⊥)
        → (if is_some (if dir.0 == g.0 then Some (named name g what o) else copy_at g t) then with_copy dir (named name g what o) t else insert_entry gfid_cmp (with_copy dir (named name g what o) t) g (new_object what)) ≡ with_copy dir (named name g what o) t
    split (inl s) = rw s.0 refl
    split (inr s) = rw (s.0, has) refl
