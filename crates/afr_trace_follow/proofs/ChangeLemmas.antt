-- Changes are the same where all that they carry is.
use Rattle.std.proofs.Common.{◌≡◌, ◌↔◌, ◌∙◌, ℕ, Bool, true, List, Option, Some, None, refl, sym, ap, subst}
use Rattle.std.specs.Option.{option_map}
use Rattle.std.proofs.lemmas.Option.{same_Some}
use Rattle.afr_base.specs.declared.ids.Gfid.{Gfid}
use Rattle.afr_base.specs.declared.ids.KeyId.{KeyId}
use Rattle.afr_base.specs.declared.ids.NameId.{NameId}
use Rattle.afr_base.specs.declared.ids.ValueId.{ValueId}
use Rattle.afr_base.specs.declared.ids.What.{What}
use Rattle.afr_model.specs.Commands.{last_of}
use Rattle.afr_object.specs.declared.change.Change.{Change}
use Rattle.afr_object.specs.declared.change.Change.TheVariants.{Cut, Make, Remove, SetAttr, Write}

pub write_same : (g h : Gfid) (at n : ℕ) (bytes other : List ℕ) → (((h ≡ g) × (n ≡ at)) × (other ≡ bytes) → Write g at bytes ≡ Write h n other) × (Write g at bytes ≡ Write h n other → ((h ≡ g) × (n ≡ at)) × (other ≡ bytes))
write_same g h at n bytes other = (λ k. rw (k.0.0, k.0.1, k.1) refl, λ e. ((cc, cc), cc))

pub cut_same : (g h : Gfid) (len n : ℕ) → ((h ≡ g) × (n ≡ len) → Cut g len ≡ Cut h n) × (Cut g len ≡ Cut h n → (h ≡ g) × (n ≡ len))
cut_same g h len n = (λ k. rw (k.0, k.1) refl, λ e. (cc, cc))

pub set_same : (g h : Gfid) (key k : KeyId) (value v : ValueId) → (((h ≡ g) × (k ≡ key)) × (v ≡ value) → SetAttr g key value ≡ SetAttr h k v) × (SetAttr g key value ≡ SetAttr h k v → ((h ≡ g) × (k ≡ key)) × (v ≡ value))
set_same g h key k value v = (λ x. rw (x.0.0, x.0.1, x.1) refl, λ e. ((cc, cc), cc))

pub make_same : (d e : Gfid) (name n : NameId) (g h : Gfid) (what w : What)
    → (((e ≡ d) × (n ≡ name)) × ((h ≡ g) × (w ≡ what)) → Make d name g what ≡ Make e n h w) × (Make d name g what ≡ Make e n h w → ((e ≡ d) × (n ≡ name)) × ((h ≡ g) × (w ≡ what)))
make_same d e name n g h what w = (λ x. rw (x.0.0, x.0.1, x.1.0, x.1.1) refl, λ same. ((cc, cc), (cc, cc)))

pub remove_same : (d e : Gfid) (name n : NameId) (what w : What)
    → (((e ≡ d) × (n ≡ name)) × (w ≡ what) → Remove d name what ≡ Remove e n w) × (Remove d name what ≡ Remove e n w → ((e ≡ d) × (n ≡ name)) × (w ≡ what))
remove_same d e name n what w = (λ x. rw (x.0.0, x.0.1, x.1) refl, λ same. ((cc, cc), cc))

-- a change of a path's last name
pub last_some : (f : NameId → Change) (o : Option NameId) (name : NameId) (change : Change) → Some name ≡ o → (f name ≡ change → option_map f o ≡ Some change) × (option_map f o ≡ Some change → f name ≡ change)
last_some f o name change h = (λ e. ap (option_map f) (sym h) ∙ ap Some e, λ e. same_Some (f name) change (ap (option_map f) h ∙ e))

pub last_none : (f : NameId → Change) (o : Option NameId) (change : Change) → None ≡ o → option_map f o ≡ Some change → ⊥
last_none f o change h e =
    let no : None ≡ Some change = ap (option_map f) h ∙ e in
    absurd (cc no)

-- the same path, and the same object
pub made_named : (g made new : Gfid) (slice path : List NameId) (what : What) (change : Change) (r : Bool) → made ≡ new → slice ≡ path → ((r ≡ true) ↔ (option_map (λ name. Make g name made what) (last_of slice) ≡ Some change))
    → ((r ≡ true) ↔ (option_map (λ name. Make g name new what) (last_of path) ≡ Some change))
made_named g made new slice path what change r hm hs k =
    subst (λ (l : List NameId). (r ≡ true) ↔ (option_map (λ name. Make g name new what) (last_of l) ≡ Some change)) hs
    (subst (λ (m : Gfid). (r ≡ true) ↔ (option_map (λ name. Make g name m what) (last_of slice) ≡ Some change)) hm k)

pub removed_named : (g : Gfid) (slice path : List NameId) (what : What) (change : Change) (r : Bool) → slice ≡ path → ((r ≡ true) ↔ (option_map (λ name. Remove g name what) (last_of slice) ≡ Some change))
    → ((r ≡ true) ↔ (option_map (λ name. Remove g name what) (last_of path) ≡ Some change))
removed_named g slice path what change r hs k = subst (λ (l : List NameId). (r ≡ true) ↔ (option_map (λ name. Remove g name what) (last_of l) ≡ Some change)) hs k
