-- What a change leaves in cells, as numbers.
use Rattle.std.proofs.Common.{◌≡◌, ℕ, suc, zero, ◌+◌, ◌-◌, ◌<◌, ◌≤◌, ◌^◌, Bool, true, false, ◌&&◌, not, ◌⊎◌, inl, inr, refl, sym, ◌∙◌, ap, subst, arith, List, [], ◌∷◌, length, Option, None, Some, ◌==◌, if◌then◌else◌, true≢false, take, ltb}
use Rattle.std.specs.Prelude.{nat_le, nat_lt, is_some}
use Rattle.std.specs.Option.{option_map}
use Rattle.std.specs.BTreeMap.{is_at, insert_entry}
use Rattle.std.specs.Map.{lookup, remove_entry}
use Rattle.std.proofs.lemmas.Bool.Decides.{eqb_tells, nat_tests}
use Rattle.afr_base.specs.declared.ids.Gfid.{Gfid}
use Rattle.afr_base.specs.declared.ids.KeyId.{KeyId}
use Rattle.afr_base.specs.declared.ids.NameId.{NameId}
use Rattle.afr_base.specs.declared.ids.ValueId.{ValueId}
use Rattle.afr_base.specs.declared.ids.What.{What}
use Rattle.afr_base.specs.declared.ids.What.TheVariants.{File, Dir}
use Rattle.afr_base.specs.declared.ids.Kind.TheVariants.{Bytes}
use Rattle.afr_object.specs.Bytes.{byte_at, written, is_within}
use Rattle.afr_object.specs.BytesLemmas.{byte_at-written, byte_at-take}
use Rattle.afr_object.specs.Tables.{Table, copy_at, changed, with_copy, with_bytes, with_attr, with_names, made, linked, applied, new_object, is_file, is_dir, name_cmp, key_cmp}
use Rattle.afr_object.specs.declared.change.Change.{Change}
use Rattle.afr_object.specs.declared.change.Change.TheVariants.{Write, Cut, SetAttr, Make, Remove}
use Rattle.afr_object.specs.declared.entry.Entry.{Entry as NameEntry}
use Rattle.afr_object.specs.Object.{Object}
use Rattle.afr_object.specs.TablesLemmas.{copy_at-changed, copy_at-made}
use Rattle.afr_model.specs.Cells.{IsByte, IsAttr, IsEntry, value_if, value_in}
use Rattle.afr_model_moves.specs.Cells.{Cell, Byte, Attr, Entry, object_of, kind_of, what_code, entry_code, fits, is_cell, touches, leaves}
use Rattle.afr_law_tables.specs.Codes.{kind_code, value_code, cell_by, kind_in, code_in}
use Rattle.afr_law_tables.proofs.Names.{AreRising, lookup_named, lookup_removed}
use Rattle.std.proofs.lemmas.Bool.{cases_lt}

-- what a copy has in a cell, as a number
abbrev pub code_of : Cell → Option Object → ℕ
code_of cell o = value_code (value_if (cell_by cell) o)

abbrev pub copy_of : Table → ℕ → Option Object
copy_of t g = copy_at (record { 0 = g }) t

code_is : (t : Table) (cell : Cell) → code_in t cell ≡ code_of cell (copy_of t (object_of cell))
code_is t (Byte g i) = refl
code_is t (Attr g k) = refl
code_is t (Entry g n) = refl

-- after one copy was changed
pub code_changed : (f : Object → Object) (g : Gfid) (t : Table) (cell : Cell)
    → code_in (changed f g (copy_at g t) t) cell ≡ (if g.0 == object_of cell then code_of cell (option_map f (copy_of t (object_of cell))) else code_in t cell)
code_changed f g t cell = code_is (changed f g (copy_at g t) t) cell ∙ ap (code_of cell) (copy_at-changed f g (record { 0 = object_of cell }) t) ∙ split (eqb_tells g.0 (object_of cell))
  where
    split : ((g.0 == object_of cell) ≡ true) × (g.0 ≡ object_of cell) ⊎ ((g.0 == object_of cell) ≡ false) × (g.0 ≡ object_of cell → ⊥)
        → code_of cell (if g.0 == object_of cell then option_map f (copy_at g t) else copy_of t (object_of cell)) ≡ (if g.0 == object_of cell then code_of cell (option_map f (copy_of t (object_of cell))) else code_in t cell)
    split (inl s) = rw s.0 (ap (λ (k : ℕ). code_of cell (option_map f (copy_of t k))) s.1)
    split (inr s) = rw s.0 (sym (code_is t cell))

-- a change of a copy that leaves the cell
pub code_left : (f : Object → Object) (g : Gfid) (t : Table) (cell : Cell) → ((o : Object) → value_in (cell_by cell) (f o) ≡ value_in (cell_by cell) o) → code_in (changed f g (copy_at g t) t) cell ≡ code_in t cell
code_left f g t cell same = code_changed f g t cell ∙ go (g.0 == object_of cell)
  where
    of_copy : (o : Option Object) → code_of cell (option_map f o) ≡ code_of cell o
    of_copy None = refl
    of_copy (Some o) = ap value_code (same o)

    go : (b : Bool) → (if b then code_of cell (option_map f (copy_of t (object_of cell))) else code_in t cell) ≡ code_in t cell
    go true = of_copy (copy_of t (object_of cell)) ∙ sym (code_is t cell)
    go false = refl

pub none_past : (i : ℕ) → byte_at i [] ≡ 0
none_past zero = refl
none_past (suc i) = refl

new_code : (cell : Cell) (what : What) → code_of cell (Some (new_object what)) ≡ 0
new_code (Byte g i) what = none_past i
new_code (Attr g k) what = refl
new_code (Entry g n) what = refl

no_code : (cell : Cell) → code_of cell None ≡ 0
no_code (Byte g i) = refl
no_code (Attr g k) = refl
no_code (Entry g n) = refl

pub code_made : (g : Gfid) (what : What) (t : Table) (cell : Cell) → code_in (made g what t) cell ≡ code_in t cell
code_made g what t cell = code_is (made g what t) cell ∙ ap (code_of cell) (copy_at-made g (record { 0 = object_of cell }) what t) ∙ go (copy_at g t) refl (eqb_tells g.0 (object_of cell)) ∙ sym (code_is t cell)
  where
    go : (o : Option Object) → copy_at g t ≡ o → ((g.0 == object_of cell) ≡ true) × (g.0 ≡ object_of cell) ⊎ ((g.0 == object_of cell) ≡ false) × (g.0 ≡ object_of cell → ⊥)
        → code_of cell (if is_some o then copy_of t (object_of cell) else (if g.0 == object_of cell then Some (new_object what) else copy_of t (object_of cell))) ≡ code_of cell (copy_of t (object_of cell))
    go (Some o) e s = refl
    go None e (inl s) =
        let lacks : copy_of t (object_of cell) ≡ None = ap (copy_of t) (sym s.1) ∙ e in
        rw (s.0, lacks) (new_code cell what ∙ sym (no_code cell))
    go None e (inr s) = rw s.0 refl

-- what a change leaves where the copy has such cells, and the old value elsewhere
abbrev pub after_change : Change → Table → Cell → ℕ
after_change change t cell = if fits (kind_in t (object_of cell)) cell && touches change cell then leaves change cell else code_in t cell

pub no_touch : (b : Bool) (x y : ℕ) → y ≡ (if b && false then x else y)
no_touch true x y = refl
no_touch false x y = refl

pub content_names : (f : List (NameId × NameEntry) → List (NameId × NameEntry)) (o : Object) → ((with_names f o).content ≡ o.content) × ((with_names f o).attrs ≡ o.attrs)
content_names f o = go (is_dir o.what)
  where
    go : (b : Bool) → ((if b then record o { names = f o.names } else o).content ≡ o.content) × ((if b then record o { names = f o.names } else o).attrs ≡ o.attrs)
    go true = (refl, refl)
    go false = (refl, refl)

pub others_bytes : (keeps : Bool) (f : List ℕ → List ℕ) (o : Object) → ((with_bytes keeps f o).attrs ≡ o.attrs) × ((with_bytes keeps f o).names ≡ o.names)
others_bytes keeps f o = go (keeps && is_file o.what)
  where
    go : (b : Bool) → ((if b then record o { content = f o.content } else o).attrs ≡ o.attrs) × ((if b then record o { content = f o.content } else o).names ≡ o.names)
    go true = (refl, refl)
    go false = (refl, refl)

-- bytes, where the brick keeps them
pub bytes_changed : (f : List ℕ → List ℕ) (g : Gfid) (t : Table) (h i new : ℕ) (hit : Bool) → ((old : List ℕ) → byte_at i (f old) ≡ (if hit then new else byte_at i old))
    → code_in (changed (with_bytes true f) g (copy_at g t) t) (Byte h i) ≡ (if fits (kind_in t h) (Byte h i) && ((g.0 == h) && hit) then new else code_in t (Byte h i))
bytes_changed f g t h i new hit is = code_changed (with_bytes true f) g t (Byte h i) ∙ split (g.0 == h) (copy_of t h)
  where
    none : (b : Bool) (x y : ℕ) → y ≡ (if b && false then x else y)
    none true x y = refl
    none false x y = refl

    one : (what : What) (o : Object) → o.what ≡ what → byte_at i (with_bytes true f o).content ≡ (if fits (what_code what) (Byte h i) && (true && hit) then new else byte_at i o.content)
    one File o e = rw e (is o.content ∙ pick hit)
      where
        pick : (b : Bool) → (if b then new else byte_at i o.content) ≡ (if true && (true && b) then new else byte_at i o.content)
        pick true = refl
        pick false = refl
    one Dir o e = rw e refl

    split : (same : Bool) (o : Option Object) → (if same then code_of (Byte h i) (option_map (with_bytes true f) o) else code_of (Byte h i) o) ≡ (if fits (kind_code o) (Byte h i) && (same && hit) then new else code_of (Byte h i) o)
    split true None = refl
    split true (Some o) = one o.what o refl
    split false o = none _ _ _

lookup_keyed : (n q : KeyId) (v : ValueId) (t : List (KeyId × ValueId)) → lookup (is_at (key_cmp q)) (insert_entry key_cmp t n v) ≡ (if n.0 == q.0 then Some v else lookup (is_at (key_cmp q)) t)
lookup_keyed n q v [] = rw (same_key q n) (grind (arith, nat_tests))
  where
    same_key : (n k : KeyId) → is_at (key_cmp n) k ≡ (n.0 == k.0)
    same_key n k = grind (arith, nat_tests)
lookup_keyed n q v (x ∷ t) = grind (arith, nat_tests, same_key q n, same_key q x.0, lookup_keyed n q v t)
  where
    same_key : (n k : KeyId) → is_at (key_cmp n) k ≡ (n.0 == k.0)
    same_key n k = grind (arith, nat_tests)

attrs_changed : (g : Gfid) (key : KeyId) (value : ValueId) (t : Table) (h k : ℕ)
    → code_in (changed (with_attr key value) g (copy_at g t) t) (Attr h k) ≡ (if fits (kind_in t h) (Attr h k) && ((g.0 == h) && (key.0 == k)) then value.0 + 1 else code_in t (Attr h k))
attrs_changed g key value t h k = code_changed (with_attr key value) g t (Attr h k) ∙ split (g.0 == h) (copy_of t h)
  where
    code : Option ValueId → ℕ
    code v = value_code (IsAttr v)

    pick : (w : What) (b : Bool) (old : Option ValueId) → code (if b then Some value else old) ≡ (if not (what_code w == 0) && (true && b) then value.0 + 1 else code old)
    pick File true old = refl
    pick File false old = refl
    pick Dir true old = refl
    pick Dir false old = refl

    split : (same : Bool) (o : Option Object) → (if same then code_of (Attr h k) (option_map (with_attr key value) o) else code_of (Attr h k) o) ≡ (if fits (kind_code o) (Attr h k) && (same && (key.0 == k)) then value.0 + 1 else code_of (Attr h k) o)
    split true None = refl
    split true (Some o) = ap code (lookup_keyed key (record { 0 = k }) value o.attrs) ∙ pick o.what (key.0 == k) (lookup (is_at (key_cmp (record { 0 = k }))) o.attrs)
    split false o = no_touch _ _ _

-- names, where a change of them is as said
pub names_changed : (f : List (NameId × NameEntry) → List (NameId × NameEntry)) (g : Gfid) (t : Table) (h n : ℕ) (hit : Bool) (new : Option NameEntry)
    → ((o : Object) → copy_of t h ≡ Some o → lookup (is_at (name_cmp (record { 0 = n }))) (f o.names) ≡ (if hit then new else lookup (is_at (name_cmp (record { 0 = n }))) o.names))
    → code_in (changed (with_names f) g (copy_at g t) t) (Entry h n) ≡ (if fits (kind_in t h) (Entry h n) && ((g.0 == h) && hit) then value_code (IsEntry new) else code_in t (Entry h n))
names_changed f g t h n hit new is = code_changed (with_names f) g t (Entry h n) ∙ split (g.0 == h) (copy_of t h) refl
  where
    code : Option NameEntry → ℕ
    code v = value_code (IsEntry v)

    pick : (b : Bool) (old : Option NameEntry) → code (if b then new else old) ≡ (if true && (true && b) then code new else code old)
    pick true old = refl
    pick false old = refl

    one : (what : What) (o : Object) → o.what ≡ what → copy_of t h ≡ Some o → code_of (Entry h n) (Some (with_names f o)) ≡ (if fits (what_code what) (Entry h n) && (true && hit) then code new else code_of (Entry h n) (Some o))
    one File o e k = rw e refl
    one Dir o e k = rw e (ap code (is o k) ∙ pick hit (lookup (is_at (name_cmp (record { 0 = n }))) o.names))

    split : (same : Bool) (o : Option Object) → copy_of t h ≡ o → (if same then code_of (Entry h n) (option_map (with_names f) o) else code_of (Entry h n) o) ≡ (if fits (kind_code o) (Entry h n) && (same && hit) then code new else code_of (Entry h n) o)
    split true None k = refl
    split true (Some o) k = one o.what o refl k
    split false o k = no_touch _ _ _

pub group_bytes : (f g a b c : Bool) (x y : ℕ) → c ≡ true → (if f && (g && (a && b)) then x else y) ≡ (if f && (g && a && b && c) then x else y)
group_bytes f g a b true x y e = go f g a b
  where
    go : (f g a b : Bool) → (if f && (g && (a && b)) then x else y) ≡ (if f && (g && a && b && true) then x else y)
    go true true true true = refl
    go true true true false = refl
    go true true false b = refl
    go true false a b = refl
    go false g a b = refl
group_bytes f g a b false x y e = absurd (true≢false (sym e))

pub group_cut : (f g a c : Bool) (x y : ℕ) → c ≡ true → (if f && (g && a) then x else y) ≡ (if f && (g && a && c) then x else y)
group_cut f g a true x y e = go f g a
  where
    go : (f g a : Bool) → (if f && (g && a) then x else y) ≡ (if f && (g && a && true) then x else y)
    go true true true = refl
    go true true false = refl
    go true false a = refl
    go false g a = refl
group_cut f g a false x y e = absurd (true≢false (sym e))

pub taken_byte : (i len : ℕ) (old : List ℕ) → byte_at i (take len old) ≡ (if nat_le len i then 0 else byte_at i old)
taken_byte i len old = byte_at-take i len old ∙ turned (byte_at i old)
  where
    turned : (x : ℕ) → (if ltb i len then x else 0) ≡ (if nat_le len i then 0 else x)
    turned x = go (cases_lt i len)
      where
        go : (i < len) ⊎ (len ≤ i) → (if ltb i len then x else 0) ≡ (if nat_le len i then 0 else x)
        go (inl low) = (let a : ltb i len ≡ true = grind (arith, nat_tests) in let b : nat_le len i ≡ false = grind (arith, nat_tests) in rw (a, b) refl)
        go (inr high) = (let a : ltb i len ≡ false = grind (arith, nat_tests) in let b : nat_le len i ≡ true = grind (arith, nat_tests) in rw (a, b) refl)

-- a name put in leaves every cell but the names
pub linked_left : (dir : Gfid) (name : NameId) (g : Gfid) (what : What) (t : Table) (cell : Cell) → ((f : List (NameId × NameEntry) → List (NameId × NameEntry)) (o : Object) → value_in (cell_by cell) (with_names f o) ≡ value_in (cell_by cell) o)
    → code_in (linked dir name g what (copy_at dir t) t) cell ≡ code_in t cell
linked_left dir name g what t cell same = go (copy_at dir t) refl
  where
    f : List (NameId × NameEntry) → List (NameId × NameEntry)
    f names = insert_entry name_cmp names name (record { gfid = g; what = what })

    go : (o : Option Object) → copy_at dir t ≡ o → code_in (linked dir name g what o t) cell ≡ code_in t cell
    go None e = refl
    go (Some o) e = code_made g what (with_copy dir (with_names f o) t) cell ∙ subst (λ (x : Option Object). code_in (changed (with_names f) dir x t) cell ≡ code_in t cell) e (code_left (with_names f) dir t cell (same f))

-- what stands in a cell after a change
pub code_applied : (keeps : Bool) (change : Change) (t : Table) (cell : Cell) → is_cell cell ≡ true → (kind_of cell ≡ Bytes → keeps ≡ true) → ((g : Gfid) (o : Object) → copy_at g t ≡ Some o → AreRising o.names)
    → code_in (applied keeps change t) cell ≡ after_change change t cell
unfolding touches leaves
code_applied keeps (Write g at bytes) t (Byte h i) real kept rising =
    subst (λ (k : Bool). code_in (changed (with_bytes k (written at bytes)) g (copy_at g t) t) (Byte h i) ≡ after_change (Write g at bytes) t (Byte h i)) (sym (kept refl))
    (bytes_changed (written at bytes) g t h i (byte_at (i - at) bytes) (is_within at (length bytes) i) (λ old. byte_at-written i at bytes old)
    ∙ group_bytes (fits (kind_in t h) (Byte h i)) (g.0 == h) (nat_le at i) (nat_lt i (at + length bytes)) (nat_lt i (2 ^ 63)) (byte_at (i - at) bytes) (code_in t (Byte h i)) real)
code_applied keeps (Cut g len) t (Byte h i) real kept rising =
    subst (λ (k : Bool). code_in (changed (with_bytes k (take len)) g (copy_at g t) t) (Byte h i) ≡ after_change (Cut g len) t (Byte h i)) (sym (kept refl))
    (bytes_changed (take len) g t h i 0 (nat_le len i) (λ old. taken_byte i len old)
    ∙ group_cut (fits (kind_in t h) (Byte h i)) (g.0 == h) (nat_le len i) (nat_lt i (2 ^ 63)) 0 (code_in t (Byte h i)) real)
code_applied keeps (SetAttr g key value) t (Byte h i) real kept rising = code_left (with_attr key value) g t (Byte h i) (λ o. refl) ∙ no_touch _ _ _
code_applied keeps (Make dir name g what) t (Byte h i) real kept rising = linked_left dir name g what t (Byte h i) (λ f o. ap (λ (c : List ℕ). IsByte (byte_at i c)) (content_names f o).0) ∙ no_touch _ _ _
code_applied keeps (Remove dir name what) t (Byte h i) real kept rising = code_left (with_names (remove_entry (is_at (name_cmp name)))) dir t (Byte h i) (λ o. ap (λ (c : List ℕ). IsByte (byte_at i c)) (content_names (remove_entry (is_at (name_cmp name))) o).0) ∙ no_touch _ _ _
code_applied keeps (Write g at bytes) t (Attr h k) real kept rising = code_left _ g t (Attr h k) (λ o. ap (λ (c : List (KeyId × ValueId)). IsAttr (lookup (is_at (key_cmp (record { 0 = k }))) c)) (others_bytes keeps (written at bytes) o).0) ∙ no_touch _ _ _
code_applied keeps (Cut g len) t (Attr h k) real kept rising = code_left _ g t (Attr h k) (λ o. ap (λ (c : List (KeyId × ValueId)). IsAttr (lookup (is_at (key_cmp (record { 0 = k }))) c)) (others_bytes keeps (take len) o).0) ∙ no_touch _ _ _
code_applied keeps (SetAttr g key value) t (Attr h k) real kept rising = attrs_changed g key value t h k
code_applied keeps (Make dir name g what) t (Attr h k) real kept rising = linked_left dir name g what t (Attr h k) (λ f o. ap (λ (c : List (KeyId × ValueId)). IsAttr (lookup (is_at (key_cmp (record { 0 = k }))) c)) (content_names f o).1) ∙ no_touch _ _ _
code_applied keeps (Remove dir name what) t (Attr h k) real kept rising = code_left (with_names (remove_entry (is_at (name_cmp name)))) dir t (Attr h k) (λ o. ap (λ (c : List (KeyId × ValueId)). IsAttr (lookup (is_at (key_cmp (record { 0 = k }))) c)) (content_names (remove_entry (is_at (name_cmp name))) o).1) ∙ no_touch _ _ _
code_applied keeps (Write g at bytes) t (Entry h n) real kept rising = code_left _ g t (Entry h n) (λ o. ap (λ (c : List (NameId × NameEntry)). IsEntry (lookup (is_at (name_cmp (record { 0 = n }))) c)) (others_bytes keeps (written at bytes) o).1) ∙ no_touch _ _ _
code_applied keeps (Cut g len) t (Entry h n) real kept rising = code_left _ g t (Entry h n) (λ o. ap (λ (c : List (NameId × NameEntry)). IsEntry (lookup (is_at (name_cmp (record { 0 = n }))) c)) (others_bytes keeps (take len) o).1) ∙ no_touch _ _ _
code_applied keeps (SetAttr g key value) t (Entry h n) real kept rising = code_left (with_attr key value) g t (Entry h n) (λ o. refl) ∙ no_touch _ _ _
code_applied keeps (Make dir name g what) t (Entry h n) real kept rising = go (copy_at dir t) refl
  where
    entry : NameEntry
    entry = record { gfid = g; what = what }

    f : List (NameId × NameEntry) → List (NameId × NameEntry)
    f names = insert_entry name_cmp names name entry

    absent : (k : ℕ) → (k == h) ≡ true → kind_in t k ≡ 0 → fits (kind_in t h) (Entry h n) ≡ false
    absent k e none = (let same : k ≡ h = grind (arith, nat_tests) in let zero_kind : kind_in t h ≡ 0 = subst (λ (j : ℕ). kind_in t j ≡ 0) same none in rw zero_kind refl)

    lacks : (d : Bool) → (d ≡ true → fits (kind_in t h) (Entry h n) ≡ false) → code_in t (Entry h n) ≡ (if fits (kind_in t h) (Entry h n) && (d && (name.0 == n)) then entry_code g.0 what else code_in t (Entry h n))
    lacks true none = rw (none refl) refl
    lacks false none = no_touch _ _ _

    go : (o : Option Object) → copy_at dir t ≡ o → code_in (linked dir name g what o t) (Entry h n) ≡ (if fits (kind_in t h) (Entry h n) && ((dir.0 == h) && (name.0 == n)) then entry_code g.0 what else code_in t (Entry h n))
    go None e = lacks (dir.0 == h) (λ d. absent dir.0 d (ap kind_code e))
    go (Some o) e =
        code_made g what (with_copy dir (with_names f o) t) (Entry h n)
        ∙ subst (λ (x : Option Object). code_in (changed (with_names f) dir x t) (Entry h n) ≡ (if fits (kind_in t h) (Entry h n) && ((dir.0 == h) && (name.0 == n)) then entry_code g.0 what else code_in t (Entry h n))) e
        (names_changed f dir t h n (name.0 == n) (Some entry) (λ w k. lookup_named name (record { 0 = n }) entry w.names))
code_applied keeps (Remove dir name what) t (Entry h n) real kept rising =
    names_changed (remove_entry (is_at (name_cmp name))) dir t h n (name.0 == n) None (λ w k. lookup_removed name (record { 0 = n }) w.names (rising (record { 0 = h }) w k))
