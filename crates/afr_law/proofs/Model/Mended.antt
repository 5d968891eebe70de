-- What a heal's repair makes of kinds and cells, as numbers.
use Rattle.std.proofs.Common.{◌≡◌, ℕ, ◌+◌, ◌-◌, ◌≤◌, ◌^◌, Bool, true, false, ◌&&◌, not, refl, sym, ◌∙◌, ap, subst, arith, List, [], ◌∷◌, length, Option, None, Some, ◌==◌, if◌then◌else◌, take}
use Rattle.std.specs.Prelude.{nat_le, nat_lt}
use Rattle.std.specs.Option.{option_map}
use Rattle.std.specs.BTreeMap.{is_at}
use Rattle.std.specs.Map.{lookup}
use Rattle.std.proofs.lemmas.Bool.Decides.{nat_tests}
use Rattle.std.proofs.Math.Bool.{and-true}
use Rattle.afr_base.specs.declared.ids.Gfid.{Gfid}
use Rattle.afr_base.specs.declared.ids.KeyId.{KeyId}
use Rattle.afr_base.specs.declared.ids.ValueId.{ValueId}
use Rattle.afr_base.specs.declared.ids.Kind.TheVariants.{Bytes}
use Rattle.afr_base.specs.declared.ids.What.{What}
use Rattle.afr_base.specs.declared.ids.What.TheVariants.{File, Dir}
use Rattle.afr_object.specs.Bytes.{byte_at, copied_in, is_within}
use Rattle.afr_object.specs.BytesLemmas.{byte_at-copied_in}
use Rattle.afr_object.specs.Repairs.{Contents, all_made, mended, renamed, with_attrs}
use Rattle.afr_object.specs.Repairs as load
use Rattle.afr_object.specs.Tables.{Table, copy_at, changed, with_copy, with_bytes, with_names, key_cmp, name_cmp}
use Rattle.afr_object.specs.declared.change.Repair.{Repair}
use Rattle.afr_object.specs.declared.change.Repair.TheVariants.{CutTo, Copy, PutAttrs, PutNames}
use Rattle.afr_object.specs.Object.{Object}
use Rattle.afr_lines.specs.declared.answer.Told.TheVariants.{Done}
use Rattle.afr_lines.specs.declared.request.Request.TheVariants.{Mend}
use Rattle.afr_model.specs.Cells.{IsByte, IsAttr, IsEntry, value_in}
use Rattle.afr_model_moves.specs.Cells.{Cell, Byte, Attr, Entry, object_of, kind_of, fits, is_cell, what_code}
use Rattle.afr_law_tables.specs.Codes.{kind_code, value_code, cell_by, kind_in, code_in}
use Rattle.afr_model_moves.specs.Lines.{ask_by}
use Rattle.afr_law_tables.proofs.Names.{AreRising}
use Rattle.afr_model_moves.specs.Past.{Log, brick_of, keep, left_by, mends, most, named_kind, repaired}
use Rattle.afr_law_tables.proofs.Copies.{kind_changed, keep_none, what_bytes, what_names}
use Rattle.afr_law_tables.proofs.Merged.{NameTable, AreBelow, led, last_named, kind_all_made, named_is}
use Rattle.afr_law_tables.proofs.Values.{code_of, copy_of, code_changed, code_made, code_left, no_touch, content_names, others_bytes, bytes_changed, names_changed, group_bytes, group_cut, taken_byte}
use Rattle.afr_model_moves.proofs.Tests.{some_what}

-- what a key leads to, as a number
abbrev pub keyed : ℕ → List (KeyId × ValueId) → ℕ
keyed k attrs = value_code (IsAttr (lookup (is_at (key_cmp (record { 0 = k }))) attrs))

-- the byte at place i of a piece that begins with these bytes at a place, and goes on with zeros
abbrev pub piece_byte : ℕ → List ℕ → ℕ → ℕ
piece_byte at bytes i = if is_within at (length bytes) i then byte_at (i - at) bytes else 0

-- what a repair carries is what the values at its reads say; names are below n
abbrev pub Carries : ℕ → Log → (ℕ → ℕ → Cell → ℕ) → Repair → Contents → Type 0
Carries n past shown (CutTo g len) contents = Unit {0}
Carries n past shown (Copy g at span read) (load.Bytes bytes) =
    (length bytes ≤ span) × ((i : ℕ) → nat_lt i (2 ^ 63) ≡ true → is_within at span i ≡ true → piece_byte at bytes i ≡ shown read (brick_of (past read)) (Byte g.0 i))
Carries n past shown (PutAttrs g read) (load.Attrs attrs) = (k : ℕ) → keyed k attrs ≡ shown read (brick_of (past read)) (Attr g.0 k)
Carries n past shown (PutNames g reads) (load.Names names) = AreRising names × AreBelow n names × ((m : ℕ) → led m names ≡ most (λ r. shown r (brick_of (past r)) (Entry g.0 m)) reads)
Carries n past shown repair contents = ⊥

-- ---- kinds
-- the kind that a repair gives object q
abbrev pub named_by : ℕ → Log → (ℕ → ℕ → Cell → ℕ) → ℕ → Repair → ℕ
named_by n past shown q (PutNames g reads) = named_kind n (λ m. most (λ r. shown r (brick_of (past r)) (Entry g.0 m)) reads) q
named_by n past shown q repair = 0

kind_renamed : (names : NameTable) (g : Gfid) (t : Table) (q : ℕ) → kind_in (renamed names g (copy_at g t) t) q ≡ keep (kind_in t q) (if kind_in t g.0 == 0 then 0 else last_named q names)
kind_renamed names g t q = go (copy_at g t) refl
  where
    f : NameTable → NameTable
    f old = names

    go : (o : Option Object) → copy_at g t ≡ o → kind_in (renamed names g o t) q ≡ keep (kind_in t q) (if kind_code o == 0 then 0 else last_named q names)
    go None e = keep_none _ true
    go (Some o) e =
        let there : kind_in (with_copy g (with_names f o) t) q ≡ kind_in t q = subst (λ (x : Option Object). kind_in (changed (with_names f) g x t) q ≡ kind_in t q) e (kind_changed (with_names f) (what_names f) g t q) in
        rw (some_what o.what) (kind_all_made names (with_copy g (with_names f o) t) q ∙ ap (λ (k : ℕ). keep k (last_named q names)) there)

-- the kinds after a repair
pub kind_mended : (n : ℕ) (past : Log) (shown : ℕ → ℕ → Cell → ℕ) (keeps : Bool) (repair : Repair) (contents : Contents) (t : Table) (q : ℕ) → Carries n past shown repair contents
    → kind_in (mended keeps repair contents t) q ≡ keep (kind_in t q) (if kind_in t (repaired repair) == 0 then 0 else named_by n past shown q repair)
kind_mended n past shown keeps (CutTo g len) contents t q fit = kind_changed _ (what_bytes keeps (take len)) g t q ∙ keep_none _ _
kind_mended n past shown keeps (Copy g at span read) (load.Bytes bytes) t q fit = kind_changed _ (what_bytes keeps (copied_in at span bytes)) g t q ∙ keep_none _ _
kind_mended n past shown keeps (PutAttrs g read) (load.Attrs attrs) t q fit = kind_changed (with_attrs attrs) (λ o. refl) g t q ∙ keep_none _ _
kind_mended n past shown keeps (PutNames g reads) (load.Names names) t q fit =
    kind_renamed names g t q
    ∙ ap (λ (k : ℕ). keep (kind_in t q) (if kind_in t g.0 == 0 then 0 else k)) (sym (named_is n names q fit.0 fit.1) ∙ (λ i. named_kind n (λ m. fit.2 m i) q))
kind_mended n past shown keeps repair contents t q fit = absurd fit

-- ---- cells
-- what a repair brings to a cell
abbrev pub brought : Log → (ℕ → ℕ → Cell → ℕ) → Repair → Cell → ℕ
brought past shown repair cell = left_by past shown (Some (ask_by 0 0 (Mend repair) Done true)) cell

-- what it leaves where the copy has such cells, and the old value elsewhere
abbrev pub after_repair : Log → (ℕ → ℕ → Cell → ℕ) → Repair → Table → Cell → ℕ
after_repair past shown repair t cell = if fits (kind_in t (object_of cell)) cell && mends repair cell then brought past shown repair cell else code_in t cell

code_all_made : (names : NameTable) (t : Table) (cell : Cell) → code_in (all_made names t) cell ≡ code_in t cell
code_all_made [] t cell = refl
code_all_made (x ∷ more) t cell = code_made x.1.gfid x.1.what (all_made more t) cell ∙ code_all_made more t cell

-- an attribute list put in place of another
attrs_replaced : (g : Gfid) (attrs : List (KeyId × ValueId)) (t : Table) (h k new : ℕ) → keyed k attrs ≡ new → code_in (changed (with_attrs attrs) g (copy_at g t) t) (Attr h k) ≡ (if fits (kind_in t h) (Attr h k) && (g.0 == h) then new else code_in t (Attr h k))
attrs_replaced g attrs t h k new is = code_changed (with_attrs attrs) g t (Attr h k) ∙ split (g.0 == h) (copy_of t h)
  where
    pick : (w : What) (old : ℕ) → new ≡ (if not (what_code w == 0) && true then new else old)
    pick File old = refl
    pick Dir old = refl

    split : (same : Bool) (o : Option Object) → (if same then code_of (Attr h k) (option_map (with_attrs attrs) o) else code_of (Attr h k) o) ≡ (if fits (kind_code o) (Attr h k) && same then new else code_of (Attr h k) o)
    split true None = refl
    split true (Some o) = is ∙ pick o.what (code_of (Attr h k) (Some o))
    split false o = no_touch _ _ _

-- a name list put in place of another
names_replaced : (g : Gfid) (names : NameTable) (t : Table) (h m new : ℕ) → led m names ≡ new → code_in (renamed names g (copy_at g t) t) (Entry h m) ≡ (if fits (kind_in t h) (Entry h m) && (g.0 == h) then new else code_in t (Entry h m))
names_replaced g names t h m new is = go (copy_at g t) refl
  where
    f : NameTable → NameTable
    f old = names

    absent : (k : ℕ) → (k == h) ≡ true → kind_in t k ≡ 0 → fits (kind_in t h) (Entry h m) ≡ false
    absent k e none = (let same : k ≡ h = grind (arith, nat_tests) in let zero_kind : kind_in t h ≡ 0 = subst (λ (j : ℕ). kind_in t j ≡ 0) same none in rw zero_kind refl)

    lacks : (d : Bool) → (d ≡ true → fits (kind_in t h) (Entry h m) ≡ false) → code_in t (Entry h m) ≡ (if fits (kind_in t h) (Entry h m) && d then new else code_in t (Entry h m))
    lacks true none = rw (none refl) refl
    lacks false none = no_touch _ _ _

    there : code_in (changed (with_names f) g (copy_at g t) t) (Entry h m) ≡ (if fits (kind_in t h) (Entry h m) && (g.0 == h) then new else code_in t (Entry h m))
    there =
        names_changed f g t h m true (lookup (is_at (name_cmp (record { 0 = m }))) names) (λ o k. refl)
        ∙ (λ i. if fits (kind_in t h) (Entry h m) && and-true (g.0 == h) i then is i else code_in t (Entry h m))

    go : (o : Option Object) → copy_at g t ≡ o → code_in (renamed names g o t) (Entry h m) ≡ (if fits (kind_in t h) (Entry h m) && (g.0 == h) then new else code_in t (Entry h m))
    go None e = lacks (g.0 == h) (λ d. absent g.0 d (ap kind_code e))
    go (Some o) e =
        code_all_made names (with_copy g (with_names f o) t) (Entry h m)
        ∙ subst (λ (x : Option Object). code_in (changed (with_names f) g x t) (Entry h m) ≡ (if fits (kind_in t h) (Entry h m) && (g.0 == h) then new else code_in t (Entry h m))) e there

-- names put in place leave every cell but the names
renamed_left : (names : NameTable) (g : Gfid) (t : Table) (cell : Cell) → ((f : NameTable → NameTable) (o : Object) → value_in (cell_by cell) (with_names f o) ≡ value_in (cell_by cell) o) → code_in (renamed names g (copy_at g t) t) cell ≡ code_in t cell
renamed_left names g t cell same = go (copy_at g t) refl
  where
    f : NameTable → NameTable
    f old = names

    go : (o : Option Object) → copy_at g t ≡ o → code_in (renamed names g o t) cell ≡ code_in t cell
    go None e = refl
    go (Some o) e = code_all_made names (with_copy g (with_names f o) t) cell ∙ subst (λ (x : Option Object). code_in (changed (with_names f) g x t) cell ≡ code_in t cell) e (code_left (with_names f) g t cell (same f))

-- a byte of a piece, where bytes were copied in
copied_byte : (i at span : ℕ) (bytes old : List ℕ) (new : ℕ) → length bytes ≤ span → (is_within at span i ≡ true → piece_byte at bytes i ≡ new) → byte_at i (copied_in at span bytes old) ≡ (if is_within at span i then new else byte_at i old)
copied_byte i at span bytes old new short is = byte_at-copied_in i at span bytes old ∙ go (is_within at (length bytes) i) refl (is_within at span i) refl is
  where
    inside : is_within at (length bytes) i ≡ true → is_within at span i ≡ false → ⊥
    inside e f = grind (arith, nat_tests, e, f, short)

    go : (one : Bool) → is_within at (length bytes) i ≡ one → (both : Bool) → is_within at span i ≡ both → (both ≡ true → (if one then byte_at (i - at) bytes else 0) ≡ new)
        → (if one then byte_at (i - at) bytes else (if both then 0 else byte_at i old)) ≡ (if both then new else byte_at i old)
    go true e true f k = k refl
    go false e true f k = k refl
    go false e false f k = refl
    go true e false f k = absurd (inside e f)

module _ (n : ℕ) (past : Log) (shown : ℕ → ℕ → Cell → ℕ) where
  bytes_mended : (keeps : Bool) (g : Gfid) (at span read : ℕ) (bytes : List ℕ) (t : Table) (h i : ℕ) → nat_lt i (2 ^ 63) ≡ true → keeps ≡ true → Carries n past shown (Copy g at span read) (load.Bytes bytes)
      → code_in (changed (with_bytes keeps (copied_in at span bytes)) g (copy_at g t) t) (Byte h i) ≡ after_repair past shown (Copy g at span read) t (Byte h i)
  bytes_mended keeps g at span read bytes t h i real kept fit = split (g.0 == h) refl
    where
      same : (g h : ℕ) → (g == h) ≡ true → g ≡ h
      same g h e = grind (arith, nat_tests)

      hit : ℕ → Bool
      hit len = is_within at len i

      whole : (new : ℕ) → (is_within at span i ≡ true → piece_byte at bytes i ≡ new)
          → code_in (changed (with_bytes keeps (copied_in at span bytes)) g (copy_at g t) t) (Byte h i) ≡ (if fits (kind_in t h) (Byte h i) && ((g.0 == h) && nat_le at i && nat_lt i (at + span) && nat_lt i (2 ^ 63)) then new else code_in t (Byte h i))
      whole new is =
          subst (λ (k : Bool). code_in (changed (with_bytes k (copied_in at span bytes)) g (copy_at g t) t) (Byte h i) ≡ (if fits (kind_in t h) (Byte h i) && ((g.0 == h) && nat_le at i && nat_lt i (at + span) && nat_lt i (2 ^ 63)) then new else code_in t (Byte h i))) (sym kept)
          (bytes_changed (copied_in at span bytes) g t h i new (is_within at span i) (λ old. copied_byte i at span bytes old new fit.0 is)
          ∙ group_bytes (fits (kind_in t h) (Byte h i)) (g.0 == h) (nat_le at i) (nat_lt i (at + span)) (nat_lt i (2 ^ 63)) new (code_in t (Byte h i)) real)

      off : (f a b c : Bool) (x y z : ℕ) → (if f && (false && a && b && c) then x else z) ≡ (if f && (false && a && b && c) then y else z)
      off true a b c x y z = refl
      off false a b c x y z = refl

      split : (mine : Bool) → (g.0 == h) ≡ mine → code_in (changed (with_bytes keeps (copied_in at span bytes)) g (copy_at g t) t) (Byte h i) ≡ after_repair past shown (Copy g at span read) t (Byte h i)
      split true e = whole (shown read (brick_of (past read)) (Byte h i)) (λ inside. subst (λ (k : ℕ). piece_byte at bytes i ≡ shown read (brick_of (past read)) (Byte k i)) (same g.0 h e) (fit.1 i real inside))
      split false e =
          whole (piece_byte at bytes i) (λ inside. refl)
          ∙ subst (λ (b : Bool). (if fits (kind_in t h) (Byte h i) && (b && nat_le at i && nat_lt i (at + span) && nat_lt i (2 ^ 63)) then piece_byte at bytes i else code_in t (Byte h i)) ≡ (if fits (kind_in t h) (Byte h i) && (b && nat_le at i && nat_lt i (at + span) && nat_lt i (2 ^ 63)) then shown read (brick_of (past read)) (Byte h i) else code_in t (Byte h i))) (sym e)
          (off (fits (kind_in t h) (Byte h i)) (nat_le at i) (nat_lt i (at + span)) (nat_lt i (2 ^ 63)) (piece_byte at bytes i) (shown read (brick_of (past read)) (Byte h i)) (code_in t (Byte h i)))

  -- a plane of another object has nothing to say
  elsewhere : (f : Bool) (g h : ℕ) (x y z : ℕ) → ((g == h) ≡ true → x ≡ y) → (if f && (g == h) then x else z) ≡ (if f && (g == h) then y else z)
  elsewhere f g h x y z same = go f (g == h) same
    where
      go : (f mine : Bool) → (mine ≡ true → x ≡ y) → (if f && mine then x else z) ≡ (if f && mine then y else z)
      go true true k = k refl
      go true false k = refl
      go false mine k = refl

  same_of : (P : ℕ → ℕ) (g h : ℕ) → (g == h) ≡ true → P g ≡ P h
  same_of P g h e = (let s : g ≡ h = grind (arith, nat_tests) in ap P s)

  -- what stands in a cell after a repair
  pub code_mended : (keeps : Bool) (repair : Repair) (contents : Contents) (t : Table) (cell : Cell) → is_cell cell ≡ true → (kind_of cell ≡ Bytes → keeps ≡ true) → Carries n past shown repair contents
      → code_in (mended keeps repair contents t) cell ≡ after_repair past shown repair t cell
  code_mended keeps (CutTo g len) contents t (Byte h i) real kept fit =
      subst (λ (k : Bool). code_in (changed (with_bytes k (take len)) g (copy_at g t) t) (Byte h i) ≡ after_repair past shown (CutTo g len) t (Byte h i)) (sym (kept refl))
      (bytes_changed (take len) g t h i 0 (nat_le len i) (λ old. taken_byte i len old)
      ∙ group_cut (fits (kind_in t h) (Byte h i)) (g.0 == h) (nat_le len i) (nat_lt i (2 ^ 63)) 0 (code_in t (Byte h i)) real)
  code_mended keeps (CutTo g len) contents t (Attr h k) real kept fit = code_left _ g t (Attr h k) (λ o. ap (λ (c : List (KeyId × ValueId)). IsAttr (lookup (is_at (key_cmp (record { 0 = k }))) c)) (others_bytes keeps (take len) o).0) ∙ no_touch _ _ _
  code_mended keeps (CutTo g len) contents t (Entry h m) real kept fit = code_left _ g t (Entry h m) (λ o. ap (λ (c : NameTable). IsEntry (lookup (is_at (name_cmp (record { 0 = m }))) c)) (others_bytes keeps (take len) o).1) ∙ no_touch _ _ _
  code_mended keeps (Copy g at span read) (load.Bytes bytes) t (Byte h i) real kept fit = bytes_mended keeps g at span read bytes t h i real (kept refl) fit
  code_mended keeps (Copy g at span read) (load.Bytes bytes) t (Attr h k) real kept fit =
      code_left _ g t (Attr h k) (λ o. ap (λ (c : List (KeyId × ValueId)). IsAttr (lookup (is_at (key_cmp (record { 0 = k }))) c)) (others_bytes keeps (copied_in at span bytes) o).0) ∙ no_touch _ _ _
  code_mended keeps (Copy g at span read) (load.Bytes bytes) t (Entry h m) real kept fit =
      code_left _ g t (Entry h m) (λ o. ap (λ (c : NameTable). IsEntry (lookup (is_at (name_cmp (record { 0 = m }))) c)) (others_bytes keeps (copied_in at span bytes) o).1) ∙ no_touch _ _ _
  code_mended keeps (PutAttrs g read) (load.Attrs attrs) t (Byte h i) real kept fit = code_left (with_attrs attrs) g t (Byte h i) (λ o. refl) ∙ no_touch _ _ _
  code_mended keeps (PutAttrs g read) (load.Attrs attrs) t (Attr h k) real kept fit =
      attrs_replaced g attrs t h k _ (fit k)
      ∙ elsewhere (fits (kind_in t h) (Attr h k)) g.0 h _ _ (code_in t (Attr h k)) (λ e. same_of (λ j. shown read (brick_of (past read)) (Attr j k)) g.0 h e)
  code_mended keeps (PutAttrs g read) (load.Attrs attrs) t (Entry h m) real kept fit = code_left (with_attrs attrs) g t (Entry h m) (λ o. refl) ∙ no_touch _ _ _
  code_mended keeps (PutNames g reads) (load.Names names) t (Byte h i) real kept fit = renamed_left names g t (Byte h i) (λ f o. ap (λ (c : List ℕ). IsByte (byte_at i c)) (content_names f o).0) ∙ no_touch _ _ _
  code_mended keeps (PutNames g reads) (load.Names names) t (Attr h k) real kept fit =
      renamed_left names g t (Attr h k) (λ f o. ap (λ (c : List (KeyId × ValueId)). IsAttr (lookup (is_at (key_cmp (record { 0 = k }))) c)) (content_names f o).1) ∙ no_touch _ _ _
  code_mended keeps (PutNames g reads) (load.Names names) t (Entry h m) real kept fit =
      names_replaced g names t h m _ (fit.2 m)
      ∙ elsewhere (fits (kind_in t h) (Entry h m)) g.0 h _ _ (code_in t (Entry h m)) (λ e. same_of (λ j. most (λ r. shown r (brick_of (past r)) (Entry j m)) reads) g.0 h e)
  code_mended keeps repair contents t cell real kept fit = absurd fit
