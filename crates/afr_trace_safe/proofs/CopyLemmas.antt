-- What a brick's reads give is what stands in a cell.
use Rattle.std.proofs.Common.{◌≡◌, ℕ, zero, suc, ◌+◌, ◌≤◌, ◌∙◌, List, [], ◌∷◌, Option, Some, None, length, refl, ap, sym, arith, take, drop, get_or}
use Rattle.std.proofs.lemmas.List.{get_or-take, get_or-drop, take_all}
use Rattle.std.proofs.lemmas.Option.{same_Some}
use Rattle.std.specs.Option.{option_map}
use Rattle.std.specs.BTreeMap.{is_at}
use Rattle.std.specs.Map.{lookup}
use Rattle.afr_base.specs.declared.ids.Gfid.{Gfid}
use Rattle.afr_base.specs.declared.ids.KeyId.{KeyId}
use Rattle.afr_base.specs.declared.ids.NameId.{NameId}
use Rattle.afr_base.specs.declared.ids.ValueId.{ValueId}
use Rattle.afr_object.specs.Bytes.{byte_at}
use Rattle.afr_object.specs.Tables.{copy_at, key_cmp, name_cmp, view_of}
use Rattle.afr_object.specs.declared.entry.Entry.{Entry}
use Rattle.afr_object.specs.declared.entry.View.{View}
use Rattle.afr_object.specs.Object.{Object}
use Rattle.afr_lines.specs.declared.line.Line.{Line}
use Rattle.afr_plan.specs.declared.plan.Plan.{Plan}
use Rattle.afr_model.specs.Cells.{Cell, Byte, Attr, Name, IsByte, IsAttr, IsEntry, object_of_cell, value_if, value_of}
use Rattle.afr_model.specs.Tables.{attrs_in, content_in, holds, names_in}
use Rattle.afr_trace_tables.specs.Plain.{bare_object, plain_tables}
use Rattle.afr_trace_tables.proofs.BareLaws.{copy_bare}
use Rattle.afr_trace_tables.proofs.PlainLaws.{now_bare}

-- ---- bytes
-- past the end the byte is 0
pub byte_past : (i : ℕ) (bytes : List ℕ) → length bytes ≤ i → byte_at i bytes ≡ 0
byte_past zero [] h = refl
byte_past (suc i) [] h = refl
byte_past zero (x ∷ bytes) h = absurd (omega (arith, h))
byte_past (suc i) (x ∷ bytes) h = byte_past i bytes (omega (arith, h))

-- so it is where the file is shorter, or isn't there
pub byte_beyond : (g : Gfid) (i : ℕ) (o : Option Object) → length (content_in o) ≤ i → IsByte 0 ≡ value_if (Byte g i) o
byte_beyond g i None h = refl
byte_beyond g i (Some o) h = ap (λ (n : ℕ). IsByte n) (sym (byte_past i o.content h))

pub len_seen : (o : Option Object) (view : View) → Some view ≡ option_map view_of o → view.len ≡ length (content_in o)
len_seen None view e = absurd (cc e)
len_seen (Some o) view e = ap (λ (v : View). v.len) (same_Some view (view_of o) e)

pub len_absent : (o : Option Object) → None ≡ option_map view_of o → 0 ≡ length (content_in o)
len_absent None e = refl
len_absent (Some o) e = absurd (cc e)

first_of : (i : ℕ) (content : List ℕ) → byte_at 0 (take 1 (drop i content)) ≡ byte_at i content
first_of i content = get_or-take 1 (drop i content) 0 0 (omega arith) ∙ get_or-drop i content 0 0 ∙ ap (λ (k : ℕ). get_or content k 0) (let same : i + 0 ≡ i = omega arith in same)

pub byte_read : (g : Gfid) (i : ℕ) (o : Option Object) (bytes : List ℕ) → option_map (λ x. take 1 (drop i x.content)) o ≡ Some bytes → IsByte (byte_at 0 bytes) ≡ value_if (Byte g i) o
byte_read g i None bytes h = absurd (cc h)
byte_read g i (Some o) bytes h = ap IsByte (ap (byte_at 0) (sym (same_Some _ _ h)) ∙ first_of i o.content)

pub byte_absent : (g : Gfid) (i : ℕ) (o : Option Object) → o ≡ None → IsByte 0 ≡ value_if (Byte g i) o
byte_absent g i o h = rw h refl

-- all of them
pub bytes_read : (o : Option Object) (len : ℕ) (bytes : List ℕ) → len ≡ length (content_in o) → option_map (λ x. take len (drop 0 x.content)) o ≡ Some bytes → bytes ≡ content_in o
bytes_read None len bytes e h = absurd (cc h)
bytes_read (Some o) len bytes e h = sym (same_Some _ _ h) ∙ take_all len o.content (omega (arith, e))

pub bytes_absent : (o : Option Object) → o ≡ None → [] ≡ content_in o
bytes_absent o h = rw h refl

-- one of them
pub byte_value : (g : Gfid) (i : ℕ) (o : Option Object) → IsByte (byte_at i (content_in o)) ≡ value_if (Byte g i) o
byte_value g i None = ap (λ (n : ℕ). IsByte n) (byte_past i [] (omega arith))
byte_value g i (Some o) = refl

-- ---- attributes and names
-- all of them
pub attrs_read : (o : Option Object) (attrs : List (KeyId × ValueId)) → option_map (λ x. x.attrs) o ≡ Some attrs → attrs ≡ attrs_in o
attrs_read None attrs h = absurd (cc h)
attrs_read (Some o) attrs h = sym (same_Some _ _ h)

pub attrs_absent : (o : Option Object) → o ≡ None → [] ≡ attrs_in o
attrs_absent o h = rw h refl

pub names_read : (o : Option Object) (names : List (NameId × Entry)) → option_map (λ x. x.names) o ≡ Some names → names ≡ names_in o
names_read None names h = absurd (cc h)
names_read (Some o) names h = sym (same_Some _ _ h)

pub names_absent : (o : Option Object) → o ≡ None → [] ≡ names_in o
names_absent o h = rw h refl

-- one of them
pub attr_read : (g : Gfid) (key : KeyId) (o : Option Object) (value : Option ValueId) → option_map (λ x. lookup (is_at (key_cmp key)) x.attrs) o ≡ Some value → IsAttr value ≡ value_if (Attr g key) o
attr_read g key None value h = absurd (cc h)
attr_read g key (Some o) value h = ap IsAttr (sym (same_Some _ _ h))

pub entry_read : (g : Gfid) (name : NameId) (o : Option Object) (entry : Option Entry) → option_map (λ x. lookup (is_at (name_cmp name)) x.names) o ≡ Some entry → IsEntry entry ≡ value_if (Name g name) o
entry_read g name None entry h = absurd (cc h)
entry_read g name (Some o) entry h = ap IsEntry (sym (same_Some _ _ h))

-- ---- tables without numbers
value_bare : (cell : Cell) (o : Option Object) → value_if cell (option_map bare_object o) ≡ value_if cell o
value_bare cell None = refl
value_bare (Byte g i) (Some o) = refl
value_bare (Attr g key) (Some o) = refl
value_bare (Name g name) (Some o) = refl

-- what stands in a cell needs no numbers
pub value_plain : (p : Plan) (log : List Line) (b : ℕ) (cell : Cell) → value_if cell (copy_at (object_of_cell cell) ((plain_tables p log).now b)) ≡ value_of p log b cell
value_plain p log b cell =
    ap (λ (t : List (Gfid × Object)). value_if cell (copy_at (object_of_cell cell) t)) (now_bare p log b) ∙ ap (value_if cell) (copy_bare (object_of_cell cell) (holds p log b))
    ∙ value_bare cell (copy_at (object_of_cell cell) (holds p log b))
