-- The test of two values passes exactly where they are the same.
use Rattle.std.proofs.Common.{◌≡◌, ◌∙◌, ℕ, ◌==◌, ◌&&◌, true, Option, Some, None, refl, ap, arith}
use Rattle.std.proofs.lemmas.Bool.{eqb-true, and_from}
use Rattle.afr_base.specs.Bricks.{and_left, and_right}
use Rattle.afr_base.specs.Kinds.{same_what}
use Rattle.afr_base.specs.declared.ids.ValueId.{ValueId}
use Rattle.afr_base.specs.declared.ids.What.{What}
use Rattle.afr_base.specs.declared.ids.What.TheVariants.{File, Dir}
use Rattle.afr_base.proofs.TestLemmas.{same_number}
use Rattle.afr_object.specs.declared.entry.Entry.{Entry}
use Rattle.afr_model.specs.Cells.{Value, IsByte, IsAttr, IsEntry}
use Rattle.afr_trace_safe.specs.Same.{same_attr, same_entry, same_value}

abbrev attr_by : ℕ → ValueId
attr_by n = record { 0 = n }

abbrev entry_by : ℕ → What → Entry
entry_by n what = record { gfid = record { 0 = n }; what = what }

attr_is : (v w : Option ValueId) → same_attr v w ≡ true → v ≡ w
attr_is None None h = refl
attr_is (Some v) (Some w) h = ap (λ (n : ℕ). Some (attr_by n)) (eqb-true v.0 w.0 h)
attr_is None (Some w) h = absurd (cc h)
attr_is (Some v) None h = absurd (cc h)

attr_self : (v : Option ValueId) → same_attr v v ≡ true
attr_self None = refl
attr_self (Some v) = same_number v.0

what_is : (v w : What) → same_what v w ≡ true → v ≡ w
what_is File File h = refl
what_is Dir Dir h = refl
what_is File Dir h = absurd (cc h)
what_is Dir File h = absurd (cc h)

what_self : (v : What) → same_what v v ≡ true
what_self File = refl
what_self Dir = refl

entries_same : (e f : Entry) → e.gfid.0 ≡ f.gfid.0 → e.what ≡ f.what → e ≡ f
entries_same e f g w = ap (λ (n : ℕ). entry_by n e.what) g ∙ ap (λ (what : What). entry_by f.gfid.0 what) w

entry_is : (e f : Option Entry) → same_entry e f ≡ true → e ≡ f
entry_is None None h = refl
entry_is (Some e) (Some f) h =
    ap (λ (x : Entry). Some x) (entries_same e f (eqb-true e.gfid.0 f.gfid.0 (and_left (e.gfid.0 == f.gfid.0) (same_what e.what f.what) h)) (what_is e.what f.what (and_right (e.gfid.0 == f.gfid.0) (same_what e.what f.what) h)))
entry_is None (Some f) h = absurd (cc h)
entry_is (Some e) None h = absurd (cc h)

entry_self : (e : Option Entry) → same_entry e e ≡ true
entry_self None = refl
entry_self (Some e) = and_from (e.gfid.0 == e.gfid.0) (same_what e.what e.what) (same_number e.gfid.0) (what_self e.what)

pub value_is : (v w : Value) → same_value v w ≡ true → v ≡ w
value_is (IsByte m) (IsByte n) h = ap (λ (k : ℕ). IsByte k) (eqb-true m n h)
value_is (IsAttr v) (IsAttr w) h = ap (λ (o : Option ValueId). IsAttr o) (attr_is v w h)
value_is (IsEntry e) (IsEntry f) h = ap (λ (o : Option Entry). IsEntry o) (entry_is e f h)
value_is v w h = absurd (cc h)

pub value_self : (v : Value) → same_value v v ≡ true
value_self (IsByte n) = same_number n
value_self (IsAttr v) = attr_self v
value_self (IsEntry e) = entry_self e
