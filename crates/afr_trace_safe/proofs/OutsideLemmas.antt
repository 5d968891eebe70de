-- The cells that aren't looked at one by one are current.
use Rattle.std.proofs.Common.{◌≡◌, ◌∙◌, ◌↔◌, ◌⊎◌, inl, inr, ℕ, suc, ◌+◌, ◌<◌, ◌≤◌, ◌==◌, ◌&&◌, nat_le, nat_lt, Bool, true, false, List, [], ◌∷◌, Option, Some, None, length, slice_get, refl, sym, ap, subst, arith, cond, if◌then◌else◌}
use Rattle.std.proofs.lemmas.Bool.{eqb-true, cases_lt}
use Rattle.std.proofs.lemmas.Bool.Decides.{nat_tests}
use Rattle.std.proofs.lemmas.Option.{same_Some}
use Rattle.std.specs.BTreeMap.{is_at}
use Rattle.std.specs.Map.{lookup}
use Rattle.afr_base.specs.Bricks.{and_left, and_right}
use Rattle.afr_base.specs.declared.ids.Gfid.{Gfid}
use Rattle.afr_base.specs.declared.ids.KeyId.{KeyId}
use Rattle.afr_base.specs.declared.ids.Kind.TheVariants.{Bytes, Attrs, Names}
use Rattle.afr_base.specs.declared.ids.NameId.{NameId}
use Rattle.afr_base.specs.declared.ids.ValueId.{ValueId}
use Rattle.afr_object.specs.Object.{Object}
use Rattle.afr_object.specs.Tables.{copy_at, key_cmp, name_cmp}
use Rattle.afr_object.specs.declared.change.Change.{Change}
use Rattle.afr_object.specs.declared.change.Change.TheVariants.{Write, Cut, SetAttr, Make, Remove}
use Rattle.afr_object.specs.declared.entry.Entry.{Entry}
use Rattle.afr_lines.specs.Log.{change_at}
use Rattle.afr_lines.specs.declared.line.Line.{Line}
use Rattle.afr_plan.specs.declared.plan.Plan.{Plan}
use Rattle.afr_model.specs.Attempts.{IsCurrent, touches_if}
use Rattle.afr_model.specs.Cells.{Attr, Byte, Cell, IsAttr, IsByte, IsEntry, Name, Value, object_of_cell, value_if, value_of}
use Rattle.afr_model.specs.Tables.{attrs_in, content_in, names_in}
use Rattle.afr_trace_tables.specs.Plain.{plain_tables}
use Rattle.afr_trace_safe.specs.Attempts.{attempts_on, end_of, is_on, or_older, stands, verdict}
use Rattle.afr_trace_safe.specs.Covered.{AreBytesCurrent, AreKeysCurrent, AreNamesCurrent, AreTouchedCurrent, touched_in}
use Rattle.afr_trace_safe.specs.Judged.{AllCurrent, IsBrickSafe, IsKindSafe}
use Rattle.afr_trace_safe.specs.Same.{same_value}
use Rattle.afr_trace_safe.specs.declared.attempts.Attempt.{Attempt}
use Rattle.afr_trace_safe.proofs.CopyLemmas.{byte_beyond, value_plain}
use Rattle.afr_trace_safe.proofs.GatheredLemmas.{listed_on}
use Rattle.afr_trace_safe.proofs.SameLemmas.{value_self}
use Rattle.afr_trace_safe.proofs.StandsLemmas.{current_is, untold}

-- each of some attempts has a fact
abbrev pub EachAttempt : (Attempt → Type 0) → List Attempt → Type 0
EachAttempt P xs = (j : ℕ) (x : Attempt) → slice_get xs j ≡ Some x → P x

-- ---- bytes past every end
no_touch : (a b c : Bool) → c ≡ false → (a && (b && c)) ≡ false
no_touch true true c e = e
no_touch true false c e = refl
no_touch false b c e = refl

past_write : (i at n : ℕ) → at + n ≤ i → nat_lt i (at + n) ≡ false
past_write i at n h = grind (arith, nat_tests, h)

-- there each attempt leaves 0
zero_left : (g : Gfid) (i : ℕ) (c : Option Change) → end_of c ≤ i → (acknowledged rest : Bool) → rest ≡ true → or_older (verdict c acknowledged (Byte g i) (IsByte 0)) rest ≡ true
zero_left g i None high acknowledged rest h = h
zero_left g i (Some (Write f at bytes)) high acknowledged rest h =
    ap (λ (w : Option Bool). or_older w rest)
    (untold (Some (Write f at bytes)) (Byte g i) (no_touch (f.0 == g.0) (nat_le at i) (nat_lt i (at + length bytes)) (past_write i at (length bytes) high)) acknowledged (IsByte 0))
    ∙ h
zero_left g i (Some (Cut f len)) high acknowledged rest h = by ((f.0 == g.0) && nat_le len i)
  where
    by : (t : Bool) → or_older (if t then Some true else None) rest ≡ true
    by true = refl
    by false = h
zero_left g i (Some (SetAttr f key value)) high acknowledged rest h = h
zero_left g i (Some (Make dir name f what)) high acknowledged rest h = h
zero_left g i (Some (Remove dir name what)) high acknowledged rest h = h

zero_stands : (log : List Line) (g : Gfid) (i : ℕ) (xs : List Attempt) → EachAttempt (λ x. end_of (change_at x.position log) ≤ i) xs → stands log (Byte g i) (IsByte 0) true xs ≡ true
zero_stands log g i [] each = refl
zero_stands log g i (x ∷ more) each =
    zero_left g i (change_at x.position log) (each 0 x refl) x.acknowledged (stands log (Byte g i) (IsByte 0) true more) (zero_stands log g i more (λ j y e. each (suc j) y e))

-- ---- other cells
-- a value stands as the opening one, or an attempt touches its cell
touched_or : (log : List Line) (cell : Cell) (v : Value) (Q : Type 0) (xs : List Attempt) → EachAttempt (λ x. touches_if (change_at x.position log) cell ≡ true → Q) xs → (stands log cell v true xs ≡ true) ⊎ Q
touched_or log cell v Q [] each = inl refl
touched_or log cell v Q (x ∷ more) each = by (touches_if (change_at x.position log) cell) refl (touched_or log cell v Q more (λ j y e. each (suc j) y e))
  where
    by : (t : Bool) → touches_if (change_at x.position log) cell ≡ t → (stands log cell v true more ≡ true) ⊎ Q
        → (or_older (verdict (change_at x.position log) x.acknowledged cell v) (stands log cell v true more) ≡ true) ⊎ Q
    by true h rest = inr (each 0 x refl h)
    by false h (inl s) = inl (ap (λ (w : Option Bool). or_older w (stands log cell v true more)) (untold (change_at x.position log) cell h x.acknowledged v) ∙ s)
    by false h (inr q) = inr q

abbrev key_by : ℕ → KeyId
key_by n = record { 0 = n }

abbrev name_by : ℕ → NameId
name_by n = record { 0 = n }

abbrev object_by : ℕ → Gfid
object_by n = record { 0 = n }

key_touched : (g : Gfid) (key : KeyId) (o : Option Change) → touches_if o (Attr g key) ≡ true → touched_in Attrs o ≡ Some (Attr g key)
key_touched g key (Some (SetAttr f k value)) t =
    ap (λ (n : ℕ). Some (Attr (object_by n) k)) (eqb-true f.0 g.0 (and_left (f.0 == g.0) (k.0 == key.0) t)) ∙ ap (λ (n : ℕ). Some (Attr g (key_by n))) (eqb-true k.0 key.0 (and_right (f.0 == g.0) (k.0 == key.0) t))
key_touched g key o t = absurd (cc t)

name_touched : (g : Gfid) (name : NameId) (o : Option Change) → touches_if o (Name g name) ≡ true → touched_in Names o ≡ Some (Name g name)
name_touched g name (Some (Make dir n f what)) t =
    ap (λ (m : ℕ). Some (Name (object_by m) n)) (eqb-true dir.0 g.0 (and_left (dir.0 == g.0) (n.0 == name.0) t)) ∙ ap (λ (m : ℕ). Some (Name g (name_by m))) (eqb-true n.0 name.0 (and_right (dir.0 == g.0) (n.0 == name.0) t))
name_touched g name (Some (Remove dir n what)) t =
    ap (λ (m : ℕ). Some (Name (object_by m) n)) (eqb-true dir.0 g.0 (and_left (dir.0 == g.0) (n.0 == name.0) t)) ∙ ap (λ (m : ℕ). Some (Name g (name_by m))) (eqb-true n.0 name.0 (and_right (dir.0 == g.0) (n.0 == name.0) t))
name_touched g name o t = absurd (cc t)

-- what is found stands at some place
abbrev FoundAt : {K V : Type 0} → (K → ℕ) → ℕ → List (K × V) → Type 0
FoundAt {K} {V} number n xs = (j : ℕ) × (x : K × V) × (slice_get xs j ≡ Some x) × (number x.0 ≡ n)

found_at : {K V : Type 0} (number : K → ℕ) (test : K → Bool) (n : ℕ) → ((k : K) → test k ≡ true → number k ≡ n) → (xs : List (K × V)) (v : V) → lookup test xs ≡ Some v → FoundAt number n xs
found_at number test n is [] v e = absurd (cc e)
found_at {K} {V} number test n is (x ∷ xs) v e = by (test x.0) refl e (found_at number test n is xs v)
  where
    by : (f : Bool) → test x.0 ≡ f → cond f (Some x.1) (lookup test xs) ≡ Some v → (lookup test xs ≡ Some v → FoundAt number n xs) → FoundAt number n (x ∷ xs)
    by true h e more = (0, x, refl, is x.0 h)
    by false h e more = let r = more e in (suc r.0, r.1, r.2, r.3)

same_key : (key k : KeyId) → is_at (key_cmp key) k ≡ true → k.0 ≡ key.0
same_key key k h = grind (arith, nat_tests, h)

same_name : (name n : NameId) → is_at (name_cmp name) n ≡ true → n.0 ≡ name.0
same_name name n h = grind (arith, nat_tests, h)

attr_value : (g : Gfid) (key : KeyId) (o : Option Object) → value_if (Attr g key) o ≡ IsAttr (lookup (is_at (key_cmp key)) (attrs_in o))
attr_value g key None = refl
attr_value g key (Some o) = refl

name_value : (g : Gfid) (name : NameId) (o : Option Object) → value_if (Name g name) o ≡ IsEntry (lookup (is_at (name_cmp name)) (names_in o))
name_value g name None = refl
name_value g name (Some o) = refl

key_of_touched : (g : Gfid) (o : Option Change) (cell : Cell) → is_on g o ≡ true → touched_in Attrs o ≡ Some cell → (key : KeyId) × (Attr g key ≡ cell)
key_of_touched g (Some (SetAttr f k value)) cell on e = (k, sym (ap (λ (n : ℕ). Attr (object_by n) k) (eqb-true f.0 g.0 on)) ∙ same_Some (Attr f k) cell e)
key_of_touched g o cell on e = absurd (cc e)

name_of_touched : (g : Gfid) (o : Option Change) (cell : Cell) → is_on g o ≡ true → touched_in Names o ≡ Some cell → (name : NameId) × (Name g name ≡ cell)
name_of_touched g (Some (Make dir n f what)) cell on e = (n, sym (ap (λ (m : ℕ). Name (object_by m) n) (eqb-true dir.0 g.0 on)) ∙ same_Some (Name dir n) cell e)
name_of_touched g (Some (Remove dir n what)) cell on e = (n, sym (ap (λ (m : ℕ). Name (object_by m) n) (eqb-true dir.0 g.0 on)) ∙ same_Some (Name dir n) cell e)
name_of_touched g o cell on e = absurd (cc e)

-- ---- three tests
three_pass : (a b c : Bool) → (a && b && c) ≡ true → (a ≡ true) × (b ≡ true) × (c ≡ true)
three_pass true true true h = (refl, refl, refl)
three_pass true true false h = absurd (cc h)
three_pass true false c h = absurd (cc h)
three_pass false b c h = absurd (cc h)

-- what holds where each of three tests passes
pub all_tests : (one two three flag : Bool) (P Q R S : Type 0) → flag ≡ (one && two && three) → (one ≡ true) ↔ P → (two ≡ true) ↔ Q → (three ≡ true) ↔ R → (P → Q → R → S) → (S → P) → (S → Q) → (S → R) → (flag ≡ true) ↔ S
all_tests one two three flag P Q R S e a b c to fp fq fr = (forth, back)
  where
    forth : flag ≡ true → S
    forth h = let t = three_pass one two three (sym e ∙ h) in to (a.0 t.0) (b.0 t.1) (c.0 t.2)

    back : S → flag ≡ true
    back s = e ∙ rw (a.1 (fp s), b.1 (fq s), c.1 (fr s)) refl

-- ---- on one brick
module _ (p : Plan) (log : List Line) (b : ℕ) (g : Gfid) (n : ℕ) (attempts : List Attempt) (len : n ≡ length log) (all : attempts ≡ attempts_on log g n) where
  -- a value that stands is current
  stands_current : (cell : Cell) (v : Value) → object_of_cell cell ≡ g → v ≡ value_of p log b cell → v ≡ value_of p [] b cell → stands log cell v true attempts ≡ true → IsCurrent p log b cell
  stands_current cell v of here start s =
      (current_is p log b g cell v v n attempts (stands log cell v (same_value v v) attempts) of len here start all refl).0 (ap (λ (f : Bool). stands log cell v f attempts) (value_self v) ∙ s)

  byte_outside : (i end : ℕ) → end ≤ i → length (content_in (copy_at g ((plain_tables p log).now b))) ≤ end → length (content_in (copy_at g ((plain_tables p []).now b))) ≤ end
      → EachAttempt (λ x. end_of (change_at x.position log) ≤ end) attempts → IsCurrent p log b (Byte g i)
  byte_outside i end high here start each =
      stands_current (Byte g i) (IsByte 0) refl (byte_beyond g i (copy_at g ((plain_tables p log).now b)) (omega (arith, high, here)) ∙ value_plain p log b (Byte g i))
      (byte_beyond g i (copy_at g ((plain_tables p []).now b)) (omega (arith, high, start)) ∙ value_plain p [] b (Byte g i)) (zero_stands log g i attempts (λ j x e. low (end_of (change_at x.position log)) (each j x e)))
    where
      low : (m : ℕ) → m ≤ end → m ≤ i
      low m h = omega (arith, h, high)

  pub bytes_all : (end : ℕ) (flag : Bool) → length (content_in (copy_at g ((plain_tables p log).now b))) ≤ end → length (content_in (copy_at g ((plain_tables p []).now b))) ≤ end
      → EachAttempt (λ x. end_of (change_at x.position log) ≤ end) attempts → (flag ≡ true) ↔ AreBytesCurrent p log b g end → (flag ≡ true) ↔ AllCurrent p log b g Bytes
  bytes_all end flag here start each told = (λ e i. by i (cases_lt i end) (told.0 e), λ h. told.1 (λ i low. h i))
    where
      by : (i : ℕ) → (i < end) ⊎ (end ≤ i) → AreBytesCurrent p log b g end → IsCurrent p log b (Byte g i)
      by i (inl low) below = below i low
      by i (inr high) below = byte_outside i end high here start each

  -- ---- attributes
  attr_current : (key : KeyId) (here start : List (KeyId × ValueId)) → here ≡ attrs_in (copy_at g ((plain_tables p log).now b)) → start ≡ attrs_in (copy_at g ((plain_tables p []).now b)) → AreKeysCurrent p log b g here → AreKeysCurrent p log b g start
      → AreTouchedCurrent p log b Attrs attempts → IsCurrent p log b (Attr g key)
  attr_current key here start eh es one two three = by (lookup (is_at (key_cmp key)) here) refl (lookup (is_at (key_cmp key)) start) refl
    where
      at : (xs : List (KeyId × ValueId)) → AreKeysCurrent p log b g xs → (v : ValueId) → lookup (is_at (key_cmp key)) xs ≡ Some v → IsCurrent p log b (Attr g key)
      at xs each v e =
          let f = found_at (λ (k : KeyId). k.0) (is_at (key_cmp key)) key.0 (λ k h. same_key key k h) xs v e in
          subst (λ (m : ℕ). IsCurrent p log b (Attr g (key_by m))) f.3 (each f.0 f.1 f.2)

      value : (l : List Line) (xs : List (KeyId × ValueId)) → xs ≡ attrs_in (copy_at g ((plain_tables p l).now b)) → lookup (is_at (key_cmp key)) xs ≡ None → IsAttr None ≡ value_of p l b (Attr g key)
      value l xs e none =
          ap (λ (w : Option ValueId). IsAttr w) (sym none ∙ ap (lookup (is_at (key_cmp key))) e) ∙ sym (attr_value g key (copy_at g ((plain_tables p l).now b))) ∙ value_plain p l b (Attr g key)

      by : (u : Option ValueId) → lookup (is_at (key_cmp key)) here ≡ u → (w : Option ValueId) → lookup (is_at (key_cmp key)) start ≡ w → IsCurrent p log b (Attr g key)
      by (Some v) e w f = at here one v e
      by None e (Some v) f = at start two v f
      by None e None f =
          elim
          (touched_or log (Attr g key) (IsAttr None) (IsCurrent p log b (Attr g key)) attempts (λ j x h t. three j x h (Attr g key) (key_touched g key (change_at x.position log) t))) as (λ _. IsCurrent p log b (Attr g key)) [
            | inl s ↦ stands_current (Attr g key) (IsAttr None) refl (value log here eh e) (value [] start es f) s
            | inr q ↦ q
          ]

  -- ---- names
  name_current : (name : NameId) (here start : List (NameId × Entry)) → here ≡ names_in (copy_at g ((plain_tables p log).now b)) → start ≡ names_in (copy_at g ((plain_tables p []).now b)) → AreNamesCurrent p log b g here → AreNamesCurrent p log b g start
      → AreTouchedCurrent p log b Names attempts → IsCurrent p log b (Name g name)
  name_current name here start eh es one two three = by (lookup (is_at (name_cmp name)) here) refl (lookup (is_at (name_cmp name)) start) refl
    where
      at : (xs : List (NameId × Entry)) → AreNamesCurrent p log b g xs → (v : Entry) → lookup (is_at (name_cmp name)) xs ≡ Some v → IsCurrent p log b (Name g name)
      at xs each v e =
          let f = found_at (λ (k : NameId). k.0) (is_at (name_cmp name)) name.0 (λ k h. same_name name k h) xs v e in
          subst (λ (m : ℕ). IsCurrent p log b (Name g (name_by m))) f.3 (each f.0 f.1 f.2)

      value : (l : List Line) (xs : List (NameId × Entry)) → xs ≡ names_in (copy_at g ((plain_tables p l).now b)) → lookup (is_at (name_cmp name)) xs ≡ None → IsEntry None ≡ value_of p l b (Name g name)
      value l xs e none =
          ap (λ (w : Option Entry). IsEntry w) (sym none ∙ ap (lookup (is_at (name_cmp name))) e) ∙ sym (name_value g name (copy_at g ((plain_tables p l).now b))) ∙ value_plain p l b (Name g name)

      by : (u : Option Entry) → lookup (is_at (name_cmp name)) here ≡ u → (w : Option Entry) → lookup (is_at (name_cmp name)) start ≡ w → IsCurrent p log b (Name g name)
      by (Some v) e w f = at here one v e
      by None e (Some v) f = at start two v f
      by None e None f =
          elim
          (touched_or log (Name g name) (IsEntry None) (IsCurrent p log b (Name g name)) attempts (λ j x h t. three j x h (Name g name) (name_touched g name (change_at x.position log) t))) as (λ _. IsCurrent p log b (Name g name)) [
            | inl s ↦ stands_current (Name g name) (IsEntry None) refl (value log here eh e) (value [] start es f) s
            | inr q ↦ q
          ]

  -- ---- both
  on_it : (j : ℕ) (x : Attempt) → slice_get attempts j ≡ Some x → is_on g (change_at x.position log) ≡ true
  on_it j x e = listed_on log g n j x (ap (λ (xs : List Attempt). slice_get xs j) (sym all) ∙ e)

  pub attrs_all : (here start : List (KeyId × ValueId)) (one two three flag : Bool) → here ≡ attrs_in (copy_at g ((plain_tables p log).now b)) → start ≡ attrs_in (copy_at g ((plain_tables p []).now b)) → flag ≡ (one && two && three)
      → (one ≡ true) ↔ AreKeysCurrent p log b g here → (two ≡ true) ↔ AreKeysCurrent p log b g start → (three ≡ true) ↔ AreTouchedCurrent p log b Attrs attempts → (flag ≡ true) ↔ AllCurrent p log b g Attrs
  attrs_all here start one two three flag eh es e x y z =
      all_tests one two three flag (AreKeysCurrent p log b g here) (AreKeysCurrent p log b g start) (AreTouchedCurrent p log b Attrs attempts) (AllCurrent p log b g Attrs) e x y z (λ u v w key. attr_current key here start eh es u v w)
      (λ h j k f. h k.0) (λ h j k f. h k.0)
      (λ h j k f cell t. let found = key_of_touched g (change_at k.position log) cell (on_it j k f) t in subst (λ (c : Cell). IsCurrent p log b c) found.1 (h found.0))

  pub names_all : (here start : List (NameId × Entry)) (one two three flag : Bool) → here ≡ names_in (copy_at g ((plain_tables p log).now b)) → start ≡ names_in (copy_at g ((plain_tables p []).now b)) → flag ≡ (one && two && three)
      → (one ≡ true) ↔ AreNamesCurrent p log b g here → (two ≡ true) ↔ AreNamesCurrent p log b g start → (three ≡ true) ↔ AreTouchedCurrent p log b Names attempts → (flag ≡ true) ↔ AllCurrent p log b g Names
  names_all here start one two three flag eh es e x y z =
      all_tests one two three flag (AreNamesCurrent p log b g here) (AreNamesCurrent p log b g start) (AreTouchedCurrent p log b Names attempts) (AllCurrent p log b g Names) e x y z (λ u v w name. name_current name here start eh es u v w)
      (λ h j k f. h k.0) (λ h j k f. h k.0)
      (λ h j k f cell t. let found = name_of_touched g (change_at k.position log) cell (on_it j k f) t in subst (λ (c : Cell). IsCurrent p log b c) found.1 (h found.0))

-- what is safe in each of three kinds is safe
pub all_kinds : (p : Plan) (log : List Line) (g : Gfid) (b : ℕ) → IsKindSafe p log g b Bytes → IsKindSafe p log g b Attrs → IsKindSafe p log g b Names → IsBrickSafe p log g b
all_kinds p log g b one two three Bytes = one
all_kinds p log g b one two three Attrs = two
all_kinds p log g b one two three Names = three
