-- Every copy of a log that keeps the discipline in full is short: its bytes end where the longest file does, and its attributes stand in order.
use Rattle.std.proofs.Common.{◌≡◌, ℕ, suc, zero, ◌+◌, ◌<◌, ◌≤◌, max, Bool, true, false, ◌&&◌, refl, sym, subst, arith, List, [], ◌∷◌, length, Option, None, Some, ◌==◌, if◌then◌else◌, take, drop, length-take, length-drop}
use Rattle.std.specs.BTreeMap.{insert_entry}
use Rattle.std.specs.Cmp.{ranks}
use Rattle.std.specs.Ordering.{MatchOrdering, match_ordering, nat_cmp}
use Rattle.std.specs.declared.cmp.Ordering.{Ordering}
use Rattle.std.specs.declared.cmp.Ordering.TheVariants.{Equal, Greater, Less}
use Rattle.afr_base.specs.declared.ids.Gfid.{Gfid}
use Rattle.afr_base.specs.declared.ids.KeyId.{KeyId}
use Rattle.afr_base.specs.declared.ids.Kind.{Kind}
use Rattle.afr_base.specs.declared.ids.NameId.{NameId}
use Rattle.afr_base.specs.declared.ids.ValueId.{ValueId}
use Rattle.afr_base.specs.declared.ids.What.{What}
use Rattle.afr_base.specs.declared.ids.What.TheVariants.{Dir, File}
use Rattle.afr_base.specs.declared.marks.Marks.{Marks}
use Rattle.afr_base.specs.Marks.{closed_op, dirtied, taken_back}
use Rattle.afr_base.specs.declared.ids.ActorId.{ActorId}
use Rattle.afr_base.specs.declared.ids.BrickId.{BrickId}
use Rattle.afr_object.specs.Bytes.{copied_in, written}
use Rattle.afr_object.specs.BytesLemmas.{length-copied_in, length-written}
use Rattle.afr_lines.specs.Log.{change_at, from_oldest}
use Rattle.afr_lines.specs.declared.answer.Told.{Told}
use Rattle.afr_lines.specs.declared.line.Line.{Line}
use Rattle.afr_lines.specs.declared.line.Line.TheVariants.{Ask}
use Rattle.afr_lines.specs.declared.request.Request.{Request}
use Rattle.afr_lines.specs.declared.request.Request.TheVariants.{Apply, Mend, Post, Pre, Settle}
use Rattle.afr_lines.specs.declared.request.Request.TheVariants as request
use Rattle.afr_model.specs.Tables.{Past, asked, attrs_in, attrs_shown, bytes_shown, carried, content_in, effect, held_before, holds, keeps_bytes, step}
use Rattle.afr_object.specs.Repairs.{Contents, Bytes, Attrs, Names, mended, renamed, with_attrs}
use Rattle.afr_object.specs.Tables.{Table, applied, changed, copy_at, is_dir, is_file, key_cmp, linked, name_cmp, new_object, opening, opening_gfid, root, with_attr, with_bytes, with_copy, with_names, with_numbers}
use Rattle.afr_object.specs.declared.change.Change.{Change}
use Rattle.afr_object.specs.declared.change.Change.TheVariants.{Cut, Make, Remove, SetAttr, Write}
use Rattle.afr_object.specs.declared.change.Repair.{Repair}
use Rattle.afr_object.specs.declared.change.Repair.TheVariants.{Copy, CutTo, PutAttrs, PutNames}
use Rattle.afr_object.specs.declared.entry.Entry.{Entry}
use Rattle.afr_object.specs.Object.{Object}
use Rattle.afr_object.specs.TablesLemmas.{same_gfid}
use Rattle.afr_plan.specs.declared.plan.Plan.{Plan}
use Rattle.afr_law_tables.proofs.Sound.{EachCopy, each_all_made, each_changed, each_made}
use Rattle.afr_model_moves.specs.Transaction.{EndsLow}
use Rattle.afr_law.specs.ModelLaw.{IsKnown, IsLawful, IsReadAt, NamesReads}
use Rattle.std.proofs.lemmas.Option.{same_Some}

-- ---- attributes in order
-- every key comes after number m
abbrev pub KeysAbove : ℕ → List (KeyId × ValueId) → Type 0
KeysAbove m [] = Unit {0}
KeysAbove m (x ∷ t) = (m < x.0.0) × KeysAbove m t

-- the keys rise
abbrev pub KeysRise : List (KeyId × ValueId) → Type 0
KeysRise [] = Unit {0}
KeysRise (x ∷ t) = KeysAbove x.0.0 t × KeysRise t

keys_lower : (m k : ℕ) (t : List (KeyId × ValueId)) → k ≤ m → KeysAbove m t → KeysAbove k t
keys_lower m k [] low h = tt
keys_lower m k (x ∷ t) low h = (omega (arith, h.0, low), keys_lower m k t low h.1)

by_key : (n x : ℕ) (P : List (KeyId × ValueId) → Type 0) (a b c : List (KeyId × ValueId)) → (n < x → P a) → (n ≡ x → P b) → (x < n → P c) → P (match_ordering (nat_cmp n x) a b c)
by_key n x P a b c less same more = go (nat_cmp n x) (ranks n x)
  where
    go : (r : Ordering) → MatchOrdering r (n < x) (n ≡ x) (x < n) → P (match_ordering r a b c)
    go Less h = less h
    go Equal h = same h
    go Greater h = more h

keys_inserted : (m : ℕ) (n : KeyId) (v : ValueId) (t : List (KeyId × ValueId)) → m < n.0 → KeysAbove m t → KeysAbove m (insert_entry key_cmp t n v)
keys_inserted m n v [] low h = (low, tt)
keys_inserted m n v (x ∷ t) low h =
    by_key n.0 x.0.0 (KeysAbove m) ((n, v) ∷ x ∷ t) ((x.0, v) ∷ t) (x ∷ insert_entry key_cmp t n v) (λ less. (low, h)) (λ same. h) (λ more. (h.0, keys_inserted m n v t low h.1))

rise_inserted : (n : KeyId) (v : ValueId) (t : List (KeyId × ValueId)) → KeysRise t → KeysRise (insert_entry key_cmp t n v)
rise_inserted n v [] h = (tt, tt)
rise_inserted n v (x ∷ t) h =
    by_key n.0 x.0.0 KeysRise ((n, v) ∷ x ∷ t) ((x.0, v) ∷ t) (x ∷ insert_entry key_cmp t n v)
    (λ less. ((less, keys_lower x.0.0 n.0 t (omega (arith, less)) h.0), h)) (λ same. h) (λ more. (keys_inserted x.0.0 n v t more h.0, rise_inserted n v t h.1))

-- ---- short copies
-- its bytes end where the longest file does, and its attributes stand in order
abbrev pub IsShort : Object → Type 0
IsShort o = (length o.content ≤ 1048576) × KeysRise o.attrs

short_new : (what : What) → IsShort (new_object what)
short_new what = (omega arith, tt)

short_bytes : (keeps : Bool) (f : List ℕ → List ℕ) → ((old : List ℕ) → length old ≤ 1048576 → length (f old) ≤ 1048576) → (o : Object) → IsShort o → IsShort (with_bytes keeps f o)
short_bytes keeps f keep o h = go (keeps && is_file o.what)
  where
    go : (b : Bool) → IsShort (if b then record o { content = f o.content } else o)
    go true = (keep o.content h.0, h.1)
    go false = h

short_names : (f : List (NameId × Entry) → List (NameId × Entry)) (o : Object) → IsShort o → IsShort (with_names f o)
short_names f o h = go (is_dir o.what)
  where
    go : (b : Bool) → IsShort (if b then record o { names = f o.names } else o)
    go true = h
    go false = h

short_written : (at : ℕ) (bytes old : List ℕ) → (0 < length bytes → at + length bytes ≤ 1048576) → length old ≤ 1048576 → length (written at bytes old) ≤ 1048576
short_written at [] old ends h = h
short_written at (b ∷ bytes) old ends h =
    let is : length (written at (b ∷ bytes) old) ≡ max (length old) (at + length (b ∷ bytes)) = length-written at (b ∷ bytes) old (omega arith) in
    let low : at + length (b ∷ bytes) ≤ 1048576 = ends (omega arith) in
    omega (arith, is, low, h)

short_linked : (dir : Gfid) (name : NameId) (g : Gfid) (what : What) (t : Table) → EachCopy IsShort t → EachCopy IsShort (linked dir name g what (copy_at dir t) t)
short_linked dir name g what t all = go (copy_at dir t) refl
  where
    f : List (NameId × Entry) → List (NameId × Entry)
    f names = insert_entry name_cmp names name (record { gfid = g; what = what })

    go : (o : Option Object) → copy_at dir t ≡ o → EachCopy IsShort (linked dir name g what o t)
    go None e = all
    go (Some o) e = each_made IsShort short_new g what (with_copy dir (with_names f o) t) (subst (λ (x : Option Object). EachCopy IsShort (changed (with_names f) dir x t)) e (each_changed IsShort (with_names f) (short_names f) dir t all))

-- a change leaves every copy short
short_applied : (keeps : Bool) (change : Change) (t : Table) → EndsLow change → EachCopy IsShort t → EachCopy IsShort (applied keeps change t)
short_applied keeps (Write g at bytes) t ends all = each_changed IsShort _ (short_bytes keeps (written at bytes) (λ old h. short_written at bytes old (λ some. ends) h)) g t all
short_applied keeps (Cut g len) t ends all = each_changed IsShort _ (short_bytes keeps (take len) (λ old h. omega (arith, h, length-take len old))) g t all
short_applied keeps (SetAttr g key value) t ends all = each_changed IsShort (with_attr key value) (λ o h. (h.0, rise_inserted key value o.attrs h.1)) g t all
short_applied keeps (Remove dir name what) t ends all = each_changed IsShort _ (short_names _) dir t all
short_applied keeps (Make dir name g what) t ends all = short_linked dir name g what t all

-- what a repair carries keeps copies short
abbrev pub CarriesShort : Repair → Contents → Type 0
CarriesShort (Copy g at span read) (Bytes bytes) = 0 < length bytes → at + length bytes ≤ 1048576
CarriesShort (PutAttrs g read) (Attrs attrs) = KeysRise attrs
CarriesShort repair contents = Unit {0}

short_renamed : (names : List (NameId × Entry)) (g : Gfid) (t : Table) → EachCopy IsShort t → EachCopy IsShort (renamed names g (copy_at g t) t)
short_renamed names g t all = go (copy_at g t) refl
  where
    f : List (NameId × Entry) → List (NameId × Entry)
    f old = names

    go : (o : Option Object) → copy_at g t ≡ o → EachCopy IsShort (renamed names g o t)
    go None e = all
    go (Some o) e = each_all_made IsShort short_new names (with_copy g (with_names f o) t) (subst (λ (x : Option Object). EachCopy IsShort (changed (with_names f) g x t)) e (each_changed IsShort (with_names f) (short_names f) g t all))

short_copied : (at span : ℕ) (bytes old : List ℕ) → (0 < length bytes → at + length bytes ≤ 1048576) → length old ≤ 1048576 → length (copied_in at span bytes old) ≤ 1048576
short_copied at span bytes old ends h = omega (arith, length-copied_in at span bytes old, short_written at bytes old ends h)

-- a repair leaves every copy short
short_mended : (keeps : Bool) (repair : Repair) (contents : Contents) (t : Table) → CarriesShort repair contents → EachCopy IsShort t → EachCopy IsShort (mended keeps repair contents t)
short_mended keeps (CutTo g len) contents t fit all = each_changed IsShort _ (short_bytes keeps (take len) (λ old h. omega (arith, h, length-take len old))) g t all
short_mended keeps (Copy g at span read) (Bytes bytes) t fit all = each_changed IsShort _ (short_bytes keeps (copied_in at span bytes) (λ old h. short_copied at span bytes old fit h)) g t all
short_mended keeps (PutAttrs g read) (Attrs attrs) t fit all = each_changed IsShort (with_attrs attrs) (λ o h. (h.0, fit)) g t all
short_mended keeps (PutNames g reads) (Names names) t fit all = short_renamed names g t all
short_mended keeps repair contents t fit all = all

short_root : EachCopy IsShort ((root, new_object Dir) ∷ [])
short_root q w h = split (q.0 == 1) (subst (λ (b : Bool). (if b then Some (new_object Dir) else None) ≡ Some w) (same_gfid q root) h)
  where
    split : (same : Bool) → (if same then Some (new_object Dir) else None) ≡ Some w → IsShort w
    split true k = subst IsShort (same_Some (new_object Dir) w k) (short_new Dir)
    split false k = absurd (cc k)

short_opening : (files : ℕ) → EachCopy IsShort (opening files)
short_opening zero = short_root
short_opening (suc i) = short_linked root (record { 0 = i }) (opening_gfid (suc i)) File (opening i) (short_opening i)

-- ---- along the log
module _ (p : Plan) (older : List Line) (past : Past) (all : (k b : ℕ) → EachCopy IsShort (past k b)) where
  content_short : (g : Gfid) (k b : ℕ) → length (content_in (copy_at g (past k b))) ≤ 1048576
  content_short g k b = go (copy_at g (past k b)) refl
    where
      go : (o : Option Object) → copy_at g (past k b) ≡ o → length (content_in o) ≤ 1048576
      go None e = omega arith
      go (Some o) e = (all k b g o e).0

  attrs_rise : (g : Gfid) (k b : ℕ) → KeysRise (attrs_in (copy_at g (past k b)))
  attrs_rise g k b = go (copy_at g (past k b)) refl
    where
      go : (o : Option Object) → copy_at g (past k b) ≡ o → KeysRise (attrs_in o)
      go None e = tt
      go (Some o) e = (all k b g o e).1

  bytes_end : (g : Gfid) (at span k : ℕ) → IsReadAt older (request.ReadBytes g at span) k → 0 < length (bytes_shown past k (from_oldest k older)) → at + length (bytes_shown past k (from_oldest k older)) ≤ 1048576
  bytes_end g at span k w = subst (λ (line : Option Line). 0 < length (bytes_shown past k line) → at + length (bytes_shown past k line) ≤ 1048576) (sym w.line) (λ some. within some)
    where
      content : List ℕ
      content = content_in (copy_at g (past k w.brick.0))

      within : 0 < length (take span (drop at content)) → at + length (take span (drop at content)) ≤ 1048576
      within some = omega (arith, some, length-take span (drop at content), length-drop at content, content_short g k w.brick.0)

  -- attributes that a read showed
  pub shown_rise : (g : Gfid) (k : ℕ) → IsReadAt older (request.ReadAttrs g) k → KeysRise (attrs_shown past k (from_oldest k older))
  shown_rise g k w = subst (λ (line : Option Line). KeysRise (attrs_shown past k line)) (sym w.line) (attrs_rise g k w.brick.0)

  carried_short : (repair : Repair) → NamesReads repair older → CarriesShort repair (carried past older repair)
  carried_short (CutTo g len) h = tt
  carried_short (Copy g at span read) h = bytes_end g at span read h
  carried_short (PutAttrs g read) h = shown_rise g read h
  carried_short (PutNames g reads) h = tt

  numbers_short : (g : Gfid) (t : Table) (kind : Kind) (f : Marks → Marks) → EachCopy IsShort t → EachCopy IsShort (changed (with_numbers kind f) g (copy_at g t) t)
  numbers_short g t kind f h = each_changed IsShort (with_numbers kind f) (λ o k. k) g t h

  short_asked : (a : ActorId) (b : BrickId) (told : Told) (took keeps : Bool) (r : Request) (t : Table) → ((q : ℕ) (c : Change) → change_at q older ≡ Some c → EndsLow c) → IsKnown p (Ask a b r told took) older → EachCopy IsShort t → EachCopy IsShort (asked keeps r older past t)
  short_asked a b told took keeps (Apply attempt) t ends known h = go (change_at attempt older) refl
    where
      go : (change : Option Change) → change_at attempt older ≡ change → EachCopy IsShort (effect keeps change t)
      go None e = h
      go (Some change) e = short_applied keeps change t (ends attempt change e) h
  short_asked a b told took keeps (Mend repair) t ends known h = short_mended keeps repair (carried past older repair) t (carried_short repair known) h
  short_asked a b told took keeps (Pre g kind) t ends known h = numbers_short g t kind dirtied h
  short_asked a b told took keeps (Post attempt g kind missed) t ends known h = numbers_short g t kind (closed_op missed) h
  short_asked a b told took keeps (Settle g kind less) t ends known h = numbers_short g t kind (taken_back less) h
  short_asked a b told took keeps r t ends known h = h

  short_step : (line : Line) (b : ℕ) (t : Table) → ((q : ℕ) (c : Change) → change_at q older ≡ Some c → EndsLow c) → IsKnown p line older → EachCopy IsShort t → EachCopy IsShort (step p line b older past t)
  short_step (Ask a y r told took) b t ends known h = go took (y.0 == b)
    where
      go : (f here : Bool) → EachCopy IsShort (if f then (if here then asked (keeps_bytes p b) r older past t else t) else t)
      go true true = short_asked a y told took (keeps_bytes p b) r t ends known h
      go true false = h
      go false here = h
  short_step line b t ends known h = h

-- the writes of a log end low, before each of its lines too
abbrev pub AllEndLow : List Line → Type 0
AllEndLow [] = Unit {0}
AllEndLow (line ∷ older) = ((q : ℕ) (c : Change) → change_at q older ≡ Some c → EndsLow c) × AllEndLow older

-- the tables of every brick, now and before each line
pub all_short : (p : Plan) (log : List Line) → AllEndLow log → IsLawful p log → ((b : ℕ) → EachCopy IsShort (holds p log b)) × ((k b : ℕ) → EachCopy IsShort (held_before p log k b))
all_short p [] low lawful = (λ b. short_opening p.files, λ k b. short_opening p.files)
all_short p (line ∷ older) low lawful = (let old = all_short p older low.1 lawful.1 in (λ b. short_step p older (held_before p older) old.1 line b (holds p older b) low.0 lawful.0.1 (old.0 b), λ k b. before old k b))
  where
    before : (((b : ℕ) → EachCopy IsShort (holds p older b)) × ((k b : ℕ) → EachCopy IsShort (held_before p older k b))) → (k b : ℕ) → EachCopy IsShort (if k == length older then holds p older b else held_before p older k b)
    before old k b = go (k == length older)
      where
        go : (here : Bool) → EachCopy IsShort (if here then holds p older b else held_before p older k b)
        go true = old.0 b
        go false = old.1 k b
