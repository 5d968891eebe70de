-- The objects of a brick stand in the order of their gfids, at every moment.
use Rattle.std.proofs.Common.{◌≡◌, ℕ, zero, suc, ◌<◌, ◌≤◌, Bool, true, false, cond, refl, arith, List, [], ◌∷◌, Option, Some, None, ◌==◌, if◌then◌else◌}
use Rattle.std.specs.Prelude.{is_some}
use Rattle.std.proofs.lemmas.Bool.Decides.{nat_tests}
use Rattle.std.specs.BTreeMap.{is_at, insert_entry}
use Rattle.std.specs.Map.{set_value}
use Rattle.std.specs.Ordering.{nat_cmp, MatchOrdering, match_ordering}
use Rattle.std.specs.Cmp.{ranks}
use Rattle.std.specs.declared.cmp.Ordering.{Ordering}
use Rattle.std.specs.declared.cmp.Ordering.TheVariants.{Less, Equal, Greater}
use Rattle.afr_base.specs.declared.ids.Gfid.{Gfid}
use Rattle.afr_base.specs.declared.ids.NameId.{NameId}
use Rattle.afr_base.specs.declared.ids.What.{What}
use Rattle.afr_base.specs.declared.ids.What.TheVariants.{File}
use Rattle.afr_object.specs.Repairs.{Contents, all_made, mended, renamed}
use Rattle.afr_object.specs.Repairs as contents
use Rattle.afr_object.specs.Tables.{Table, applied, changed, copy_at, gfid_cmp, linked, made, name_cmp, new_object, opening, opening_gfid, root, with_copy, with_names}
use Rattle.afr_object.specs.declared.change.Change.{Change}
use Rattle.afr_object.specs.declared.change.Change.TheVariants.{Write, Cut, SetAttr, Make, Remove}
use Rattle.afr_object.specs.declared.change.Repair.{Repair}
use Rattle.afr_object.specs.declared.change.Repair.TheVariants.{CutTo, Copy, PutAttrs, PutNames}
use Rattle.afr_object.specs.declared.entry.Entry.{Entry}
use Rattle.afr_object.specs.Object.{Object}
use Rattle.afr_object.specs.TablesLemmas.{same_gfid}
use Rattle.afr_lines.specs.Log.{change_at}
use Rattle.afr_lines.specs.declared.line.Line.{Line}
use Rattle.afr_lines.specs.declared.line.Line.TheVariants.{Ask}
use Rattle.afr_lines.specs.declared.request.Request.{Request}
use Rattle.afr_lines.specs.declared.request.Request.TheVariants.{Apply, Mend, Post, Pre, Settle}
use Rattle.afr_plan.specs.declared.plan.Plan.{Plan}
use Rattle.afr_model.specs.Tables.{Past, asked, carried, effect, held_before, holds, keeps_bytes, step}

-- every gfid comes after number m
abbrev pub AreAbove : ℕ → Table → Type 0
AreAbove m [] = Unit {0}
AreAbove m (x ∷ t) = (m < x.0.0) × AreAbove m t

-- the gfids rise
abbrev pub Rises : Table → Type 0
Rises [] = Unit {0}
Rises (x ∷ t) = AreAbove x.0.0 t × Rises t

above_lower : (m k : ℕ) (t : Table) → k ≤ m → AreAbove m t → AreAbove k t
above_lower m k [] low h = tt
above_lower m k (x ∷ t) low h = (omega (arith, h.0, low), above_lower m k t low h.1)

-- what lies below all gfids isn't there
pub above_none : (q : Gfid) (m : ℕ) (t : Table) → q.0 ≤ m → AreAbove m t → copy_at q t ≡ None
above_none q m [] low h = refl
above_none q m (x ∷ t) low h = (let other : (q.0 == x.0.0) ≡ false = differ q.0 m x.0.0 low h.0 in rw (same_gfid q x.0, other) (above_none q m t low h.1))
  where
    differ : (q m k : ℕ) → q ≤ m → m < k → (q == k) ≡ false
    differ q m k a b = grind (arith, nat_tests)

by_order : (n x : ℕ) (P : Table → Type 0) (a b c : Table) → (n < x → P a) → (n ≡ x → P b) → (x < n → P c) → P (match_ordering (nat_cmp n x) a b c)
by_order n x P a b c less same more = go (nat_cmp n x) (ranks n x)
  where
    go : (r : Ordering) → MatchOrdering r (n < x) (n ≡ x) (x < n) → P (match_ordering r a b c)
    go Less h = less h
    go Equal h = same h
    go Greater h = more h

above_inserted : (m : ℕ) (n : Gfid) (e : Object) (t : Table) → m < n.0 → AreAbove m t → AreAbove m (insert_entry gfid_cmp t n e)
above_inserted m n e [] low h = (low, tt)
above_inserted m n e (x ∷ t) low h =
    by_order n.0 x.0.0 (AreAbove m) ((n, e) ∷ x ∷ t) ((x.0, e) ∷ t) (x ∷ insert_entry gfid_cmp t n e) (λ less. (low, h)) (λ same. h) (λ more. (h.0, above_inserted m n e t low h.1))

rising_inserted : (n : Gfid) (e : Object) (t : Table) → Rises t → Rises (insert_entry gfid_cmp t n e)
rising_inserted n e [] h = (tt, tt)
rising_inserted n e (x ∷ t) h =
    by_order n.0 x.0.0 Rises ((n, e) ∷ x ∷ t) ((x.0, e) ∷ t) (x ∷ insert_entry gfid_cmp t n e)
    (λ less. ((less, above_lower x.0.0 n.0 t (omega (arith, less)) h.0), h)) (λ same. h) (λ more. (above_inserted x.0.0 n e t more h.0, rising_inserted n e t h.1))

above_set : (m : ℕ) (test : Gfid → Bool) (o : Object) (t : Table) → AreAbove m t → AreAbove m (set_value test t o)
above_set m test o [] h = tt
above_set m test o (x ∷ t) h = go (test x.0) (above_set m test o t h.1)
  where
    go : (hit : Bool) → AreAbove m (set_value test t o) → AreAbove m (cond hit ((x.0, o) ∷ t) (x ∷ set_value test t o))
    go true more = h
    go false more = (h.0, more)

rising_set : (test : Gfid → Bool) (o : Object) (t : Table) → Rises t → Rises (set_value test t o)
rising_set test o [] h = tt
rising_set test o (x ∷ t) h = go (test x.0) (rising_set test o t h.1)
  where
    go : (hit : Bool) → Rises (set_value test t o) → Rises (cond hit ((x.0, o) ∷ t) (x ∷ set_value test t o))
    go true more = h
    go false more = (above_set x.0.0 test o t h.0, more)

rising_changed : (f : Object → Object) (g : Gfid) (o : Option Object) (t : Table) → Rises t → Rises (changed f g o t)
rising_changed f g None t h = h
rising_changed f g (Some o) t h = rising_set (is_at (gfid_cmp g)) (f o) t h

rising_made : (g : Gfid) (what : What) (t : Table) → Rises t → Rises (made g what t)
rising_made g what t h = go (is_some (copy_at g t))
  where
    go : (there : Bool) → Rises (if there then t else insert_entry gfid_cmp t g (new_object what))
    go true = h
    go false = rising_inserted g (new_object what) t h

rising_linked : (dir : Gfid) (name : NameId) (g : Gfid) (what : What) (o : Option Object) (t : Table) → Rises t → Rises (linked dir name g what o t)
rising_linked dir name g what None t h = h
rising_linked dir name g what (Some o) t h =
    let f : Object → Object = with_names (λ names. insert_entry name_cmp names name (record { gfid = g; what = what })) in
    rising_made g what (with_copy dir (f o) t) (rising_set (is_at (gfid_cmp dir)) (f o) t h)

rising_applied : (keeps : Bool) (change : Change) (t : Table) → Rises t → Rises (applied keeps change t)
rising_applied keeps (Write g at bytes) t h = rising_changed _ g (copy_at g t) t h
rising_applied keeps (Cut g len) t h = rising_changed _ g (copy_at g t) t h
rising_applied keeps (SetAttr g key value) t h = rising_changed _ g (copy_at g t) t h
rising_applied keeps (Make dir name g what) t h = rising_linked dir name g what (copy_at dir t) t h
rising_applied keeps (Remove dir name what) t h = rising_changed _ dir (copy_at dir t) t h

rising_effect : (keeps : Bool) (change : Option Change) (t : Table) → Rises t → Rises (effect keeps change t)
rising_effect keeps None t h = h
rising_effect keeps (Some change) t h = rising_applied keeps change t h

rising_all_made : (names : List (NameId × Entry)) (t : Table) → Rises t → Rises (all_made names t)
rising_all_made [] t h = h
rising_all_made (x ∷ names) t h = rising_made x.1.gfid x.1.what (all_made names t) (rising_all_made names t h)

rising_renamed : (names : List (NameId × Entry)) (g : Gfid) (o : Option Object) (t : Table) → Rises t → Rises (renamed names g o t)
rising_renamed names g None t h = h
rising_renamed names g (Some o) t h =
    let f : Object → Object = with_names (λ old. names) in
    rising_all_made names (with_copy g (f o) t) (rising_set (is_at (gfid_cmp g)) (f o) t h)

rising_mended : (keeps : Bool) (repair : Repair) (c : Contents) (t : Table) → Rises t → Rises (mended keeps repair c t)
rising_mended keeps (CutTo g len) c t h = rising_changed _ g (copy_at g t) t h
rising_mended keeps (Copy g at span read) (contents.Bytes bytes) t h = rising_changed _ g (copy_at g t) t h
rising_mended keeps (PutAttrs g read) (contents.Attrs attrs) t h = rising_changed _ g (copy_at g t) t h
rising_mended keeps (PutNames g reads) (contents.Names names) t h = rising_renamed names g (copy_at g t) t h
rising_mended keeps repair c t h = h

rising_asked : (keeps : Bool) (r : Request) (older : List Line) (past : Past) (t : Table) → Rises t → Rises (asked keeps r older past t)
rising_asked keeps (Apply attempt) older past t h = rising_effect keeps (change_at attempt older) t h
rising_asked keeps (Mend repair) older past t h = rising_mended keeps repair (carried past older repair) t h
rising_asked keeps (Pre g kind) older past t h = rising_changed _ g (copy_at g t) t h
rising_asked keeps (Post attempt g kind missed) older past t h = rising_changed _ g (copy_at g t) t h
rising_asked keeps (Settle g kind less) older past t h = rising_changed _ g (copy_at g t) t h
rising_asked keeps r older past t h = h

rising_step : (p : Plan) (line : Line) (b : ℕ) (older : List Line) (past : Past) (t : Table) → Rises t → Rises (step p line b older past t)
rising_step p (Ask a y r told took) b older past t h = go took (y.0 == b)
  where
    go : (f here : Bool) → Rises (if f then (if here then asked (keeps_bytes p b) r older past t else t) else t)
    go true true = rising_asked (keeps_bytes p b) r older past t h
    go true false = h
    go false here = h
rising_step p line b older past t h = h

rising_opening : (files : ℕ) → Rises (opening files)
rising_opening zero = (tt, tt)
rising_opening (suc i) = rising_linked root (record { 0 = i }) (opening_gfid (suc i)) File (copy_at root (opening i)) (opening i) (rising_opening i)

-- so it is after every log
pub rising : (p : Plan) (log : List Line) (b : ℕ) → Rises (holds p log b)
rising p [] b = rising_opening p.files
rising p (line ∷ older) b = rising_step p line b older (held_before p older) (holds p older b) (rising p older b)
