-- The index of a brick lists exactly the objects that have a number above 0 there.
use Rattle.std.proofs.Common.{◌≡◌, ℕ, zero, suc, ◌<◌, ◌&&◌, Bool, true, false, refl, sym, ◌∙◌, ap, arith, List, [], ◌∷◌, length, Some, None, ◌⊎◌, inl, inr, ◌==◌, if◌then◌else◌, true≢false}
use Rattle.std.specs.Prelude.{slice_get, slice_index}
use Rattle.std.specs.List.{list_all}
use Rattle.std.proofs.lemmas.Bool.{eqb-true}
use Rattle.std.proofs.lemmas.Bool.Decides.{nat_tests}
use Rattle.afr_base.specs.Marks.{is_no_marks, is_zero_marks, marks_of}
use Rattle.afr_base.specs.declared.ids.Gfid.{Gfid}
use Rattle.afr_base.specs.declared.ids.Kind.{Kind}
use Rattle.afr_base.specs.declared.ids.Kind.TheVariants.{Attrs, Bytes, Names}
use Rattle.afr_base.specs.declared.ids.What.{What}
use Rattle.afr_base.specs.declared.marks.Marks.{Marks}
use Rattle.afr_base.specs.declared.marks.AllMarks.{AllMarks}
use Rattle.afr_object.specs.Indexed.{index_of}
use Rattle.afr_object.specs.Tables.{Table, copy_at}
use Rattle.afr_object.specs.Object.{Object}
use Rattle.afr_object.specs.TablesLemmas.{same_gfid}
use Rattle.afr_model_moves.proofs.Tests.{three_parts}
use Rattle.afr_law_quiet.specs.Undisturbed.{IsListed}
use Rattle.afr_model.proofs.Rises.{AreAbove, Rises, above_none}

-- ---- the list by the table
-- a copy with a number above 0
pub record Marked (g : Gfid) (t : Table) : Type 0 where
  pub copy : Object
  pub there : copy_at g t ≡ Some copy
  pub some : is_no_marks copy.marks ≡ false

later : (g : Gfid) (x : Gfid × Object) (t : Table) → AreAbove x.0.0 t → Marked g t → Marked g (x ∷ t)
later g x t above m = go (g.0 == x.0.0) refl
  where
    go : (same : Bool) → (g.0 == x.0.0) ≡ same → Marked g (x ∷ t)
    go true e =
        let none : copy_at g t ≡ None = above_none g x.0.0 t (let k = eqb-true g.0 x.0.0 e in omega (arith, k)) above in
        absurd (let k = m.there in cc)
    go false e = record { copy = m.copy; there = rw (same_gfid g x.0, e) m.there; some = m.some }

pair_is : (x y : Gfid × What) → Some x ≡ Some y → x ≡ y
pair_is x y e = cc e

pub listed_marked : (g : Gfid) (t : Table) → Rises t → IsListed g (index_of t) → Marked g t
listed_marked g [] h w = absurd (let k = w.2 in cc)
listed_marked g (x ∷ t) h w = go (is_no_marks x.1.marks) refl w (λ v. listed_marked g t h.1 v)
  where
    first : is_no_marks x.1.marks ≡ false → (i : ℕ) (what : What) → slice_get ((x.0, x.1.what) ∷ index_of t) i ≡ Some (g, what) → (IsListed g (index_of t) → Marked g t) → Marked g (x ∷ t)
    first none zero what e rest = (
        let same : x.0 ≡ g = ap (λ (q : Gfid × What). q.0) (pair_is (x.0, x.1.what) (g, what) e) in
        let hit : (g.0 == x.0.0) ≡ true = (let k : x.0.0 ≡ g.0 = ap (λ (q : Gfid). q.0) same in grind (arith, nat_tests)) in
        record { copy = x.1; there = rw (same_gfid g x.0, hit) refl; some = none }
        )
    first none (suc i) what e rest = later g x t h.0 (rest (i, what, e))

    go : (none : Bool) → is_no_marks x.1.marks ≡ none → IsListed g (if none then index_of t else (x.0, x.1.what) ∷ index_of t) → (IsListed g (index_of t) → Marked g t) → Marked g (x ∷ t)
    go true e v rest = later g x t h.0 (rest v)
    go false e v rest = first e v.0 v.1 v.2 rest

pub marked_listed : (g : Gfid) (t : Table) → Marked g t → IsListed g (index_of t)
marked_listed g [] m = absurd (let k = m.there in cc)
marked_listed g (x ∷ t) m = go (λ k. marked_listed g t k) (g.0 == x.0.0) refl (is_no_marks x.1.marks) refl
  where
    again : (Marked g t → IsListed g (index_of t)) → (g.0 == x.0.0) ≡ false → IsListed g (index_of t)
    again rest e = rest (record { copy = m.copy; there = (let k : copy_at g (x ∷ t) ≡ Some m.copy = m.there in rw (same_gfid g x.0, e) at k); some = m.some })

    here : (g.0 == x.0.0) ≡ true → (g ≡ x.0) × (x.1 ≡ m.copy)
    here e = (ap (λ (n : ℕ). record { 0 = n }) (eqb-true g.0 x.0.0 e), (let k : copy_at g (x ∷ t) ≡ Some m.copy = m.there in let l : Some x.1 ≡ Some m.copy = rw (same_gfid g x.0, e) at k in cc))

    go : (Marked g t → IsListed g (index_of t)) → (same : Bool) → (g.0 == x.0.0) ≡ same → (none : Bool) → is_no_marks x.1.marks ≡ none → IsListed g (if none then index_of t else (x.0, x.1.what) ∷ index_of t)
    go rest true e true f = absurd (let k = here e in true≢false (sym f ∙ ap (λ (o : Object). is_no_marks o.marks) k.1 ∙ m.some))
    go rest true e false f = (zero, x.1.what, ap (λ (q : Gfid). Some (q, x.1.what)) (sym (here e).0))
    go rest false e true f = again rest e
    go rest false e false f = (let w = again rest e in (suc w.0, w.1, w.2))

-- ---- numbers above 0
-- a number of the kind is above 0
abbrev pub IsOpen : Marks → Type 0
IsOpen m = (0 < m.dirty) ⊎ ((c : ℕ) × (c < 5) × (0 < slice_index m.pending c))

not_all : (xs : List ℕ) → list_all (λ n. n == 0) xs ≡ false → (c : ℕ) × (c < length xs) × (0 < slice_index xs c)
not_all [] h = absurd (cc h)
not_all (x ∷ xs) h = go (λ k. not_all xs k) (x == 0) refl h
  where
    go : (list_all (λ n. n == 0) xs ≡ false → (c : ℕ) × (c < length xs) × (0 < slice_index xs c)) → (zero_here : Bool) → (x == 0) ≡ zero_here → (zero_here && list_all (λ n. n == 0) xs) ≡ false → (c : ℕ) × (c < length (x ∷ xs)) × (0 < slice_index (x ∷ xs) c)
    go rest true e k = (let w = rest k in (suc w.0, omega (arith, w.1), w.2))
    go rest false e k = (zero, omega arith, grind (arith, nat_tests, e))

pub all_zero : (xs : List ℕ) → list_all (λ n. n == 0) xs ≡ true → (c : ℕ) → slice_index xs c ≡ 0
all_zero [] h c = refl
all_zero (x ∷ xs) h c = go (λ k i. all_zero xs k i) (x == 0) refl h c
  where
    go : (list_all (λ n. n == 0) xs ≡ true → (i : ℕ) → slice_index xs i ≡ 0) → (zero_here : Bool) → (x == 0) ≡ zero_here → (zero_here && list_all (λ n. n == 0) xs) ≡ true → (c : ℕ) → slice_index (x ∷ xs) c ≡ 0
    go rest true e k zero = eqb-true x 0 e
    go rest true e k (suc c) = rest k c
    go rest false e k c = absurd (cc k)

pub all_of_zero : (xs : List ℕ) → ((c : ℕ) → c < length xs → slice_index xs c ≡ 0) → list_all (λ n. n == 0) xs ≡ true
all_of_zero [] h = refl
all_of_zero (x ∷ xs) h =
    let first : (x == 0) ≡ true = (let k : x ≡ 0 = h zero (omega arith) in grind (arith, nat_tests)) in
    rw first (all_of_zero xs (λ c low. h (suc c) (omega (arith, low))))

pub open_marks : (m : Marks) → length m.pending ≡ 5 → is_zero_marks m ≡ false → IsOpen m
open_marks m five h = go (m.dirty == 0) refl h
  where
    go : (clean : Bool) → (m.dirty == 0) ≡ clean → (clean && list_all (λ n. n == 0) m.pending) ≡ false → IsOpen m
    go true e k = inr (let w = not_all m.pending k in (w.0, omega (arith, w.1, five), w.2))
    go false e k = inl (grind (arith, nat_tests, e))

pub zero_marks_say : (m : Marks) → is_zero_marks m ≡ true → (m.dirty ≡ 0) × ((c : ℕ) → slice_index m.pending c ≡ 0)
zero_marks_say m h = go (m.dirty == 0) refl h
  where
    go : (clean : Bool) → (m.dirty == 0) ≡ clean → (clean && list_all (λ n. n == 0) m.pending) ≡ true → (m.dirty ≡ 0) × ((c : ℕ) → slice_index m.pending c ≡ 0)
    go true e k = (eqb-true m.dirty 0 e, all_zero m.pending k)
    go false e k = absurd (cc k)

pub zero_marks_are : (m : Marks) → length m.pending ≡ 5 → m.dirty ≡ 0 → ((c : ℕ) → c < 5 → slice_index m.pending c ≡ 0) → is_zero_marks m ≡ true
zero_marks_are m five clean none =
    let first : (m.dirty == 0) ≡ true = grind (arith, nat_tests) in
    rw first (all_of_zero m.pending (λ c low. none c (omega (arith, low, five))))

-- a kind that has one
pub open_kind : (all : AllMarks) → is_no_marks all ≡ false → (kind : Kind) × (is_zero_marks (marks_of kind all) ≡ false)
open_kind all h = go (is_zero_marks all.bytes) refl (is_zero_marks all.attrs) refl (is_zero_marks all.names) refl h
  where
    go : (x : Bool) → is_zero_marks all.bytes ≡ x → (y : Bool) → is_zero_marks all.attrs ≡ y → (z : Bool) → is_zero_marks all.names ≡ z → (x && y && z) ≡ false → (kind : Kind) × (is_zero_marks (marks_of kind all) ≡ false)
    go false e y f z g k = (Bytes, e)
    go true e false f z g k = (Attrs, f)
    go true e true f false g k = (Names, g)
    go true e true f true g k = absurd (cc k)

pub kind_open : (all : AllMarks) (kind : Kind) → is_zero_marks (marks_of kind all) ≡ false → is_no_marks all ≡ false
kind_open all kind h = go (is_no_marks all) refl
  where
    at : (k : Kind) → is_no_marks all ≡ true → is_zero_marks (marks_of k all) ≡ true
    at Bytes e = (three_parts (is_zero_marks all.bytes) (is_zero_marks all.attrs) (is_zero_marks all.names) e).0
    at Attrs e = (three_parts (is_zero_marks all.bytes) (is_zero_marks all.attrs) (is_zero_marks all.names) e).1
    at Names e = (three_parts (is_zero_marks all.bytes) (is_zero_marks all.attrs) (is_zero_marks all.names) e).2

    go : (none : Bool) → is_no_marks all ≡ none → is_no_marks all ≡ false
    go true e = absurd (true≢false (sym (at kind e) ∙ h))
    go false e = e

pub open_not_zero : (m : Marks) → IsOpen m → is_zero_marks m ≡ false
open_not_zero m o = go (is_zero_marks m) refl
  where
    go : (clean : Bool) → is_zero_marks m ≡ clean → clean ≡ false
    go false e = refl
    go true e = (let k = zero_marks_say m e in absurd (elim o [ inl some ↦ omega (arith, some, k.0) | inr w ↦ (let z = k.1 w.0 in omega (arith, w.2, z)) ]))
