-- Objects that are put into a rising list and taken out of it, one by one and by the row.
use Rattle.std.proofs.Common.{◌≡◌, ℕ, ◌+◌, ◌<◌, Bool, true, false, cond, not, filter, length, take, get_or, add-one, [], ◌∷◌, ◌++◌, Option, Some, None, refl, sym, ap, ◌∙◌, ◌⊎◌, inl, inr, arith, ◌==◌, if◌then◌else◌}
use Rattle.std.proofs.Math.Seq.{take-suc}
use Rattle.std.proofs.lemmas.Bool.Decides.{eqb_tells, nat_tests}
use Rattle.std.specs.BTreeMap.{is_at, insert_entry}
use Rattle.std.specs.List.{AllByRecursion}
use Rattle.std.specs.List.Sorted.{IsStrictlySortedBy}
use Rattle.std.specs.Map.{keys_of, remove_entry}
use Rattle.std.specs.Ordering.{match_ordering}
use Rattle.std.specs.declared.cmp.Ordering.{Ordering}
use Rattle.std.specs.declared.cmp.Ordering.TheVariants.{Less, Equal, Greater}
use Rattle.afr_base.specs.declared.ids.Gfid.{Gfid}
use Rattle.afr_base.specs.declared.ids.What.{What}
use Rattle.afr_object.specs.Tables.{gfid_cmp}
use Rattle.afr_object.specs.TablesLemmas.{same_gfid}
use Rattle.afr_index.specs.Listed.{IsRising, Listed, kind_at, with_all}

abbrev put : Gfid → What → Listed → Listed
put g what t = insert_entry gfid_cmp t g what

abbrev without : Gfid → Listed → Listed
without g t = remove_entry (is_at (gfid_cmp g)) t

-- the object comes before all of the list
abbrev IsBelow : Gfid → Listed → Type 0
IsBelow g t = AllByRecursion (λ y. gfid_cmp g y ≡ Less) (keys_of t)

itself : (g : Gfid) → gfid_cmp g g ≡ Equal
itself g = grind (arith, nat_tests)

below_lower : (g k : Gfid) (t : Listed) → gfid_cmp g k ≡ Less → IsBelow k t → IsBelow g t
below_lower g k [] l h = tt
below_lower g k (x ∷ t) l h = (let m = h.0 in grind (arith, nat_tests, l, m), below_lower g k t l h.1)

below_put : (k g : Gfid) (what : What) (t : Listed) → gfid_cmp k g ≡ Less → IsBelow k t → IsBelow k (put g what t)
below_put k g what [] l h = (l, tt)
below_put k g what (x ∷ t) l h = step (gfid_cmp g x.0) (below_put k g what t l h.1)
  where
    step : (r : Ordering) → IsBelow k (put g what t) → IsBelow k (match_ordering r ((g, what) ∷ x ∷ t) ((x.0, what) ∷ t) (x ∷ put g what t))
    step Less more = (l, h)
    step Equal more = h
    step Greater more = (h.0, more)

-- a rising list still rises with one object put in
pub rising_put : (g : Gfid) (what : What) (t : Listed) → IsRising t → IsRising (put g what t)
unfolding IsStrictlySortedBy
rising_put g what [] h = (tt, tt)
rising_put g what (x ∷ t) h = step (gfid_cmp g x.0) refl (rising_put g what t h.1)
  where
    step : (r : Ordering) → gfid_cmp g x.0 ≡ r → IsRising (put g what t) → IsRising (match_ordering r ((g, what) ∷ x ∷ t) ((x.0, what) ∷ t) (x ∷ put g what t))
    step Less e more = ((e, below_lower g x.0 t e h.0), h)
    step Equal e more = h
    step Greater e more = (below_put x.0 g what t (grind (arith, nat_tests, e)) h.0, more)

pub rising_all : (row t : Listed) → IsRising t → IsRising (with_all row t)
rising_all [] t h = h
rising_all (e ∷ row) t h = rising_all row (put e.0 e.1 t) (rising_put e.0 e.1 t h)

-- the last of a row is put in last
pub pushed : (row t : Listed) (g : Gfid) (what : What) → with_all (row ++ (g, what) ∷ []) t ≡ put g what (with_all row t)
pushed [] t g what = refl
pushed (e ∷ row) t g what = pushed row (put e.0 e.1 t) g what

-- one more of the row is put in
pub next : (row t : Listed) (i : ℕ) (d : Gfid × What) → i < length row → with_all (take (i + 1) row) t ≡ put (get_or row i d).0 (get_or row i d).1 (with_all (take i row) t)
next row t i d l = rw (add-one, take-suc row i d l) (pushed (take i row) t (get_or row i d).0 (get_or row i d).1)

-- ---- an object is taken out
without_below : (g : Gfid) (t : Listed) → IsBelow g t → without g t ≡ t
without_below g [] h = refl
without_below g (x ∷ t) h = let more = without_below g t h.1 in rw (h.0, more) refl

put_below : (g : Gfid) (what : What) (t : Listed) → IsBelow g t → put g what t ≡ (g, what) ∷ t
put_below g what [] h = refl
put_below g what (x ∷ t) h = rw h.0 refl

without_put : (g : Gfid) (what : What) (t : Listed) → IsRising t → without g (put g what t) ≡ without g t
unfolding IsStrictlySortedBy
without_put g what [] h = rw (itself g) refl
without_put g what (x ∷ t) h = step (gfid_cmp g x.0) refl (without_put g what t h.1)
  where
    step : (r : Ordering) → gfid_cmp g x.0 ≡ r → without g (put g what t) ≡ without g t → without g (match_ordering r ((g, what) ∷ x ∷ t) ((x.0, what) ∷ t) (x ∷ put g what t)) ≡ without g (x ∷ t)
    step Less e more = rw (itself g, e, without_below g t (below_lower g x.0 t e h.0)) refl
    step Equal e more = rw e refl
    step Greater e more = rw (e, more) refl

without_other : (g q : Gfid) (what : What) (t : Listed) → (g.0 ≡ q.0 → ⊥) → IsRising t → without g (put q what t) ≡ put q what (without g t)
unfolding IsStrictlySortedBy
without_other g q what [] n h = let other : is_at (gfid_cmp g) q ≡ false = grind (arith, nat_tests, n) in rw other refl
without_other g q what (x ∷ t) n h = step (gfid_cmp q x.0) refl (eqb_tells g.0 x.0.0) (without_other g q what t n h.1)
  where
    other : is_at (gfid_cmp g) q ≡ false
    other = grind (arith, nat_tests, n)

    step : (r : Ordering) → gfid_cmp q x.0 ≡ r → ((g.0 == x.0.0) ≡ true) × (g.0 ≡ x.0.0) ⊎ ((g.0 == x.0.0) ≡ false) × (g.0 ≡ x.0.0 → ⊥) → without g (put q what t) ≡ put q what (without g t)
        → without g (match_ordering r ((q, what) ∷ x ∷ t) ((x.0, what) ∷ t) (x ∷ put q what t)) ≡ put q what (cond (is_at (gfid_cmp g) x.0) t (x ∷ without g t))
    step Less e (inl s) more = rw (other, same_gfid g x.0, s.0, put_below q what t (below_lower q x.0 t e h.0)) refl
    step Less e (inr s) more = rw (other, same_gfid g x.0, s.0, e) refl
    step Equal e (inl s) more = absurd (n (grind (arith, nat_tests, e, s.1)))
    step Equal e (inr s) more = rw (same_gfid g x.0, s.0, e) refl
    step Greater e (inl s) more = rw (same_gfid g x.0, s.0) refl
    step Greater e (inr s) more = rw (same_gfid g x.0, s.0, e, more) refl

-- what is taken out of the row and of the list is taken out of the list with the row put in
pub cleared : (g : Gfid) (row t : Listed) → IsRising t → with_all (filter (λ e. not (e.0.0 == g.0)) row) (without g t) ≡ without g (with_all row t)
cleared g [] t h = refl
cleared g (e ∷ row) t h = step (eqb_tells e.0.0 g.0) (cleared g row (put e.0 e.1 t) (rising_put e.0 e.1 t h))
  where
    step : ((e.0.0 == g.0) ≡ true) × (e.0.0 ≡ g.0) ⊎ ((e.0.0 == g.0) ≡ false) × (e.0.0 ≡ g.0 → ⊥) → with_all (filter (λ e. not (e.0.0 == g.0)) row) (without g (put e.0 e.1 t)) ≡ without g (with_all row (put e.0 e.1 t))
        → with_all (if not (e.0.0 == g.0) then e ∷ filter (λ e. not (e.0.0 == g.0)) row else filter (λ e. not (e.0.0 == g.0)) row) (without g t) ≡ without g (with_all row (put e.0 e.1 t))
    step (inl s) more =
        let same : e.0 ≡ g = ap (λ (n : ℕ). record { 0 = n }) s.1 in
        let gone : without g (put e.0 e.1 t) ≡ without g t = rw same (without_put g e.1 t h) in
        rw s.0 (ap (λ (u : Listed). with_all (filter (λ e. not (e.0.0 == g.0)) row) u) (sym gone) ∙ more)
    step (inr s) more =
        let stays : without g (put e.0 e.1 t) ≡ put e.0 e.1 (without g t) = without_other g e.0 e.1 t (λ k. s.1 (sym k)) h in
        rw s.0 (ap (λ (u : Listed). with_all (filter (λ e. not (e.0.0 == g.0)) row) u) (sym stays) ∙ more)

-- ---- what a look-up finds
pub kind_put : (g q : Gfid) (what : What) (t : Listed) → kind_at q (put g what t) ≡ (if g.0 == q.0 then Some what else kind_at q t)
kind_put g q what [] = rw (same_gfid q g) (grind (arith, nat_tests))
kind_put g q what (x ∷ t) = grind (arith, nat_tests, same_gfid q g, same_gfid q x.0, kind_put g q what t)

kind_below : (g : Gfid) (t : Listed) → IsBelow g t → kind_at g t ≡ None
kind_below g [] h = refl
kind_below g (x ∷ t) h = rw h.0 (kind_below g t h.1)

pub kind_removed : (g q : Gfid) (t : Listed) → IsRising t → kind_at q (without g t) ≡ (if g.0 == q.0 then None else kind_at q t)
unfolding IsStrictlySortedBy
kind_removed g q [] h = go (g.0 == q.0)
  where
    none : Option What
    none = None

    go : (b : Bool) → none ≡ (if b then none else none)
    go true = refl
    go false = refl
kind_removed g q (x ∷ t) h = rw (same_gfid g x.0) (step (eqb_tells g.0 x.0.0) (kind_removed g q t h.1))
  where
    step : ((g.0 == x.0.0) ≡ true) × (g.0 ≡ x.0.0) ⊎ ((g.0 == x.0.0) ≡ false) × (g.0 ≡ x.0.0 → ⊥) → kind_at q (without g t) ≡ (if g.0 == q.0 then None else kind_at q t)
        → kind_at q (cond (g.0 == x.0.0) t (x ∷ without g t)) ≡ (if g.0 == q.0 then None else kind_at q (x ∷ t))
    step (inl s) more = rw s.0 (found (eqb_tells g.0 q.0))
      where
        found : ((g.0 == q.0) ≡ true) × (g.0 ≡ q.0) ⊎ ((g.0 == q.0) ≡ false) × (g.0 ≡ q.0 → ⊥) → kind_at q t ≡ (if g.0 == q.0 then None else kind_at q (x ∷ t))
        found (inl e) = let same : x.0 ≡ q = ap (λ (n : ℕ). record { 0 = n }) (sym s.1 ∙ e.1) in rw (e.0, ← same) (kind_below x.0 t h.0)
        found (inr e) = rw (e.0, same_gfid q x.0) (grind (arith, nat_tests, s.1, e.1))
    step (inr s) more = rw (s.0, same_gfid q x.0) (turned (g.0 == q.0) (q.0 == x.0.0) _ _ x.1 (both g.0 q.0 x.0.0 s.1) more)
      where
        both : (n q x : ℕ) → (n ≡ x → ⊥) → (n == q) ≡ true → (q == x) ≡ true → ⊥
        both n q x h e f = h (grind (arith, nat_tests))

        turned : (a b : Bool) (r l : Option What) (v : What) → (a ≡ true → b ≡ true → ⊥) → r ≡ (if a then None else l) → cond b (Some v) r ≡ (if a then None else cond b (Some v) l)
        turned true true r l v apart e = absurd (apart refl refl)
        turned true false r l v apart e = e
        turned false true r l v apart e = refl
        turned false false r l v apart e = e
