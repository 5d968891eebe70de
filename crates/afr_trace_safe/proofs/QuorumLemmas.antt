-- A log is safe exactly where each copy that is good in some majority is current.
use Rattle.std.proofs.Common.{◌≡◌, ◌∙◌, ◌⊎◌, inl, inr, ℕ, zero, suc, ◌+◌, ◌*◌, ◌<◌, ◌≤◌, ◌==◌, ◌&&◌, ◌||◌, not, nat_lt, Bool, true, false, List, [], ◌∷◌, refl, sym, ap, arith, if◌then◌else◌}
use Rattle.std.specs.List.{list_any}
use Rattle.std.proofs.lemmas.Bool.Decides.{eqb_tells, nat_tests}
use Rattle.std.proofs.lemmas.Bool.{not-true, not_from_false, lt-ltb, ltb-true}
use Rattle.afr_base.specs.Bricks.{IsWithin, and_left, member}
use Rattle.afr_base.specs.Keeping.{keeps}
use Rattle.afr_base.specs.Majority.{count_below, is_majority, is_most}
use Rattle.afr_base.specs.SetLemmas.{most_same}
use Rattle.afr_base.specs.declared.ids.Gfid.{Gfid}
use Rattle.afr_base.specs.declared.ids.Kind.{Kind}
use Rattle.afr_lines.specs.declared.line.Line.{Line}
use Rattle.afr_plan.specs.declared.plan.Plan.{Plan}
use Rattle.afr_model.specs.Attempts.{IsCurrent}
use Rattle.afr_model.specs.Cells.{Attr, Byte, Cell, Name, kind_of_cell, object_of_cell}
use Rattle.afr_model.specs.Safe.{IsSafe, accuses, is_good_copy}
use Rattle.afr_model.specs.Sums.{has_object}
use Rattle.afr_base.specs.declared.ids.Kind.TheVariants.{Bytes, Attrs, Names}
use Rattle.afr_trace_safe.specs.Judged.{AllCurrent, IsObjectSafe, is_judged}

-- ---- the bricks below a number that pass
chosen : ℕ → (ℕ → Bool) → List ℕ
chosen zero p = []
chosen (suc n) p = if p n then n ∷ chosen n p else chosen n p

below_next : (b n : ℕ) (f : Bool) → f ≡ nat_lt b n → (b ≡ n → ⊥) → f ≡ nat_lt b (suc n)
below_next b n f e h = grind (arith, nat_tests, e, h)

at_next : (b n : ℕ) → b ≡ n → (nat_lt b n ≡ false) × (nat_lt b (suc n) ≡ true)
at_next b n e = (grind (arith, nat_tests, e), grind (arith, nat_tests, e))

member_chosen : (n : ℕ) (p : ℕ → Bool) (b : ℕ) → member (chosen n p) b ≡ (nat_lt b n && p b)
unfolding chosen
member_chosen zero p b = by (nat_lt b 0) (none b)
  where
    none : (b : ℕ) → nat_lt b 0 ≡ false
    none b = grind (arith, nat_tests)

    by : (f : Bool) → f ≡ false → false ≡ (f && p b)
    by f e = rw e refl
member_chosen (suc n) p b = by (p n) refl (eqb_tells n b) (member_chosen n p b)
  where
    next : (n ≡ b → ⊥) → nat_lt b n ≡ nat_lt b (suc n)
    next h = below_next b n (nat_lt b n) refl (λ e. h (sym e))

    by : (f : Bool) → p n ≡ f → ((n == b) ≡ true) × (n ≡ b) ⊎ ((n == b) ≡ false) × (n ≡ b → ⊥) → member (chosen n p) b ≡ (nat_lt b n && p b)
        → member (if f then n ∷ chosen n p else chosen n p) b ≡ (nat_lt b (suc n) && p b)
    by true e (inl s) ih = rw (s.0, (at_next b n (sym s.1)).1, sym (ap p s.1) ∙ e) refl
    by true e (inr s) ih = rw (s.0, ← next s.1) ih
    by false e (inl s) ih = ih ∙ rw ((at_next b n (sym s.1)).0, (at_next b n (sym s.1)).1, sym (ap p s.1) ∙ e) refl
    by false e (inr s) ih = rw (← next s.1) ih

within_chosen : (n : ℕ) (p : ℕ → Bool) → IsWithin n (chosen n p)
within_chosen n p b m = ltb-true b n (and_left (nat_lt b n) (p b) (sym (member_chosen n p b) ∙ m))

chosen_most : (n : ℕ) (p : ℕ → Bool) → is_majority n (chosen n p) ≡ is_most n p
chosen_most n p = most_same n (member (chosen n p)) p (λ b l. member_chosen n p b ∙ rw (lt-ltb b n l) refl)

-- none of those that fail a test passes it
none_chosen : (n : ℕ) (q : ℕ → Bool) → list_any q (chosen n (λ x. not (q x))) ≡ false
unfolding chosen
none_chosen zero q = refl
none_chosen (suc n) q = by (q n) refl (none_chosen n q)
  where
    by : (f : Bool) → q n ≡ f → list_any q (chosen n (λ x. not (q x))) ≡ false → list_any q (if not f then n ∷ chosen n (λ x. not (q x)) else chosen n (λ x. not (q x))) ≡ false
    by true e ih = ih
    by false e ih = rw e ih

-- ---- majorities
fewer : (n : ℕ) (p q : ℕ → Bool) → ((b : ℕ) → p b ≡ true → q b ≡ true) → count_below n p ≤ count_below n q
fewer zero p q h = omega arith
fewer (suc n) p q h = step (p n) refl (q n) refl (fewer n p q h)
  where
    step : (x : Bool) → p n ≡ x → (y : Bool) → q n ≡ y → count_below n p ≤ count_below n q → (if x then 1 else 0) + count_below n p ≤ (if y then 1 else 0) + count_below n q
    step true e true f ih = omega (arith, ih)
    step true e false f ih = absurd (cc (h n e, f))
    step false e true f ih = omega (arith, ih)
    step false e false f ih = omega (arith, ih)

most_more : (n k m : ℕ) → k ≤ m → nat_lt n (2 * k) ≡ true → nat_lt n (2 * m) ≡ true
most_more n k m l h = grind (arith, nat_tests, l, h)

pub more_most : (n : ℕ) (p q : ℕ → Bool) → ((b : ℕ) → p b ≡ true → q b ≡ true) → is_most n p ≡ true → is_most n q ≡ true
more_most n p q h m = most_more n (count_below n p) (count_below n q) (fewer n p q h) m

-- what no brick of a set passes
none_passes : (q : ℕ → Bool) (s : List ℕ) → list_any q s ≡ false → (b : ℕ) → member s b ≡ true → q b ≡ false
none_passes q [] h b m = absurd (cc m)
none_passes q (x ∷ xs) h b m = by (q x) refl h (eqb_tells x b) m (λ k. none_passes q xs k b)
  where
    by : (f : Bool) → q x ≡ f → (f || list_any q xs) ≡ false → ((x == b) ≡ true) × (x ≡ b) ⊎ ((x == b) ≡ false) × (x ≡ b → ⊥) → ((x == b) || member xs b) ≡ true → (list_any q xs ≡ false → member xs b ≡ true → q b ≡ false) → q b ≡ false
    by true e k s m more = absurd (cc k)
    by false e k (inl s) m more = sym (ap q s.1) ∙ e
    by false e k (inr s) m more = more k (rw s.0 at m)

-- ---- four tests
pub all_four : (a b c d : Bool) → (a && b && c && d) ≡ true → (a ≡ true) × (b ≡ true) × (c ≡ true) × (d ≡ true)
all_four true true true true h = (refl, refl, refl, refl)
all_four true true true false h = absurd (cc h)
all_four true true false d h = absurd (cc h)
all_four true false c d h = absurd (cc h)
all_four false b c d h = absurd (cc h)

pub four_pass : (a b c d : Bool) → a ≡ true → b ≡ true → c ≡ true → d ≡ true → (a && b && c && d) ≡ true
four_pass a b c d ha hb hc hd = rw (ha, hb, hc, hd) refl

-- ---- good copies
module _ (p : Plan) (log : List Line) (g : Gfid) (kind : Kind) (b : ℕ) where
  -- the bricks that don't accuse a copy
  quiet : ℕ → Bool
  quiet x = not (accuses p log g kind x b)

  -- a good copy of a majority is judged
  good_judged : (among : List ℕ) → IsWithin p.shape.n among → is_majority p.shape.n among ≡ true → is_good_copy p log among g kind b ≡ true → (b < p.shape.n) × (is_judged p log g kind b ≡ true)
  unfolding quiet
  good_judged among within most good =
      let t = all_four (member among b) (has_object p log g b) (keeps p.shape kind b) (not (list_any (λ x. accuses p log g kind x b) among)) good in
      let none : list_any (λ x. accuses p log g kind x b) among ≡ false = not-true (list_any (λ x. accuses p log g kind x b) among) t.3 in
      let each : (x : ℕ) → member among x ≡ true → quiet x ≡ true = λ x m. not_from_false (accuses p log g kind x b) (none_passes (λ y. accuses p log g kind y b) among none x m) in
      (within b t.0, four_pass (has_object p log g b) (keeps p.shape kind b) (quiet b) (is_most p.shape.n quiet) t.1 t.2 (each b t.0) (more_most p.shape.n (member among) quiet each most))

  -- a judged copy is good in a majority
  judged_good : b < p.shape.n → is_judged p log g kind b ≡ true → (is_majority p.shape.n (chosen p.shape.n quiet) ≡ true) × (is_good_copy p log (chosen p.shape.n quiet) g kind b ≡ true)
  unfolding quiet
  judged_good low judged =
      let t = all_four (has_object p log g b) (keeps p.shape kind b) (quiet b) (is_most p.shape.n quiet) judged in
      let in_it : member (chosen p.shape.n quiet) b ≡ true = member_chosen p.shape.n quiet b ∙ rw (lt-ltb b p.shape.n low, t.2) refl in (
        chosen_most p.shape.n quiet ∙ t.3,
        four_pass (member (chosen p.shape.n quiet) b) (has_object p log g b) (keeps p.shape kind b) (not (list_any (λ x. accuses p log g kind x b) (chosen p.shape.n quiet))) in_it t.0 t.1
            (not_from_false (list_any (λ x. accuses p log g kind x b) (chosen p.shape.n quiet)) (none_chosen p.shape.n (λ x. accuses p log g kind x b))),
      )

-- ---- safe logs
cell_current : (p : Plan) (log : List Line) (b : ℕ) (cell : Cell) → AllCurrent p log b (object_of_cell cell) (kind_of_cell cell) → IsCurrent p log b cell
cell_current p log b (Byte g i) all = all i
cell_current p log b (Attr g key) all = all key
cell_current p log b (Name g name) all = all name

pub each_safe : (p : Plan) (log : List Line) → ((g : Gfid) → IsObjectSafe p log g) → IsSafe p log
each_safe p log all among within most b cell good =
    let j = good_judged p log (object_of_cell cell) (kind_of_cell cell) b among within most good in
    cell_current p log b cell (all (object_of_cell cell) b j.0 (kind_of_cell cell) j.1)

pub safe_each : (p : Plan) (log : List Line) → IsSafe p log → (g : Gfid) → IsObjectSafe p log g
safe_each p log safe g b low Bytes judged =
    let t = judged_good p log g Bytes b low judged in λ i. safe (chosen p.shape.n (quiet p log g Bytes b)) (within_chosen p.shape.n (quiet p log g Bytes b)) t.0 b (Byte g i) t.1
safe_each p log safe g b low Attrs judged =
    let t = judged_good p log g Attrs b low judged in λ key. safe (chosen p.shape.n (quiet p log g Attrs b)) (within_chosen p.shape.n (quiet p log g Attrs b)) t.0 b (Attr g key) t.1
safe_each p log safe g b low Names judged =
    let t = judged_good p log g Names b low judged in λ name. safe (chosen p.shape.n (quiet p log g Names b)) (within_chosen p.shape.n (quiet p log g Names b)) t.0 b (Name g name) t.1
