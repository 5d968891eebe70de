-- A stable sort by numbers gives the order by them.
use Rattle.std.proofs.Common.{◌≡◌, ◌∙◌, ℕ, zero, suc, ◌<◌, ◌≤◌, Bool, true, false, cond, List, [], ◌∷◌, length, map, get_or, filter, nat_cmp, nat_lt, is_lt, if◌then◌else◌, refl, sym, ap, arith, inl, inr, suc-le-suc, zero-le}
use Rattle.std.proofs.lemmas.Bool.{cond-true, cond-false, cases_Bool}
use Rattle.std.proofs.lemmas.Bool.Decides.{nat_tests}
use Rattle.std.specs.List.Sorted.{ties, IsNonDecreasingBy, IsStableByKey}
use Rattle.afr_report.specs.Workers.{in_order_by, put_by}

ties_at : (m n : ℕ) → (ties (λ x y. is_lt (nat_cmp x y)) m n ≡ true → m ≡ n) × (m ≡ n → ties (λ x y. is_lt (nat_cmp x y)) m n ≡ true)
ties_at m n = (λ h. grind (arith, nat_tests), λ h. grind (arith, nat_tests))

module _ {X : Type 0} (p : X → Bool) (y : X) (ys : List X) where
  kept : p y ≡ true → filter p (y ∷ ys) ≡ y ∷ filter p ys
  kept h = cond-true _ _ _ h

  dropped : p y ≡ false → filter p (y ∷ ys) ≡ filter p ys
  dropped h = cond-false _ _ _ h

module _ {X : Type 0} (key : X → ℕ) where
  abbrev alike : X → X → Bool
  alike = ties (λ x y. is_lt (nat_cmp (key x) (key y)))

  same_key : (x y : X) → alike x y ≡ true → key x ≡ key y
  same_key x y = (ties_at (key x) (key y)).0

  alike_from : (x y : X) → key x ≡ key y → alike x y ≡ true
  alike_from x y = (ties_at (key x) (key y)).1

  -- ---- those of one number stay in their order
  filter-put : (z x : X) (l : List X) → filter (alike z) (put_by key x l) ≡ filter (alike z) (x ∷ l)
  filter-put z x [] = refl
  filter-put z x (y ∷ more) = by (nat_lt (key y) (key x)) refl (filter-put z x more)
    where
      by : (b : Bool) → nat_lt (key y) (key x) ≡ b → filter (alike z) (put_by key x more) ≡ filter (alike z) (x ∷ more)
          → filter (alike z) (if b then y ∷ put_by key x more else x ∷ y ∷ more) ≡ filter (alike z) (x ∷ y ∷ more)
      by true e rest = elim (cases_Bool (alike z y)) [
        | inr without ↦ dropped (alike z) y (put_by key x more) without ∙ rest ∙ ap (λ (l : List X). cond (alike z x) (x ∷ l) l) (sym (dropped (alike z) y more without))
        | inl with ↦ elim (cases_Bool (alike z x)) [
          | inl both ↦ let low : key y < key x = grind (arith, nat_tests, e) in absurd (omega (arith, low, same_key z x both, same_key z y with))
          | inr only ↦
              kept (alike z) y (put_by key x more) with ∙ ap (λ (l : List X). y ∷ l) (rest ∙ dropped (alike z) x more only)
              ∙ sym (dropped (alike z) x (y ∷ more) only ∙ kept (alike z) y more with)
        ]
      ]
      by false e rest = refl

  filter-order : (z : X) (l : List X) → filter (alike z) (in_order_by key l) ≡ filter (alike z) l
  filter-order z [] = refl
  filter-order z (x ∷ more) = filter-put z x (in_order_by key more) ∙ ap (λ (l : List X). cond (alike z x) (x ∷ l) l) (filter-order z more)

  -- ---- rising numbers
  abbrev AreAtLeast : ℕ → List X → Type 0
  AreAtLeast n [] = Unit {0}
  AreAtLeast n (y ∷ ys) = (n ≤ key y) × AreAtLeast n ys

  abbrev Rises : List X → Type 0
  Rises [] = Unit {0}
  Rises (y ∷ ys) = AreAtLeast (key y) ys × Rises ys

  lower : (n m : ℕ) (ys : List X) → n ≤ m → AreAtLeast m ys → AreAtLeast n ys
  lower n m [] le h = tt
  lower n m (y ∷ ys) le h = let first = h.0 in (omega arith, lower n m ys le h.1)

  at_least : (n : ℕ) (ys : List X) → ((j : ℕ) (d : X) → j < length ys → n ≤ key (get_or ys j d)) → AreAtLeast n ys
  at_least n [] h = tt
  at_least n (y ∷ ys) h = (h zero y (suc-le-suc zero-le), at_least n ys (λ j d lt. h (suc j) d (suc-le-suc lt)))

  sorted_rises : (ys : List X) → IsNonDecreasingBy key ys → Rises ys
  sorted_rises [] h = tt
  sorted_rises (y ∷ ys) h = (
    at_least (key y) ys (λ j d lt. h zero (suc j) d zero-le (suc-le-suc lt)),
    sorted_rises ys (λ i j d le lt. h (suc i) (suc j) d (suc-le-suc le) (suc-le-suc lt)),
  )

  put_at_least : (n : ℕ) (x : X) (l : List X) → n ≤ key x → AreAtLeast n l → AreAtLeast n (put_by key x l)
  put_at_least n x [] le h = (le, tt)
  put_at_least n x (y ∷ more) le h = by (nat_lt (key y) (key x)) (put_at_least n x more le h.1)
    where
      by : (b : Bool) → AreAtLeast n (put_by key x more) → AreAtLeast n (if b then y ∷ put_by key x more else x ∷ y ∷ more)
      by true rest = (h.0, rest)
      by false rest = (le, h)

  put_rises : (x : X) (l : List X) → Rises l → Rises (put_by key x l)
  put_rises x [] r = (tt, tt)
  put_rises x (y ∷ more) r = by (nat_lt (key y) (key x)) refl (put_rises x more r.1)
    where
      by : (b : Bool) → nat_lt (key y) (key x) ≡ b → Rises (put_by key x more) → Rises (if b then y ∷ put_by key x more else x ∷ y ∷ more)
      by true e rest = let low : key y ≤ key x = grind (arith, nat_tests, e) in (put_at_least (key y) x more low r.0, rest)
      by false e rest = let low : key x ≤ key y = grind (arith, nat_tests, e) in ((low, lower (key x) (key y) more low r.0), r)

  order_rises : (l : List X) → Rises (in_order_by key l)
  order_rises [] = tt
  order_rises (x ∷ more) = put_rises x (in_order_by key more) (order_rises more)

  -- the number of x stands among them
  found : (n : ℕ) (x : X) (ys : List X) (w : X) (ws : List X) → AreAtLeast n ys → filter (alike x) ys ≡ w ∷ ws → n ≤ key x
  found n x [] w ws h e = absurd (cc)
  found n x (y ∷ ys) w ws h e = elim (cases_Bool (alike x y)) [
    | inl with ↦ omega (arith, h.0, same_key x y with)
    | inr without ↦ found n x ys w ws h.1 (sym (dropped (alike x) y ys without) ∙ e)
  ]

  one_order : (ys zs : List X) → Rises ys → Rises zs → ((x : X) → filter (alike x) ys ≡ filter (alike x) zs) → ys ≡ zs
  one_order [] [] left right same = refl
  one_order [] (z ∷ zs) left right same =
      let clash = same z ∙ kept (alike z) z zs (alike_from z z refl) in cc
  one_order (y ∷ ys) [] left right same =
      let clash = sym (same y) ∙ kept (alike y) y ys (alike_from y y refl) in cc
  one_order (y ∷ ys) (z ∷ zs) left right same =
      let at_y = kept (alike y) y ys (alike_from y y refl) in
      let at_z = kept (alike z) z zs (alike_from z z refl) in
      let up = found (key z) y (z ∷ zs) y _ (omega arith, right.0) (sym (same y) ∙ at_y) in
      let down = found (key y) z (y ∷ ys) z _ (omega arith, left.0) (same z ∙ at_z) in
      let heads = sym at_y ∙ same y ∙ kept (alike y) z zs (alike_from y z (omega arith)) in
      let head : y ≡ z = cc in
      let tails : (x : X) → filter (alike x) ys ≡ filter (alike x) zs =
      λ x. elim (cases_Bool (alike x y)) [
        | inl with ↦
            let both = sym (kept (alike x) y ys with) ∙ same x ∙ kept (alike x) z zs (ap (alike x) (sym head) ∙ with) in cc
        | inr without ↦
            sym (dropped (alike x) y ys without) ∙ same x ∙ dropped (alike x) z zs (ap (alike x) (sym head) ∙ without)
      ] in
      ap (λ (w : X). w ∷ ys) head ∙ ap (λ (l : List X). z ∷ l) (one_order ys zs left.1 right.1 tails)

  pub sorted_is_order : (xs ys : List X) → IsNonDecreasingBy key ys → IsStableByKey key nat_cmp xs ys → ys ≡ in_order_by key xs
  sorted_is_order xs ys sorted stable =
      one_order ys (in_order_by key xs) (sorted_rises ys sorted) (order_rises xs) (λ x. stable x ∙ sym (filter-order x xs))

-- ---- the order of what is shown of each
module _ {X Y : Type 0} (shown : X → Y) (key : Y → ℕ) where
  map-put : (x : X) (l : List X) → map shown (put_by (λ x. key (shown x)) x l) ≡ put_by key (shown x) (map shown l)
  map-put x [] = refl
  map-put x (y ∷ more) = by (nat_lt (key (shown y)) (key (shown x))) (map-put x more)
    where
      by : (b : Bool) → map shown (put_by (λ x. key (shown x)) x more) ≡ put_by key (shown x) (map shown more)
          → map shown (if b then y ∷ put_by (λ x. key (shown x)) x more else x ∷ y ∷ more) ≡ (if b then shown y ∷ put_by key (shown x) (map shown more) else shown x ∷ shown y ∷ map shown more)
      by true rest = ap (λ (l : List Y). shown y ∷ l) rest
      by false rest = refl

  pub map-order : (l : List X) → map shown (in_order_by (λ x. key (shown x)) l) ≡ in_order_by key (map shown l)
  map-order [] = refl
  map-order (x ∷ more) = map-put x (in_order_by (λ x. key (shown x)) more) ∙ ap (put_by key (shown x)) (map-order more)
