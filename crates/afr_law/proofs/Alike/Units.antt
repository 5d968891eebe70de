-- What a sum that is raised and lowered counts: the raises that no line took back. Positions of lines.
use Rattle.std.proofs.Common.{◌≡◌, ℕ, zero, suc, ◌+◌, ◌-◌, ◌<◌, ◌≤◌, Bool, true, false, ◌&&◌, ◌||◌, not, inl, inr, refl, sym, ap, ◌∙◌, subst, arith, true≢false}
use Rattle.std.specs.Prelude.{◌==◌, nat_lt, if◌then◌else◌}
use Rattle.std.proofs.lemmas.Bool.Decides.{nat_tests}
use Rattle.afr_base.specs.Majority.{count_below}
use Rattle.std.proofs.lemmas.Bool.{cases_lt, lt-ltb, le-ltb}
use Rattle.std.proofs.Math.Bool.{and-false}
use Rattle.afr_base.specs.Bricks.{and_left}
use Rattle.afr_model_moves.proofs.Tests.{same_self, same_no}
use Rattle.afr_base.specs.SetLemmas.{count_same}

-- up to t no sum is below 0
abbrev pub Covered : (raised lowered : ℕ → ℕ) → ℕ → Type 0
Covered raised lowered t = (v : ℕ) → v ≤ t → lowered v ≤ raised v

-- what the line at t does to the sum: nothing, a raise, the raise at p is taken back, or what stood at l is, and perhaps the raise at p as well
pub data Step (raise : ℕ → Bool) (raised lowered : ℕ → ℕ) (t : ℕ) : Type 0 where
  Still : raise t ≡ false → raised (suc t) ≡ raised t → lowered (suc t) ≡ lowered t → Step raise raised lowered t
  Raises : raise t ≡ true → raised (suc t) ≡ suc (raised t) → lowered (suc t) ≡ lowered t → Step raise raised lowered t
  Lowers : (p : ℕ) → p < t → raise p ≡ true → raise t ≡ false → raised (suc t) ≡ raised t → lowered (suc t) ≡ suc (lowered t) → Step raise raised lowered t
  Takes : (l : ℕ) → l ≤ t → raise t ≡ false → raised (suc t) ≡ raised t → (Covered raised lowered l → lowered (suc t) ≡ lowered t + (raised l - lowered l)) → Step raise raised lowered t
  TakesOwn : (l p : ℕ) → l ≤ p → p < t → raise p ≡ true → raise t ≡ false → raised (suc t) ≡ raised t → (Covered raised lowered l → lowered (suc t) ≡ suc (lowered t + (raised l - lowered l))) → Step raise raised lowered t

-- the line takes the raise at x back
abbrev pub clears : (raise : ℕ → Bool) (raised lowered : ℕ → ℕ) (t : ℕ) → Step raise raised lowered t → ℕ → Bool
clears raise raised lowered t (Lowers p a b c d e) x = x == p
clears raise raised lowered t (Takes l a b c d) x = nat_lt x l
clears raise raised lowered t (TakesOwn l p a b c d e f) x = nat_lt x l || (x == p)
clears raise raised lowered t _ x = false

-- the one raise that the line takes back by name: a Post its attempt's, a Settle its heal's
abbrev pub single : (raise : ℕ → Bool) (raised lowered : ℕ → ℕ) (t : ℕ) → Step raise raised lowered t → ℕ → Bool
single raise raised lowered t (Lowers p a b c d e) x = x == p
single raise raised lowered t (TakesOwn l p a b c d e f) x = x == p
single raise raised lowered t _ x = false

-- the raise at x stood at the look whose sum the line takes back, and u is not before it
abbrev pub seen : (raise : ℕ → Bool) (raised lowered : ℕ → ℕ) (t : ℕ) → Step raise raised lowered t → ℕ → ℕ → Type 0
seen raise raised lowered t (Takes l a b c d) x u = (x < l) × (l ≤ u)
seen raise raised lowered t (TakesOwn l p a b c d e f) x u = (x < l) × (l ≤ u)
seen raise raised lowered t _ x u = ⊥

keep_not : (b : Bool) → (b && not false) ≡ b
keep_not true = refl
keep_not false = refl

or_out : (a b c : Bool) → (a && not (b || c)) ≡ ((a && not b) && not c)
or_out true true c = refl
or_out true false c = refl
or_out false b c = refl

pub differ_over : (p t : ℕ) → t < p → (p == t) ≡ false
differ_over p t h = grind (arith, nat_tests)

-- one for true
abbrev bit : Bool → ℕ
bit b = if b then 1 else 0

nothing : (m : ℕ) → count_below m (λ x. false) ≡ 0
nothing zero = refl
nothing (suc m) = omega (arith, nothing m)

-- the raise at p was not taken back before t
unfoldable pub live : (ℕ → Bool) → (ℕ → ℕ → Bool) → ℕ → ℕ → Bool
live raise back zero p = false
live raise back (suc t) p = if p == t then raise t else (live raise back t p && not (back t p))

one_out : (n : ℕ) (f : ℕ → Bool) (p : ℕ) → p < n → f p ≡ true → count_below n f ≡ suc (count_below n (λ x. f x && not (x == p)))
one_out zero f p less e = absurd (omega (arith, less))
one_out (suc n) f p less e =
    elim (cases_lt p n) [
      | inl early ↦ (
          let rest = one_out n f p early e in
          let same : (f n && not (n == p)) ≡ f n = rw (differ_over n p early) (keep_not (f n)) in
          rw same (omega (arith, rest))
          )
      | inr last ↦ (
          let here : p ≡ n = omega (arith, less, last) in
          let hit : (n == p) ≡ true = subst (λ k. (n == k) ≡ true) (sym here) (same_self n) in
          let mine : f n ≡ true = subst (λ k. f k ≡ true) here e in
          let rest : count_below n f ≡ count_below n (λ x. f x && not (x == p)) = count_same n f (λ x. f x && not (x == p)) (λ x below. sym (rw (same_no x p (omega (arith, below, last))) (keep_not (f x)))) in
          rw (hit, mine) (omega (arith, rest))
          )
    ]

split_at : (n l : ℕ) (f : ℕ → Bool) → l ≤ n → count_below n f ≡ count_below l f + count_below n (λ x. f x && not (nat_lt x l))
split_at zero l f low = (let e : l ≡ 0 = omega (arith, low) in rw e refl)
split_at (suc n) l f low =
    elim (cases_lt n l) [
      | inl last ↦ (
          let e : l ≡ suc n = omega (arith, low, last) in
          let none : count_below (suc n) (λ x. f x && not (nat_lt x l)) ≡ count_below (suc n) (λ x. false) = count_same (suc n) (λ x. f x && not (nat_lt x l)) (λ x. false) (λ x below. rw (lt-ltb x l (omega (arith, below, e))) (and-false (f x))) in
          let whole : count_below l f ≡ count_below (suc n) f = ap (λ k. count_below k f) e in
          omega (arith, none, nothing (suc n), whole)
          )
      | inr early ↦ (
          let rest = split_at n l f early in
          let same : (f n && not (nat_lt n l)) ≡ f n = rw (le-ltb n l early) (keep_not (f n)) in
          rw same (omega (arith, rest))
          )
    ]

none_in : (n : ℕ) (f : ℕ → Bool) → count_below n f ≡ 0 → (p : ℕ) → p < n → f p ≡ false
none_in zero f e p less = absurd (omega (arith, less))
none_in (suc n) f e p less = go (f n) refl (λ early fewer. none_in n f fewer p early)
  where
    count : (b : Bool) → b ≡ true → bit b ≡ 1
    count true q = refl
    count false q = absurd (cc q)

    go : (b : Bool) → f n ≡ b → (p < n → count_below n f ≡ 0 → f p ≡ false) → f p ≡ false
    go true q before = absurd (omega (arith, e, count (f n) q))
    go false q before = (
        elim (cases_lt p n) [
          | inl early ↦ before early (omega (arith, e))
          | inr last ↦ (let same : n ≡ p = omega (arith, less, last) in subst (λ k. f k ≡ false) same q)
        ]
        )

module _ (raise : ℕ → Bool) (back : ℕ → ℕ → Bool) where
  live_last : (t : ℕ) → live raise back (suc t) t ≡ raise t
  unfolding live
  live_last t = rw (same_self t) refl

  live_next : (t p : ℕ) → p < t → live raise back (suc t) p ≡ (live raise back t p && not (back t p))
  unfolding live
  live_next t p less = rw (same_no p t less) refl

  count_next : (t : ℕ) → count_below (suc t) (live raise back (suc t)) ≡ (if raise t then 1 else 0) + count_below t (λ p. live raise back t p && not (back t p))
  count_next t =
      let rest = count_same t (live raise back (suc t)) (λ p. live raise back t p && not (back t p)) (λ p less. live_next t p less) in
      rw (live_last t, rest) refl

  live_raise : (t p : ℕ) → p < t → live raise back t p ≡ true → raise p ≡ true
  live_raise zero p less e = absurd (omega (arith, less))
  live_raise (suc t) p less e =
      elim (cases_lt p t) [
        | inl early ↦ live_raise t p early (and_left (live raise back t p) (not (back t p)) (sym (live_next t p early) ∙ e))
        | inr last ↦ (let same : t ≡ p = omega (arith, less, last) in subst (λ k. raise k ≡ true) same (sym (live_last t) ∙ subst (λ k. live raise back (suc t) k ≡ true) (sym same) e))
      ]

  -- what wasn't taken back stays live
  live_on : (t p : ℕ) → p < t → raise p ≡ true → ((u : ℕ) → u < t → back u p ≡ false) → live raise back t p ≡ true
  live_on zero p less e none = absurd (omega (arith, less))
  live_on (suc t) p less e none =
      elim (cases_lt p t) [
        | inl early ↦ live_next t p early ∙ rw (none t (omega arith), live_on t p early e (λ u below. none u (omega (arith, below)))) refl
        | inr last ↦ (let same : t ≡ p = omega (arith, less, last) in subst (λ k. live raise back (suc t) k ≡ true) same (live_last t ∙ subst (λ k. raise k ≡ true) (sym same) e))
      ]

  -- between the look and the line what stood is as it was
  live_same : (t l u p : ℕ) → p < l → l ≤ u → u ≤ t → ((v : ℕ) → raise p ≡ true → l ≤ v → v < t → back v p ≡ false) → live raise back u p ≡ live raise back l p
  live_same t l zero p less low high stands_here = absurd (omega (arith, less, low))
  live_same t l (suc u) p less low high stands_here =
      elim (cases_lt u l) [
        | inl last ↦ (let e : suc u ≡ l = omega (arith, low, last) in ap (λ k. live raise back k p) e)
        | inr early ↦ (
            let before = live_same t l u p less early (omega (arith, high)) stands_here in
            live_next u p (omega (arith, less, early)) ∙ go (live raise back u p) refl early (λ e. live_raise u p (omega (arith, less, early)) e) ∙ before
            )
      ]
    where
      go : (b : Bool) → live raise back u p ≡ b → l ≤ u → (live raise back u p ≡ true → raise p ≡ true) → (live raise back u p && not (back u p)) ≡ live raise back u p
      go false e early was = rw e refl
      go true e early was = (let none = stands_here u (was e) early (omega (arith, high)) in rw (e, none) refl)

  stay : (t : ℕ) → count_below t (λ p. live raise back t p && not false) ≡ count_below t (live raise back t)
  stay t = count_same t (λ p. live raise back t p && not false) (live raise back t) (λ p less. keep_not (live raise back t p))

  -- a raise that is not live any more was taken back
  died : (t p : ℕ) → raise p ≡ true → p < t → live raise back t p ≡ false → (u : ℕ) × (p < u) × (u < t) × (back u p ≡ true)
  died zero p mine less dead = absurd (omega (arith, less))
  died (suc t) p mine less dead =
      elim (cases_lt p t) [
        | inl early ↦ go early (live raise back t p) refl (back t p) refl (λ was. died t p mine early was)
        | inr last ↦ absurd (
            let same : t ≡ p = omega (arith, less, last) in
            true≢false (sym (subst (λ k. raise k ≡ true) (sym same) mine) ∙ sym (live_last t) ∙ subst (λ k. live raise back (suc t) k ≡ false) (sym same) dead)
            )
      ]
    where
      go : p < t → (b : Bool) → live raise back t p ≡ b → (c : Bool) → back t p ≡ c → (live raise back t p ≡ false → (u : ℕ) × (p < u) × (u < t) × (back u p ≡ true)) → (u : ℕ) × (p < u) × (u < suc t) × (back u p ≡ true)
      go early b e true k before = (t, early, omega arith, k)
      go early false e false k before = (let w = before e in (w.0, w.1, omega (arith, w.2), w.3))
      go early true e false k before = absurd (true≢false (sym (live_next t p early ∙ rw (e, k) refl) ∙ dead))

module _ (raise : ℕ → Bool) (raised lowered : ℕ → ℕ) (begins : (raised 0 ≡ 0) × (lowered 0 ≡ 0)) (step : (t : ℕ) → Step raise raised lowered t)
    -- a raise that a line takes back by name was not taken back before
    (alone : (t p : ℕ) → single raise raised lowered t (step t) p ≡ true → (u : ℕ) → u < t → clears raise raised lowered u (step u) p ≡ false)
    -- and one that stood at the look isn't taken back from there to the line
    (stands : (t p u : ℕ) → raise p ≡ true → u < t → seen raise raised lowered t (step t) p u → clears raise raised lowered u (step u) p ≡ false) where
  -- whether the line at t takes the raise at p back
  abbrev back : ℕ → ℕ → Bool
  back t p = clears raise raised lowered t (step t) p

  counted : (t : ℕ) → ((v : ℕ) → v ≤ t → raised v ≡ lowered v + count_below v (live raise back v)) → raised (suc t) ≡ lowered (suc t) + count_below (suc t) (live raise back (suc t))
  counted t before = by (step t) refl (count_next raise back t)
    where
      now : raised t ≡ lowered t + count_below t (live raise back t)
      now = before t (omega arith)

      covered : (l : ℕ) → l ≤ t → Covered raised lowered l
      covered l low v small = (let was = before v (omega (arith, low, small)) in omega (arith, was))

      count : (b c : Bool) → b ≡ c → bit b ≡ bit c
      count b c e = ap bit e

      standing : (s : Step raise raised lowered t) → step t ≡ s → (p : ℕ) → p < t → raise p ≡ true → single raise raised lowered t s p ≡ true → live raise back t p ≡ true
      standing s is p less mine own = live_on raise back t p less mine (λ u below. alone t p (subst (λ k. single raise raised lowered t k p ≡ true) (sym is) own) u below)

      old : (s : Step raise raised lowered t) → step t ≡ s → (l : ℕ) → l ≤ t → ((p v : ℕ) → p < l → l ≤ v → seen raise raised lowered t s p v) → count_below l (live raise back t) ≡ count_below l (live raise back l)
      old s is l low saw =
          count_same l (live raise back t) (live raise back l)
          (λ p below. live_same raise back t l t p below low (omega arith) (λ v e at past. stands t p v e past (subst (λ k. seen raise raised lowered t k p v) (sym is) (saw p v below at))))

      by : (s : Step raise raised lowered t) → step t ≡ s → count_below (suc t) (live raise back (suc t)) ≡ (if raise t then 1 else 0) + count_below t (λ p. live raise back t p && not (clears raise raised lowered t (step t) p)) → raised (suc t) ≡ lowered (suc t) + count_below (suc t) (live raise back (suc t))
      by s is sum = go s is (subst (λ k. count_below (suc t) (live raise back (suc t)) ≡ (if raise t then 1 else 0) + count_below t (λ p. live raise back t p && not (clears raise raised lowered t k p))) is sum)
        where
          go : (s : Step raise raised lowered t) → step t ≡ s → count_below (suc t) (live raise back (suc t)) ≡ (if raise t then 1 else 0) + count_below t (λ p. live raise back t p && not (clears raise raised lowered t s p)) → raised (suc t) ≡ lowered (suc t) + count_below (suc t) (live raise back (suc t))
          go (Still none up down) is sum = omega (arith, sum, count (raise t) false none, stay raise back t, up, down, now)
          go (Raises some up down) is sum = omega (arith, sum, count (raise t) true some, stay raise back t, up, down, now)
          go (Lowers p less mine none up down) is sum =
              omega (arith, sum, count (raise t) false none, one_out t (live raise back t) p less (standing (Lowers p less mine none up down) is p less mine (same_self p)), up, down, now)
          go (Takes l low none up down) is sum =
              omega (arith, sum, count (raise t) false none, split_at t l (live raise back t) low, old (Takes l low none up down) is l low (λ p v below at. (below, at)), before l low, up, down (covered l low), now)
          go (TakesOwn l p low less mine none up down) is sum = (
              let s : Step raise raised lowered t = TakesOwn l p low less mine none up down in
              let under : l ≤ t = omega (arith, low, less) in
              let still : (live raise back t p && not (nat_lt p l)) ≡ true = rw (standing s is p less mine (same_self p), le-ltb p l low) refl in
              let each = count_same t (λ x. live raise back t x && not (nat_lt x l || (x == p))) (λ x. (live raise back t x && not (nat_lt x l)) && not (x == p)) (λ x below. or_out (live raise back t x) (nat_lt x l) (x == p)) in
              let out = one_out t (λ x. live raise back t x && not (nat_lt x l)) p less still in
              let was = old s is l under (λ p v below at. (below, at)) in
              omega (arith, sum, count (raise t) false none, each, split_at t l (live raise back t) under, out, was, before l under, up, down (covered l under), now)
              )

  -- the sum is the number of live raises
  exact_all : (t u : ℕ) → u ≤ t → raised u ≡ lowered u + count_below u (live raise back u)
  exact_all zero u low = (let e : u ≡ 0 = omega (arith, low) in rw e (omega (arith, begins.0, begins.1)))
  exact_all (suc t) u low =
      elim (cases_lt t u) [
        | inl last ↦ (let e : suc t ≡ u = omega (arith, low, last) in subst (λ k. raised k ≡ lowered k + count_below k (live raise back k)) e (counted t (λ v early. exact_all t v early)))
        | inr early ↦ exact_all t u early
      ]

  -- no sum goes below 0
  pub covers_all : (t : ℕ) → lowered t ≤ raised t
  covers_all t = omega (arith, exact_all t t (omega arith))

  -- where the sum is 0, each raise was taken back
  pub gone : (t p : ℕ) → raised t ≤ lowered t → raise p ≡ true → p < t → (u : ℕ) × (p < u) × (u < t) × (clears raise raised lowered u (step u) p ≡ true)
  gone t p none mine less =
      let empty : count_below t (live raise back t) ≡ 0 = omega (arith, exact_all t t (omega arith), none) in
      died raise back t p mine less (none_in t (live raise back t) empty p less)
