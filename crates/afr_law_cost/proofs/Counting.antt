-- Counts of bricks, and of pieces.
use Rattle.std.proofs.Common.{◌≡◌, ℕ, zero, suc, ◌+◌, ◌*◌, ◌<◌, ◌≤◌, ◌==◌, ◌&&◌, not, nat_lt, Bool, true, false, refl, sym, arith, if◌then◌else◌}
use Rattle.std.proofs.lemmas.Bool.Decides.{nat_tests}
use Rattle.afr_base.specs.Majority.{count_below}
use Rattle.afr_heal.proofs.Parts.{both, denied, deny, not_both, pair}
use Rattle.afr_base.specs.SetLemmas.{count_same}
use Rattle.afr_base.proofs.TestLemmas.{and_not}
use Rattle.afr_counting.proofs.Counts.{count_falls, count_less, count_most}
use Rattle.afr_law_cost.specs.Left.{left_in, pieces_by, times}

-- a set that leaves out one of n bricks has at most n - 1
pub count_but : (n : ℕ) (p : ℕ → Bool) (s : ℕ) → s < n → p s ≡ false → count_below n p + 1 ≤ n
count_but n p s low out = (let h = count_falls n (λ x. true) p s (λ x l e. refl) low refl out in let k = count_most n (λ x. true) in omega (arith, h, k))

-- one brick is at most one
pub count_one : (n : ℕ) (p : ℕ → Bool) (s : ℕ) → ((x : ℕ) → p x ≡ true → x ≡ s) → count_below n p ≤ 1
count_one zero p s only = omega arith
count_one (suc n) p s only = go (p n) refl (count_one n p s only)
  where
    go : (b : Bool) → p n ≡ b → count_below n p ≤ 1 → (if b then 1 else 0) + count_below n p ≤ 1
    go true e h = (let z = none_below n (λ x l. off_below x l) in omega (arith, z))
      where
        off_below : (x : ℕ) → x < n → p x ≡ false
        off_below x l = by (p x) refl
          where
            by : (b : Bool) → p x ≡ b → p x ≡ false
            by true f = (let a = only x f in let c = only n e in absurd (omega (arith, a, c, l)))
            by false f = f

        none_below : (k : ℕ) → ((x : ℕ) → x < k → p x ≡ false) → count_below k p ≤ 0
        none_below zero off = omega arith
        none_below (suc k) off = (let e = off k (omega arith) in let h = none_below k (λ x l. off x (omega (arith, l))) in rw e (omega (arith, h)))
    go false e h = omega (arith, h)

pub count_none : (n : ℕ) (p : ℕ → Bool) → ((x : ℕ) → p x ≡ false) → count_below n p ≤ 0
count_none zero p off = omega arith
count_none (suc n) p off = (let e = off n in let h = count_none n p off in rw e (omega (arith, h)))

-- ---- bricks that are left
pub left_most : (n : ℕ) (set asked : ℕ → Bool) → left_in n set asked ≤ n
left_most n set asked = count_most n (λ x. set x && not (asked x))

-- no more than the set
pub left_set : (n : ℕ) (set asked : ℕ → Bool) → left_in n set asked ≤ count_below n set
left_set n set asked = count_less n set (λ x. set x && not (asked x)) (λ x l h. (both (set x) (not (asked x)) h).0)

-- fewer where the set is no larger and as many were asked
pub left_less : (n : ℕ) (set set' asked asked' : ℕ → Bool) → ((x : ℕ) → x < n → set' x ≡ true → set x ≡ true) → ((x : ℕ) → x < n → asked x ≡ true → asked' x ≡ true) → left_in n set' asked' ≤ left_in n set asked
left_less n set set' asked asked' less more = count_less n (λ x. set x && not (asked x)) (λ x. set' x && not (asked' x)) (λ x l h. pair (set x) (not (asked x)) (less x l (both (set' x) (not (asked' x)) h).0) (deny (asked x) (off x l (both (set' x) (not (asked' x)) h).1 (asked x) refl)))
  where
    off : (x : ℕ) → x < n → not (asked' x) ≡ true → (a : Bool) → asked x ≡ a → asked x ≡ false
    off x l h true e = absurd (not_both (asked' x) (more x l e) (denied (asked' x) h))
    off x l h false e = e

-- one less where a brick was asked
pub left_falls : (n : ℕ) (set set' asked asked' : ℕ → Bool) (b : ℕ) → ((x : ℕ) → x < n → set' x ≡ true → set x ≡ true) → ((x : ℕ) → x < n → asked x ≡ true → asked' x ≡ true)
    → b < n → set b ≡ true → asked b ≡ false → asked' b ≡ true → left_in n set' asked' + 1 ≤ left_in n set asked
left_falls n set set' asked asked' b less more low here new now = count_falls n (λ x. set x && not (asked x)) (λ x. set' x && not (asked' x)) b
    (λ x l h. pair (set x) (not (asked x)) (less x l (both (set' x) (not (asked' x)) h).0) (deny (asked x) (off x l (both (set' x) (not (asked' x)) h).1 (asked x) refl)))
    low (pair (set b) (not (asked b)) here (deny (asked b) new)) (and_not (set' b) (asked' b) now)
  where
    off : (x : ℕ) → x < n → not (asked' x) ≡ true → (a : Bool) → asked x ≡ a → asked x ≡ false
    off x l h true e = absurd (not_both (asked' x) (more x l e) (denied (asked' x) h))
    off x l h false e = e

-- after the first one of a set at most n - 1 are left
pub left_one : (n : ℕ) (set asked : ℕ → Bool) (b : ℕ) → b < n → asked b ≡ true → left_in n set asked + 1 ≤ n
left_one n set asked b low now = count_but n (λ x. set x && not (asked x)) b low (and_not (set b) (asked b) now)

-- a brick of the set was not asked
pub left_some : (n : ℕ) (set asked : ℕ → Bool) (b : ℕ) → b < n → set b ≡ true → asked b ≡ false → 1 ≤ left_in n set asked
left_some n set asked b low here new = (let h = left_falls n set set asked (λ x. true) b (λ x l e. e) (λ x l e. refl) low here new refl in omega (arith, h))

-- ---- pieces
-- a count taken from the other end
count_shift : (n : ℕ) (p : ℕ → Bool) → count_below (suc n) p ≡ (if p 0 then 1 else 0) + count_below n (λ i. p (suc i))
count_shift zero p = refl
count_shift (suc n) p = (let h = count_shift n p in omega (arith, h))

-- one piece less where upto was below len
pub pieces_fall : (some len upto : ℕ) → upto < len → len ≤ upto + 8 * some → pieces_by some len (upto + some) + 1 ≤ pieces_by some len upto
pieces_fall some len upto low short =
    let p : ℕ → Bool = λ i. nat_lt (upto + i * some) len in
    let first : p 0 ≡ true = grind (arith, nat_tests, low) in
    let ninth : p 8 ≡ false = grind (arith, nat_tests, short) in
    ends (p 0) (p 8) first ninth (count_below 8 p) (count_below 8 (λ i. p (suc i))) (count_below 8 (λ i. nat_lt ((upto + some) + i * some) len)) (count_shift 8 p) (count_same 8 (λ i. p (suc i)) (λ i. nat_lt ((upto + some) + i * some) len) (λ i low. next i))
  where
    ends : (a b : Bool) → a ≡ true → b ≡ false → (x y z : ℕ) → (if b then 1 else 0) + x ≡ (if a then 1 else 0) + y → y ≡ z → z + 1 ≤ x
    ends true false ha hb x y z h e = omega (arith, h, e)
    ends true true ha hb x y z h e = absurd (not_both true refl hb)
    ends false b ha hb x y z h e = absurd (not_both true refl (sym ha))

    next : (i : ℕ) → nat_lt (upto + suc i * some) len ≡ nat_lt ((upto + some) + i * some) len
    next i = (let e : upto + suc i * some ≡ (upto + some) + i * some = omega arith in rw e refl)

pub pieces_most : (some len upto : ℕ) → pieces_by some len upto ≤ 8
pieces_most some len upto = count_most 8 (λ i. nat_lt (upto + i * some) len)

pub times_less : (j k m : ℕ) → j ≤ k → times j m ≤ times k m
times_less zero k m h = omega arith
times_less (suc j) zero m h = absurd (omega (arith, h))
times_less (suc j) (suc k) m h = (let r = times_less j k m (omega (arith, h)) in omega (arith, r))
