-- The bricks of a set below a number: whether there are some, whether it has all of them, and the lowest of them.
use Rattle.std.proofs.Common.{◌≡◌, ◌∙◌, ◌⊎◌, inl, inr, ℕ, zero, suc, ◌<◌, ◌≤◌, ◌&&◌, not, Bool, true, false, List, Option, None, Some, refl, sym, ap, subst, arith}
use Rattle.afr_base.specs.Bricks.{below, common, is_nothing, lowest, member, minus}
use Rattle.afr_base.specs.Majority.{is_most}
use Rattle.afr_base.specs.SetLemmas.{below_all, lowest_in, lowest_left, member_minus, most_same, none_left, some_member, within_below}
use Rattle.afr_base.specs.declared.ids.Kind.{Kind}
use Rattle.afr_base.proofs.TestLemmas.{below_or_last}
use Rattle.afr_object.specs.declared.entry.View.{View}
use Rattle.afr_choice.proofs.Agreement.{one_is_missing}
use Rattle.afr_model_moves.proofs.Tests.{all_no, some_no}
use Rattle.afr_model_moves.specs.Register.{all, good}
use Rattle.afr_model_moves.specs.Sets.{any}
use Rattle.afr_discipline.specs.Tests.{suffices_by}
use Rattle.afr_discipline.specs.Turns.{find}

-- ---- tests that agree below a number
pub any_same : (n : ℕ) (p q : ℕ → Bool) → ((x : ℕ) → x < n → p x ≡ q x) → any n p ≡ any n q
any_same zero p q h = refl
any_same (suc n) p q h = rw (h n (omega arith), any_same n p q (λ x l. h x (omega (arith, l)))) refl

pub all_same : (n : ℕ) (p q : ℕ → Bool) → ((x : ℕ) → x < n → p x ≡ q x) → all n p ≡ all n q
all_same zero p q h = refl
all_same (suc n) p q h = rw (h n (omega arith), all_same n p q (λ x l. h x (omega (arith, l)))) refl

pub find_same : (n : ℕ) (p q : ℕ → Bool) → ((x : ℕ) → x < n → p x ≡ q x) → find n p ≡ find n q
find_same zero p q h = refl
find_same (suc n) p q h = rw (h n (omega arith), find_same n p q (λ x l. h x (omega (arith, l)))) refl

pub suffices_same : (n : ℕ) (keeps : ℕ → Kind → Bool) (kind : Kind) (views : ℕ → Option View) (p q : ℕ → Bool) → ((x : ℕ) → x < n → p x ≡ q x) → suffices_by n keeps kind views p ≡ suffices_by n keeps kind views q
suffices_same n keeps kind views p q h =
    ap (λ (m : Bool). m && any n (λ s. p s && good n keeps kind views s)) (most_same n p q h)
    ∙ ap (λ (m : Bool). is_most n q && m) (any_same n (λ s. p s && good n keeps kind views s) (λ s. q s && good n keeps kind views s) (λ x l. ap (λ (m : Bool). m && good n keeps kind views x) (h x l)))

-- ---- what is found below a number
find_none : (n : ℕ) (p : ℕ → Bool) → ((b : ℕ) → b < n → p b ≡ false) → find n p ≡ None
find_none zero p h = refl
find_none (suc n) p h = rw (find_none n p (λ b l. h b (omega arith)), h n (omega arith)) refl

find_some : (n : ℕ) (p : ℕ → Bool) (b : ℕ) → b < n → p b ≡ true → ((c : ℕ) → c < b → p c ≡ false) → find n p ≡ Some b
find_some zero p b l h least = absurd (omega arith)
find_some (suc n) p b l h least =
    elim (below_or_last b n l) [
      | inl before ↦ rw (find_some n p b before h least) refl
      | inr here ↦
          (let yes : p n ≡ true = subst (λ (m : ℕ). p m ≡ true) here h in
          rw (find_none n p (λ c k. least c (omega (arith, here, k))), yes) (ap (λ (m : ℕ). Some m) (sym here)))
    ]

any_none : (n : ℕ) (p : ℕ → Bool) → ((b : ℕ) → b < n → p b ≡ false) → any n p ≡ false
any_none zero p h = refl
any_none (suc n) p h = rw (h n (omega arith)) (any_none n p (λ b l. h b (omega arith)))

-- ---- the bricks of a set that are below it
pub both_of : (x y : Bool) → (not (not x && y) && y) ≡ (x && y)
both_of true true = refl
both_of true false = refl
both_of false true = refl
both_of false false = refl

pub in_common : (s t : List ℕ) (c : ℕ) → member (common s t) c ≡ (member t c && member s c)
in_common s t c = member_minus s (minus s t) c ∙ ap (λ (x : Bool). not x && member s c) (member_minus s t c) ∙ both_of (member t c) (member s c)

module _ (n : ℕ) (s few : List ℕ) (five : n ≤ 5) (is : few ≡ common s (below n)) where
  -- below the number it has what the set has
  shared : (b : ℕ) → b < n → member few b ≡ member s b
  shared b l = ap (λ (t : List ℕ). member t b) is ∙ in_common s (below n) b ∙ ap (λ (x : Bool). x && member s b) (below_all n b five l)

  -- and nothing else
  inside : (b : ℕ) → member few b ≡ true → b < n
  inside b h = within_below n b (first (member (below n) b) (member s b) (sym (in_common s (below n) b) ∙ ap (λ (t : List ℕ). member t b) (sym is) ∙ h))
    where
      first : (x y : Bool) → (x && y) ≡ true → x ≡ true
      first true y e = refl
      first false y e = absurd (cc e)

  -- where it has none, no brick of the set is below the number
  none_below : is_nothing few ≡ true → (b : ℕ) → b < n → member s b ≡ false
  none_below none b l = go (member few b) refl
    where
      go : (x : Bool) → member few b ≡ x → member s b ≡ false
      go true e = absurd (let some = some_member few b e in cc)
      go false e = sym (shared b l) ∙ e

  pub found_none : is_nothing few ≡ true → find n (member s) ≡ None
  found_none none = find_none n (member s) (none_below none)

  pub found_lowest : (b : ℕ) → member few b ≡ true → ((c : ℕ) → c < b → member few c ≡ false) → find n (member s) ≡ Some b
  found_lowest b h least =
      let low : b < n = inside b h in
      find_some n (member s) b low (sym (shared b low) ∙ h) (λ c l. let k : c < n = omega (arith, l, low) in sym (shared c k) ∙ least c l)

  pub some_below : not (is_nothing few) ≡ any n (member s)
  some_below = go (is_nothing few) refl
    where
      go : (x : Bool) → is_nothing few ≡ x → not (is_nothing few) ≡ any n (member s)
      go true e = rw e (sym (any_none n (member s) (none_below e)))
      go false e =
          let there : member few (lowest few) ≡ true = lowest_in few e in
          let low : lowest few < n = inside (lowest few) there in
          rw e (sym (some_no n (member s) (lowest few) low (sym (shared (lowest few) low) ∙ there)))

-- nothing is missing below a number where the set has all of them
pub none_missing : (n : ℕ) → n ≤ 5 → (s missing : List ℕ) → missing ≡ minus (below n) s → is_nothing missing ≡ all n (member s)
none_missing n five s missing is = go (is_nothing missing) refl
  where
    at : (x : Bool) → is_nothing missing ≡ x → is_nothing (minus (below n) s) ≡ x
    at x e = ap is_nothing (sym is) ∙ e

    go : (x : Bool) → is_nothing missing ≡ x → is_nothing missing ≡ all n (member s)
    go true e = e ∙ sym (all_no n (member s) (λ x l. none_left (below n) s (at true e) x (below_all n x five l)))
    go false e =
        let one = lowest_left (below n) s (at false e) in
        e ∙ sym (one_is_missing n (member s) (lowest (minus (below n) s)) (within_below n (lowest (minus (below n) s)) one.1) one.0)
