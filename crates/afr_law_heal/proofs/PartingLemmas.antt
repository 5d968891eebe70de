-- Small facts of sets and tests, for the later parts of a heal.
use Rattle.std.proofs.Common.{ℕ, ◌≡◌, ◌<◌, ◌≤◌, ◌≢◌, ◌&&◌, ◌||◌, ◌==◌, ◌∙◌, if◌then◌else◌, [], ◌∷◌, Bool, List, None, arith, false, filter, inl, inr, not, refl, slice_get, sym, true}
use Rattle.std.proofs.lemmas.Bool.{cases_lt, eqb-true, or_left}
use Rattle.std.proofs.lemmas.Bool.Decides.{eqb_tells}
use Rattle.afr_base.specs.Bricks.{added, is_nothing, member, minus, removed}
use Rattle.afr_base.specs.SetLemmas.{member_added, member_minus, member_removed}
use Rattle.afr_heal.proofs.Finding.{over_asked}
use Rattle.afr_heal.proofs.Parts.{both, denied, not_both, or_true}
use Rattle.afr_model.specs.Standing.{marked}
use Rattle.afr_model_moves.specs.Register.{over}
use Rattle.afr_model_moves.proofs.Tests.{same_self}
use Rattle.afr_model_moves.specs.Steps.{is_lowest}

-- ---- tests
-- of a half that is off
pub or_last : (a f l : Bool) → (a || ((f && false) && l)) ≡ true → a ≡ true
or_last true f l h = refl
or_last false true l h = absurd (cc h)
or_last false false l h = absurd (cc h)

-- ---- sets
-- a brick of the first set alone is left, and none is where each is in the second
pub some_left : (s t : List ℕ) (x : ℕ) → member s x ≡ true → member t x ≡ false → is_nothing (minus s t) ≡ false
some_left s t x m o = there (minus s t) (member_minus s t x ∙ rw (o, m) refl)
  where
    there : (l : List ℕ) → member l x ≡ true → is_nothing l ≡ false
    there [] h = absurd (cc h)
    there (y ∷ ys) h = refl

pub nothing_left : (s t : List ℕ) → ((x : ℕ) → member s x ≡ true → member t x ≡ true) → is_nothing (minus s t) ≡ true
nothing_left s t h = go (minus s t) (λ x. member_minus s t x)
  where
    go : (l : List ℕ) → ((x : ℕ) → member l x ≡ (not (member t x) && member s x)) → is_nothing l ≡ true
    go [] k = refl
    go (y ∷ ys) k = absurd (no (member t y) (member s y) (sym (k y) ∙ rw (same_self y) refl) (h y))
      where
        no : (a b : Bool) → (not a && b) ≡ true → (b ≡ true → a ≡ true) → ⊥
        no true b e f = cc e
        no false true e f = cc (f refl)
        no false false e f = cc e

-- where none is first of those that pass, none passes
pub filter_none : (p : ℕ → Bool) (xs : List ℕ) → slice_get (filter p xs) 0 ≡ None → (x : ℕ) → member xs x ≡ true → p x ≡ false
filter_none p [] h x m = absurd (cc m)
filter_none p (y ∷ ys) h x m = go (p y) refl (y == x) refl h m (filter_none p ys)
  where
    go : (e : Bool) → p y ≡ e → (f : Bool) → (y == x) ≡ f → slice_get (if e then y ∷ filter p ys else filter p ys) 0 ≡ None → (f || member ys x) ≡ true
        → (slice_get (filter p ys) 0 ≡ None → (x : ℕ) → member ys x ≡ true → p x ≡ false) → p x ≡ false
    go true e f ef h m rest = absurd (cc h)
    go false e true ef h m rest = let is : y ≡ x = eqb-true y x ef in rw is at e
    go false e false ef h m rest = rest h x m

-- ---- the lowest brick that was not asked
pub lowest_parts : (set asked : ℕ → Bool) (x : ℕ) → is_lowest set asked x ≡ true → (set x ≡ true) × (asked x ≡ false) × (over x set asked ≡ true)
lowest_parts set asked x h =
    let one = both (set x && not (asked x)) (over x set asked) h in
    let two = both (set x) (not (asked x)) one.0 in
    (two.0, denied (asked x) two.1, one.1)

-- there is one
one_lowest : (set asked : ℕ → Bool) (x b : ℕ) → is_lowest set asked x ≡ true → is_lowest set asked b ≡ true → x ≡ b
one_lowest set asked x b hx hb =
    let px = lowest_parts set asked x hx in
    let pb = lowest_parts set asked b hb in
    elim (eqb_tells x b) [
      | inl e ↦ e.1
      | inr e ↦ (let d = e.1 in elim (cases_lt x b) [
        | inl l ↦ absurd (not_both (asked x) (over_asked b set asked pb.2 x l px.0) px.1)
        | inr l ↦ absurd (not_both (asked b) (over_asked x set asked px.2 b (under x b d l) pb.0) pb.1)
      ])
    ]
  where
    under : (x b : ℕ) → x ≢ b → b ≤ x → b < x
    under x b d l = grind (arith, d, l)

-- ---- who was asked for the Work lock of the whole
-- by a lock that wasn't told Held: the one that was left is the one that was asked now
pub asked_more : (set asked : ℕ → Bool) (s : List ℕ) (b x : ℕ) (f : Bool) → is_lowest set asked b ≡ true → (member s x || ((f && true) && is_lowest set asked x)) ≡ true → member (if f then marked true b s else s) x ≡ true
asked_more set asked s b x true low h = go (member s x) refl h
  where
    go : (m : Bool) → member s x ≡ m → (m || is_lowest set asked x) ≡ true → member (added b s) x ≡ true
    go true e h = member_added b s x ∙ rw e (or_true (b == x))
    go false e h = let is : x ≡ b = one_lowest set asked x b h low in member_added b s x ∙ rw is (or_left (b == b) (member s b) (same_self b))
asked_more set asked s b x false low h = go (member s x) refl h
  where
    go : (m : Bool) → member s x ≡ m → (m || false) ≡ true → member s x ≡ true
    go true e h = e
    go false e h = absurd (cc h)

-- by one that was: it is the one that is left
pub asked_again : (set asked : ℕ → Bool) (s : List ℕ) (b x : ℕ) (f : Bool) → is_lowest set asked b ≡ true → (member s x || ((f && true) && is_lowest set asked x)) ≡ true → (member (if f then marked false b s else s) x || ((f && true) && is_lowest set asked x)) ≡ true
asked_again set asked s b x false low h = h
asked_again set asked s b x true low h = elim (eqb_tells b x) [
  | inl e ↦ (let is : is_lowest set asked x ≡ true = rw e.1 at low in rw is (or_true (member (removed b s) x)))
  | inr e ↦ (let gone : member (removed b s) x ≡ member s x = member_removed b s x ∙ rw e.0 refl in rw gone h)
]

-- who was granted it: the one that was asked now, or one before
pub granted_more : (P : Type 0) (s : List ℕ) (b x : ℕ) (f : Bool) → member (if f then added b s else s) x ≡ true → (member s x ≡ true → P) → (b ≡ x → P) → P
granted_more P s b x false m before now = before m
granted_more P s b x true m before now = go (b == x) refl (sym (member_added b s x) ∙ m)
  where
    go : (e : Bool) → (b == x) ≡ e → (e || member s x) ≡ true → P
    go true e h = now (eqb-true b x e)
    go false e h = before h
