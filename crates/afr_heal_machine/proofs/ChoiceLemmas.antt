-- The copies that a rule chooses from, and the bricks that show that a source moved.
use Rattle.std.proofs.Common.{zero, suc, slice_get, ◌||◌, ◌≡◌, ℕ, ◌<◌, ◌≤◌, ◌==◌, ◌&&◌, ◌∙◌, not, nat_lt, Bool, true, false, List, [], ◌∷◌, refl, sym, ap, arith, filter, map, length, subst, Option, None, Some, if◌then◌else◌}
use Rattle.std.proofs.lemmas.Bool.Decides.{nat_tests}
use Rattle.std.proofs.lemmas.Bool.{eqb-true, lt-ltb, ltb-true}
use Rattle.std.specs.Option.{unwrap_or}
use Rattle.afr_base.proofs.OfFive.{chosen_same, member_chosen}
use Rattle.afr_base.specs.Bricks.{all_five, below, common, from_table, member, minus}
use Rattle.afr_base.specs.Five.{first_in}
use Rattle.afr_base.specs.SetLemmas.{member_minus}
use Rattle.afr_base.specs.declared.ids.BrickId.{BrickId}
use Rattle.afr_base.specs.declared.ids.Kind.{Kind}
use Rattle.afr_base.specs.declared.ids.Kind.TheVariants as kind_of
use Rattle.afr_heal.proofs.Finding.{find_none, find_some}
use Rattle.afr_heal.proofs.Parts.{not_both}
use Rattle.afr_rule.specs.Choosing.{Calls, IsPick}
use Rattle.afr_rule.specs.Copies.{copy_in}
use Rattle.afr_heal_machine.specs.Healing.{IsChosen}
use Rattle.afr_discipline.specs.Stands.{seen_as, views_of}
use Rattle.afr_discipline.specs.declared.register.Register.{Register}
use Rattle.afr_model_moves.specs.Keeps.{keeps_in}
use Rattle.afr_model_moves.specs.Register.{good}
use Rattle.afr_discipline.specs.Turns.{brick_of, candidate, find}
use Rattle.afr_model_moves.proofs.Tests.{turned}
use Rattle.afr_rule.specs.declared.candidate.Candidate.{Candidate}
use Rattle.afr_heal_machine.specs.Source.{HasSource, IsCandidate, IsLowest, candidates_of}

-- those of a list that pass one test, without one number, and pass another
pub filter_minus : (p q : ℕ → Bool) (s : ℕ) (xs : List ℕ) → filter p (minus (filter q xs) (s ∷ [])) ≡ filter (λ x. q x && not (x == s) && p x) xs
filter_minus p q s [] = refl
filter_minus p q s (x ∷ xs) = go (q x) refl (s == x) refl (p x) refl (filter_minus p q s xs)
  where
    go : (a : Bool) → q x ≡ a → (b : Bool) → (s == x) ≡ b → (c : Bool) → p x ≡ c → filter p (minus (filter q xs) (s ∷ [])) ≡ filter (λ x. q x && not (x == s) && p x) xs
        → filter p (minus (filter q (x ∷ xs)) (s ∷ [])) ≡ filter (λ x. q x && not (x == s) && p x) (x ∷ xs)
    go false e b f c h ih = rw e ih
    go true e true f c h ih = let g : (x == s) ≡ true = turned x s ∙ f in rw (e, f, g) ih
    go true e false f true h ih = let g : (x == s) ≡ false = turned x s ∙ f in rw (e, f, g, h) (ap (λ (ys : List ℕ). x ∷ ys) ih)
    go true e false f false h ih = let g : (x == s) ≡ false = turned x s ∙ f in rw (e, f, g, h) ih

-- those below n that pass are those below n that pass another test, where both agree there
pub choose_same : (n : ℕ) (p q : ℕ → Bool) → ((x : ℕ) → x < n → q x ≡ p x) → (xs : List ℕ) → filter (λ x. nat_lt x n && p x) xs ≡ filter q (filter (λ b. nat_lt b n) xs)
choose_same n p q h [] = refl
choose_same n p q h (x ∷ xs) = go (nat_lt x n) refl (p x) refl (choose_same n p q h xs)
  where
    low : nat_lt x n ≡ true → x < n
    low e = grind (arith, nat_tests, e)

    go : (a : Bool) → nat_lt x n ≡ a → (c : Bool) → p x ≡ c → filter (λ x. nat_lt x n && p x) xs ≡ filter q (filter (λ b. nat_lt b n) xs) → filter (λ x. nat_lt x n && p x) (x ∷ xs) ≡ filter q (filter (λ b. nat_lt b n) (x ∷ xs))
    go false e c f ih = rw e ih
    go true e true f ih = let g : q x ≡ true = h x (low e) ∙ f in rw (e, f, g) (ap (λ (ys : List ℕ). x ∷ ys) ih)
    go true e false f ih = let g : q x ≡ false = h x (low e) ∙ f in rw (e, f, g) ih

pub below_is : (n : ℕ) → filter (λ b. nat_lt b n) all_five ≡ below n
unfolding below
below_is n = refl

pub choices_are : (copy : ℕ → Candidate) (n : ℕ) (p q : ℕ → Bool) → ((x : ℕ) → x < n → q x ≡ p x) → map copy (filter (λ x. nat_lt x n && p x) all_five) ≡ map copy (filter q (below n))
choices_are copy n p q h = ap (map copy) (choose_same n p q h all_five ∙ ap (filter q) (below_is n))

-- what is in a list and not in another
minus_is : (t s : List ℕ) → minus s t ≡ filter (λ x. not (member t x)) s
minus_is t [] = refl
minus_is t (x ∷ xs) = go (member t x) (minus_is t xs)
  where
    go : (m : Bool) → minus xs t ≡ filter (λ y. not (member t y)) xs → (if m then minus xs t else x ∷ minus xs t) ≡ (if not m then x ∷ filter (λ y. not (member t y)) xs else filter (λ y. not (member t y)) xs)
    go true ih = ih
    go false ih = ap (λ (ys : List ℕ). x ∷ ys) ih

filter_both : (p r : ℕ → Bool) (s : List ℕ) → filter r (filter p s) ≡ filter (λ x. p x && r x) s
filter_both p r [] = refl
filter_both p r (x ∷ xs) = go (p x) refl (r x) refl (filter_both p r xs)
  where
    go : (a : Bool) → p x ≡ a → (b : Bool) → r x ≡ b → filter r (filter p xs) ≡ filter (λ x. p x && r x) xs → filter r (filter p (x ∷ xs)) ≡ filter (λ x. p x && r x) (x ∷ xs)
    go true e true f ih = rw (e, f) (ap (λ (ys : List ℕ). x ∷ ys) ih)
    go true e false f ih = rw (e, f) ih
    go false e b f ih = rw e ih

-- the bricks below n of those that pass
pub those_below : (n : ℕ) (p : ℕ → Bool) → common (filter p all_five) (below n) ≡ filter (λ x. nat_lt x n && p x) all_five
those_below n p =
    minus_is (minus chosen (below n)) chosen
    ∙ filter_both p (λ x. not (member (minus chosen (below n)) x)) all_five
    ∙ chosen_same (λ x. p x && not (member (minus chosen (below n)) x)) (λ x. nat_lt x n && p x) (λ x l. ap (λ (m : Bool). p x && not m) (outside x l) ∙ twice (nat_lt x n) (p x))
  where
    chosen : List ℕ
    chosen = filter p all_five

    low : (x : ℕ) → x < 5 → member (below n) x ≡ nat_lt x n
    low x l = ap (λ (s : List ℕ). member s x) (sym (below_is n)) ∙ member_chosen (λ b. nat_lt b n) x l

    outside : (x : ℕ) → x < 5 → member (minus chosen (below n)) x ≡ (not (nat_lt x n) && p x)
    outside x l = member_minus chosen (below n) x ∙ (λ i. not (low x l i) && member_chosen p x l i)

    twice : (a b : Bool) → (b && not (not a && b)) ≡ (a && b)
    twice true true = refl
    twice true false = refl
    twice false true = refl
    twice false false = refl

-- the first of a set
pub first_is : (s : List ℕ) → first_in s ≡ brick_of (slice_get s 0)
first_is [] = refl
first_is (x ∷ xs) = refl

-- where the copies that may be the source are the good ones, they are the candidates
pub candidates_are : (p : Register) (kind : Kind) (copies : List Candidate) → HasSource kind p
    → copies ≡ map (copy_in p.seen) (filter (λ x. nat_lt x p.shape.n && good p.shape.n (keeps_in p.shape) kind (views_of p.seen) x) all_five) → copies ≡ candidates_of p
candidates_are p kind copies has k =
    k ∙ choices_are (copy_in p.seen) p.shape.n (good p.shape.n (keeps_in p.shape) kind (views_of p.seen)) (candidate p.shape.n (keeps_in p.shape) (seen_as p)) has.copies

-- one that passes both tests is among those of a list that do
some_left : (copy : ℕ → Candidate) (p q : ℕ → Bool) (x : ℕ) → p x ≡ true → q x ≡ true → (xs : List ℕ) → member xs x ≡ true → 0 < length (map copy (filter q (filter p xs)))
some_left copy p q x hp hq [] m = absurd (cc m)
some_left copy p q x hp hq (y ∷ ys) m = go (p y) refl (q y) refl (y == x) refl m (some_left copy p q x hp hq ys)
  where
    here : (y == x) ≡ true → y ≡ x
    here e = eqb-true y x e

    go : (a : Bool) → p y ≡ a → (b : Bool) → q y ≡ b → (c : Bool) → (y == x) ≡ c → (c || member ys x) ≡ true → (member ys x ≡ true → 0 < length (map copy (filter q (filter p ys)))) → 0 < length (map copy (filter q (filter p (y ∷ ys))))
    go true e true f c h m2 ih = rw (e, f) (omega arith)
    go false e b f true h m2 ih = absurd (not_both (p y) (subst (λ (z : ℕ). p z ≡ true) (sym (here h)) hp) e)
    go true e false f true h m2 ih = absurd (not_both (q y) (subst (λ (z : ℕ). q z ≡ true) (sym (here h)) hq) f)
    go false e b f false h m2 ih = rw e (ih m2)
    go true e false f false h m2 ih = rw (e, f) (ih m2)

-- where a copy may be the source, there is one to choose from
pub some_listed : (p : Register) (kind : Kind) → p.shape.n ≤ 5 → HasSource kind p → 0 < length (candidates_of p)
some_listed p kind few has =
    let x = has.some.0 in
    let low = has.some.1.below in
    subst (λ (xs : List ℕ). 0 < length (map (copy_in p.seen) (filter (candidate p.shape.n (keeps_in p.shape) (seen_as p)) xs))) (below_is p.shape.n)
    (some_left (copy_in p.seen) (λ b. nat_lt b p.shape.n) (candidate p.shape.n (keeps_in p.shape) (seen_as p)) x (lt-ltb x p.shape.n low) has.some.1.passes all_five (from_table 5 (member all_five) refl x (omega (arith, low, few))))

-- what is chosen may be the source
picked_passes : (copy : ℕ → Candidate) → ((x : ℕ) → (copy x).brick.0 ≡ x) → (p q : ℕ → Bool) (xs : List ℕ) (i : ℕ) (candidate : Candidate) → slice_get (map copy (filter q (filter p xs))) i ≡ Some candidate → (p candidate.brick.0 ≡ true) × (q candidate.brick.0 ≡ true)
picked_passes copy same p q [] i candidate e = absurd (cc e)
picked_passes copy same p q (x ∷ xs) i candidate e = go (p x) refl (q x) refl i e (λ j h. picked_passes copy same p q xs j candidate h)
  where
    go : (a : Bool) → p x ≡ a → (b : Bool) → q x ≡ b → (i : ℕ) → slice_get (map copy (filter q (filter p (x ∷ xs)))) i ≡ Some candidate
        → ((j : ℕ) → slice_get (map copy (filter q (filter p xs))) j ≡ Some candidate → (p candidate.brick.0 ≡ true) × (q candidate.brick.0 ≡ true)) → (p candidate.brick.0 ≡ true) × (q candidate.brick.0 ≡ true)
    go false f b g i e ih = ih i (rw f at e)
    go true f false g i e ih = ih i (rw (f, g) at e)
    go true f true g zero e ih =
        let is : copy x ≡ candidate = cc (rw (f, g) at e) in
        let at_x : x ≡ candidate.brick.0 = sym (same x) ∙ ap (λ (c : Candidate). c.brick.0) is in
        (subst (λ (y : ℕ). p y ≡ true) at_x f, subst (λ (y : ℕ). q y ≡ true) at_x g)
    go true f true g (suc i) e ih = ih i (rw (f, g) at e)

pub chosen_is_candidate : {F : Type 0} (calls : Calls F) (choose : F) (kind : Kind) (p : Register) (chosen : BrickId) → IsChosen calls choose kind p chosen → IsCandidate p chosen.0
chosen_is_candidate calls choose kind p chosen h = by kind h
  where
    of_pick : IsPick calls choose (candidates_of p) chosen → IsCandidate p chosen.0
    of_pick w =
        let found = w.3 in
        let listed = subst (λ (xs : List ℕ). slice_get (map (copy_in p.seen) (filter (candidate p.shape.n (keeps_in p.shape) (seen_as p)) xs)) w.0 ≡ Some w.1) (sym (below_is p.shape.n)) found in
        let passes = picked_passes (copy_in p.seen) (λ x. refl) (λ b. nat_lt b p.shape.n) (candidate p.shape.n (keeps_in p.shape) (seen_as p)) all_five w.0 w.1 listed in
        let is : w.1.brick.0 ≡ chosen.0 = ap (λ (b : BrickId). b.0) (sym w.4) in
        record {
          below = ltb-true chosen.0 p.shape.n (subst (λ (y : ℕ). nat_lt y p.shape.n ≡ true) is passes.0);
          passes = subst (λ (y : ℕ). candidate p.shape.n (keeps_in p.shape) (seen_as p) y ≡ true) is passes.1;
        }

    by : (kind : Kind) → IsChosen calls choose kind p chosen → IsCandidate p chosen.0
    by kind_of.Names w = let f = find_some p.shape.n (candidate p.shape.n (keeps_in p.shape) (seen_as p)) chosen.0 w in record { below = f.0; passes = f.1 }
    by kind_of.Bytes w = of_pick w
    by kind_of.Attrs w = of_pick w

none_found : (o : Option ℕ) → brick_of o ≡ None → o ≡ None
none_found None e = refl
none_found (Some b) e = absurd (cc e)

some_found : (o : Option ℕ) (b : BrickId) → brick_of o ≡ Some b → o ≡ Some b.0
some_found None b e = absurd (cc e)
some_found (Some x) b e = cc e

-- where some copy may be the source, the one that was found is the lowest of them
pub lowest_is : (p : Register) (kind : Kind) (b : BrickId) → HasSource kind p → (o : Option BrickId) → o ≡ brick_of (find p.shape.n (candidate p.shape.n (keeps_in p.shape) (seen_as p))) → b ≡ unwrap_or o (record { 0 = 0 }) → IsLowest p b
lowest_is p kind b has None e f = absurd (not_both _ has.some.1.passes (find_none _ _ (none_found _ (sym e)) has.some.0 has.some.1.below))
lowest_is p kind b has (Some x) e f = some_found _ b (sym e ∙ ap Some (sym f))
