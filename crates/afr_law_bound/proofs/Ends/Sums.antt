-- Sums over lists, and the list of actors.
use Rattle.std.proofs.Common.{◌≡◌, ℕ, zero, suc, ◌+◌, ◌<◌, ◌≤◌, ◌⊎◌, inl, inr, sym, subst, arith, List, [], ◌∷◌, ◌++◌, length}
use Rattle.std.specs.List.{range_with_len}
use Rattle.afr_law_bound.specs.Ends.Cost.{total}
use Rattle.afr_model.specs.Actors.{Client, Healer, IsActor}
use Rattle.afr_model.specs.Ordered.{actors_of}
use Rattle.afr_plan.specs.declared.plan.Plan.{Plan}
use Rattle.afr_law_bound.proofs.Circle.{In}

pub total_le : {A : Type 0} (f g : A → ℕ) (xs : List A) → ((x : A) → g x ≤ f x) → total g xs ≤ total f xs
total_le f g [] low = omega arith
total_le f g (x ∷ xs) low = (let h = low x in let t = total_le f g xs low in omega (arith, h, t))

pub total_less : {A : Type 0} (f g : A → ℕ) (xs : List A) (x : A) → ((x : A) → g x ≤ f x) → In x xs → g x < f x → total g xs < total f xs
total_less f g [] x low here less = absurd here
total_less f g (y ∷ ys) x low (inl e) less = (let k : g y < f y = subst (λ z. g z < f z) e less in let t = total_le f g ys low in omega (arith, k, t))
total_less f g (y ∷ ys) x low (inr h) less = (let t = total_less f g ys x low h less in let k = low y in omega (arith, k, t))

pub total_some : {A : Type 0} (f : A → ℕ) (xs : List A) (x : A) → In x xs → f x ≤ total f xs
total_some f [] x here = absurd here
total_some f (y ∷ ys) x (inl e) = subst (λ z. f z ≤ f y + total f ys) (sym e) (omega arith)
total_some f (y ∷ ys) x (inr h) = (let t = total_some f ys x h in omega (arith, t))

pub total_count : {A : Type 0} (f : A → ℕ) (xs : List A) → ((x : A) → f x ≤ 1) → total f xs ≤ length xs
total_count f [] low = omega arith
total_count f (x ∷ xs) low = (let h = low x in let t = total_count f xs low in omega (arith, h, t))

pub in_left : {A : Type 0} (x : A) (xs ys : List A) → In x xs → In x (xs ++ ys)
in_left x [] ys h = absurd h
in_left x (y ∷ xs) ys (inl e) = inl e
in_left x (y ∷ xs) ys (inr h) = inr (in_left x xs ys h)

pub in_right : {A : Type 0} (x : A) (xs ys : List A) → In x ys → In x (xs ++ ys)
in_right x [] ys h = h
in_right x (y ∷ xs) ys h = inr (in_right x xs ys h)

first_or : (first a count : ℕ) → first ≤ a → a < first + suc count → (a ≡ first) ⊎ ((first + 1 ≤ a) × (a < first + 1 + count))
first_or first a count low high = grind arith

pub in_range : (first count a : ℕ) → first ≤ a → a < first + count → In a (range_with_len first count)
in_range first zero a low high = absurd (omega (arith, low, high))
in_range first (suc count) a low high = elim (first_or first a count low high) [ inl e ↦ inl e | inr w ↦ inr (in_range (first + 1) count a w.0 w.1) ]

pub actor_in : (p : Plan) (a : ℕ) → IsActor p a → In a (actors_of p)
actor_in p a (Client low high) = in_left a (range_with_len 1 (length p.clients)) (range_with_len 17 (length p.healers)) (in_range 1 (length p.clients) a low (omega (arith, high)))
actor_in p a (Healer low high) = in_right a (range_with_len 1 (length p.clients)) (range_with_len 17 (length p.healers)) (in_range 17 (length p.healers) a low (omega (arith, high)))
