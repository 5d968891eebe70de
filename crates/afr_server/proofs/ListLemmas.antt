-- Filters of lists, and tests that are always or never true.
use Rattle.std.proofs.Common.{◌≡◌, Bool, true, false, List, [], ◌∷◌, refl, ap, if◌then◌else◌, ◌&&◌}
use Rattle.std.specs.List.{filter}

pub never : (u v : Bool) → (u && v && false) ≡ false
never true true = refl
never true false = refl
never false v = refl

-- a filter that keeps all
pub filter_true : {A : Type 0} (f : A → Bool) (xs : List A) → ((x : A) → f x ≡ true) → filter f xs ≡ xs
filter_true f [] h = refl
filter_true f (x ∷ xs) h = rw (h x) (ap (λ (ys : List _). x ∷ ys) (filter_true f xs h))

-- two filters in one
pub filter_and : {A : Type 0} (f g h : A → Bool) (xs : List A) → ((x : A) → h x ≡ (f x && g x)) → filter h xs ≡ filter g (filter f xs)
filter_and f g h [] e = refl
filter_and f g h (x ∷ xs) e = rw (e x) (step (f x) (g x) refl (filter_and f g h xs e))
  where
    step : (u v : Bool) → g x ≡ v → filter h xs ≡ filter g (filter f xs) → (if u && v then x ∷ filter h xs else filter h xs) ≡ filter g (if u then x ∷ filter f xs else filter f xs)
    step true true t r = rw t (ap (λ (ys : List _). x ∷ ys) r)
    step true false t r = rw t r
    step false v t r = r
