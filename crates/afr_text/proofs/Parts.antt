-- Known bytes that grow or are consumed in parts, and what is left behind a copy.
use Rattle.std.proofs.Common.{◌≡◌, ℕ, ◌≤◌, ◌+◌, ◌-◌, arith, length-drop, drop-drop, List, ◌++◌, length, take, drop, Option, Some, None, ap, sym, ◌∙◌, append_assoc}
use Rattle.std.proofs.lemmas.List.{length-take, take-append-le, take_all, take-append-drop}
use Rattle.std.specs.Io.KnownBytes.{Appends, Consumes}

-- bytes taken in two parts are taken as their whole
pub appends_more : (a b c : Option (List ℕ)) (xs ys zs : List ℕ) → xs ++ ys ≡ zs → Appends a b xs → Appends b c ys → Appends a c zs
appends_more None b c xs ys zs e p q = tt
appends_more (Some u) None c xs ys zs e p q = absurd p
appends_more (Some u) (Some v) None xs ys zs e p q = absurd q
appends_more (Some u) (Some v) (Some w) xs ys zs e p q = q ∙ ap (λ t. t ++ ys) p ∙ append_assoc u xs ys ∙ ap (λ t. u ++ t) e

-- bytes that came in two parts came as their whole
pub consumes_more : (a b c : Option (List ℕ)) (xs ys : List ℕ) → Consumes a b xs → Consumes b c ys → Consumes a c (xs ++ ys)
consumes_more None b c xs ys p q = tt
consumes_more (Some u) None c xs ys p q = absurd p
consumes_more (Some u) (Some v) None xs ys p q = absurd q
consumes_more (Some u) (Some v) (Some w) xs ys p q = p ∙ ap (λ t. xs ++ t) q ∙ sym (append_assoc xs ys w)

-- what was copied, and what is left behind it
pub copied : (bytes rest new : List ℕ) (at n : ℕ) → at + n ≤ length bytes → new ≡ take (at + n - at) (drop at bytes) → take n (new ++ rest) ++ drop (at + n) bytes ≡ drop at bytes
copied bytes rest new at n l e =
    let short : at + n - at ≡ n = omega arith in
    let is : new ≡ take n (drop at bytes) = rw short at e in
    let long : length new ≡ n = ap length is ∙ length-take n (drop at bytes) ∙ omega (arith, length-drop at bytes) in
    let here : n ≤ length new = omega arith in
    let all : length new ≤ n = omega arith in
    rw (take-append-le n new rest here, take_all n new all, is, ← drop-drop n at bytes) (take-append-drop n (drop at bytes))
