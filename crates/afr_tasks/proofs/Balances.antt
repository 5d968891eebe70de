-- Each move of a pass keeps the balance.
use Rattle.std.proofs.Common.{◌≡◌, ◌≢◌, ℕ, zero, suc, ◌+◌, ◌-◌, ◌<◌, ◌≤◌, List, [], ◌∷◌, ◌++◌, set, sym, refl, ap, subst, ⊎_elim, arith}
use mathlib.Core.Option.{some, some-ne-none}
use Rattle.std.proofs.Math.Option.{some-injective}
use lib.ListN.{get_elem?}
use Rattle.crossbeam_queue.specs.Fifo.{Pushes, Pops, Forks, Merges, Learns}
use Rattle.crossbeam_queue.proofs.Lists.{at_set, at_snoc}
use Rattle.afr_tasks.specs.Balance.{AllHaveRights, Balanced, HasRights, hand, total, weigh}
use Rattle.afr_tasks.specs.declared.rule.Hand.{Hand}
use Rattle.afr_tasks.specs.declared.rule.Task.{Task}

pub weigh_append : {A : Type 0} → (h : A → ℕ) (xs ys : List A) → weigh h (xs ++ ys) ≡ weigh h xs + weigh h ys
weigh_append h [] ys = omega arith
weigh_append h (x ∷ xs) ys = omega (arith, weigh_append h xs ys)

-- one pass among all is changed
total_set : (f : Hand → ℕ) (views : List Hand) (port : ℕ) (v w : Hand) → get_elem? views port ≡ some v → total f (set views port w) + f v ≡ total f views + f w
total_set f [] port v w e = absurd (some-ne-none v (sym e))
total_set f (x ∷ xs) zero v w e = omega (arith, ap f (some-injective _ _ e))
total_set f (x ∷ xs) (suc n) v w e = omega (arith, total_set f xs n v w e)

-- one more pass
total_snoc : (f : Hand → ℕ) (views : List Hand) (v : Hand) → total f (views ++ v ∷ []) ≡ total f views + f v
total_snoc f [] v = omega arith
total_snoc f (x ∷ xs) v = omega (arith, total_snoc f xs v)

rights_set : (views : List Hand) (port : ℕ) (w : Hand) → HasRights w → AllHaveRights views → AllHaveRights (set views port w)
rights_set views port w mine old j u e = ⊎_elim (λ (x : (j ≡ port) × (w ≡ u)). subst HasRights x.1 mine) (λ (x : (j ≢ port) × (get_elem? views j ≡ some u)). old j u x.1) (at_set views port j w u e)

rights_snoc : (views : List Hand) (w : Hand) → HasRights w → AllHaveRights views → AllHaveRights (views ++ w ∷ [])
rights_snoc views w mine old j u e = ⊎_elim (λ (x : get_elem? views j ≡ some u). old j u x) (λ (is : w ≡ u). subst HasRights is mine) (at_snoc views w u j e)

-- ---- who has many parts knows what those with few have not
abbrev parts : Hand → ℕ
parts v = v.parts

-- one pass has no more than all of them
within : (f : Hand → ℕ) (views : List Hand) (port : ℕ) (v : Hand) → get_elem? views port ≡ some v → f v ≤ total f views
within f [] port v e = absurd (some-ne-none v (sym e))
within f (x ∷ xs) zero v e = omega (arith, ap f (some-injective _ _ e))
within f (x ∷ xs) (suc n) v e = omega (arith, within f xs n v e)

-- f is 0 of each pass with fewer parts than these
abbrev IsNoneBelow : ℕ → (Hand → ℕ) → List Hand → Type 0
IsNoneBelow least f views = (port : ℕ) (v : Hand) → get_elem? views port ≡ some v → v.parts < least → f v ≡ 0

none_left : (least : ℕ) (f : Hand → ℕ) (views : List Hand) → IsNoneBelow least f views → total parts views < least → total f views ≡ 0
none_left least f [] none few = refl
none_left least f (x ∷ xs) none few =
    let here : f x ≡ 0 = none 0 x refl (omega (arith, few)) in
    omega (arith, here, none_left least f xs (λ n v at. none (suc n) v at) (omega (arith, few)))

alone : (least : ℕ) (f : Hand → ℕ) (views : List Hand) (port : ℕ) (v : Hand) → IsNoneBelow least f views → get_elem? views port ≡ some v → total parts views < v.parts + least → total f views ≡ f v
alone least f [] port v none e few = absurd (some-ne-none v (sym e))
alone least f (x ∷ xs) zero v none e few =
    let is : x ≡ v = some-injective _ _ e in
    omega (arith, ap f is, none_left least f xs (λ n u at. none (suc n) u at) (omega (arith, few, ap parts is)))
alone least f (x ∷ xs) (suc n) v none e few =
    let most : v.parts ≤ total parts xs = within parts xs n v e in
    let here : f x ≡ 0 = none 0 x refl (omega (arith, most, few)) in
    omega (arith, here, alone least f xs n v (λ k u at. none (suc k) u at) e (omega (arith, few)))

-- ---- the moves
abbrev put_of : (Task → ℕ) → Hand → ℕ
put_of h v = weigh h v.put

abbrev taken_of : (Task → ℕ) → Hand → ℕ
taken_of h v = weigh h v.taken

pub begins : Balanced [] (hand 5 [] [] ∷ [])
begins = (refl, (λ h. refl), first)
  where
    first : (port : ℕ) (v : Hand) → get_elem? (hand 5 [] [] ∷ []) port ≡ some v → HasRights v
    first zero v at = subst HasRights (some-injective _ _ at) ((λ none. refl), λ few. refl)
    first (suc n) v at = absurd (some-ne-none v (sym at))

pub puts : (n port : ℕ) (v : Hand) (x : Task) → 2 < v.parts → Pushes Balanced n port v x (λ w. w ≡ hand v.parts (v.put ++ x ∷ []) v.taken)
puts n port v x many items views room b at =
    let w : Hand = hand v.parts (v.put ++ x ∷ []) v.taken in (
      w,
      (
        omega (arith, total_set parts views port v w at, b.0),
        (λ h. omega (arith, total_set (put_of h) views port v w at, total_set (taken_of h) views port v w at, b.1 h, weigh_append h v.put (x ∷ []), weigh_append h items (x ∷ []))),
        rights_set views port w ((λ none. absurd (omega (arith, none, many))), λ few. absurd (omega (arith, few, many))) b.2,
      ),
      refl,
    )

pub takes : (port : ℕ) (v : Hand) → 0 < v.parts → Pops Balanced port v (λ x w. w ≡ hand v.parts v.put (v.taken ++ x ∷ []))
takes port v some_part x items views b at =
    let w : Hand = hand v.parts v.put (v.taken ++ x ∷ []) in (
      w,
      (
        omega (arith, total_set parts views port v w at, b.0),
        (λ h. omega (arith, total_set (put_of h) views port v w at, total_set (taken_of h) views port v w at, b.1 h, weigh_append h v.taken (x ∷ []))),
        rights_set views port w ((λ none. absurd (omega (arith, none, some_part))), (b.2 port v at).1) b.2,
      ),
      refl,
    )

pub cuts : (port : ℕ) (v : Hand) → 3 < v.parts → Forks Balanced port v (hand (v.parts - 1) v.put []) (hand 1 [] v.taken)
cuts port v many items views b at =
    let w : Hand = hand (v.parts - 1) v.put [] in
    let vs : List Hand = set views port w in
    let r : Hand = hand 1 [] v.taken in (
      omega (arith, total_snoc parts vs r, total_set parts views port v w at, b.0, many),
      (λ h. omega (arith, total_snoc (put_of h) vs r, total_set (put_of h) views port v w at, total_snoc (taken_of h) vs r, total_set (taken_of h) views port v w at, b.1 h)),
      rights_snoc vs r ((λ none. absurd (omega (arith, none))), λ few. refl) (rights_set views port w ((λ none. refl), λ few. absurd (omega (arith, few, many))) b.2),
    )

pub spares : (port : ℕ) (v : Hand) → Forks Balanced port v v (hand 0 [] [])
spares port v items views b at =
    let vs : List Hand = set views port v in
    let r : Hand = hand 0 [] [] in (
      omega (arith, total_snoc parts vs r, total_set parts views port v v at, b.0),
      (λ h. omega (arith, total_snoc (put_of h) vs r, total_set (put_of h) views port v v at, total_snoc (taken_of h) vs r, total_set (taken_of h) views port v v at, b.1 h)),
      rights_snoc vs r ((λ none. refl), λ few. refl) (rights_set views port v (b.2 port v at) b.2),
    )

pub merges : (port : ℕ) (v : Hand) (other : ℕ) (u : Hand) → 2 < v.parts → Merges Balanced port v other u (hand (v.parts + u.parts) (v.put ++ u.put) (v.taken ++ u.taken)) (hand 0 [] [])
merges port v other u many items views b at two at' =
    let w : Hand = hand (v.parts + u.parts) (v.put ++ u.put) (v.taken ++ u.taken) in
    let vs : List Hand = set views port w in
    let r : Hand = hand 0 [] [] in (
      omega (arith, total_set parts vs other u r at', total_set parts views port v w at, b.0),
      (λ h. omega (
        arith,
        total_set (put_of h) vs other u r at',
        total_set (put_of h) views port v w at,
        total_set (taken_of h) vs other u r at',
        total_set (taken_of h) views port v w at,
        b.1 h,
        weigh_append h v.put u.put,
        weigh_append h v.taken u.taken,
      )),
      rights_set vs other r ((λ none. refl), λ few. refl) (rights_set views port w ((λ none. absurd (omega (arith, none, many))), λ few. absurd (omega (arith, few, many))) b.2),
    )

-- with three parts or more
pub knows : (port : ℕ) (v : Hand) → 2 < v.parts → Learns Balanced port v (λ items. (h : Task → ℕ) → weigh h v.taken ≤ weigh h v.put)
knows port v many items views b at h =
    let all : total parts views < v.parts + 3 = omega (arith, b.0, many) in
    let puts : total (put_of h) views ≡ weigh h v.put = alone 3 (put_of h) views port v (λ n u there few. ap (weigh h) ((b.2 n u there).1 few)) at all in
    omega (arith, b.1 h, puts, within (taken_of h) views port v at)

-- with all of them
pub learns : (port : ℕ) (v : Hand) → v.parts ≡ 5 → Learns Balanced port v (λ items. (h : Task → ℕ) → weigh h v.put ≡ weigh h v.taken + weigh h items)
learns port v whole items views b at h =
    let all : total parts views < v.parts + 1 = omega (arith, b.0, whole) in
    let puts : total (put_of h) views ≡ weigh h v.put = alone 1 (put_of h) views port v (λ n u there few. ap (weigh h) ((b.2 n u there).1 (omega (arith, few)))) at all in
    let takes : total (taken_of h) views ≡ weigh h v.taken = alone 1 (taken_of h) views port v (λ n u there few. ap (weigh h) ((b.2 n u there).0 (omega (arith, few)))) at all in
    omega (arith, b.1 h, puts, takes)
