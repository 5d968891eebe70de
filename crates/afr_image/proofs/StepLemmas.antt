-- Steps are their bytes, three for each, and bytes are the steps that they are read as.
use Rattle.std.proofs.Common.{◌≡◌, ℕ, zero, suc, ◌+◌, ◌*◌, ◌-◌, ◌≤◌, ◌&&◌, Bool, true, false, Option, Some, None, List, [], ◌∷◌, length, get_or, drop, refl, ◌∙◌, ap, arith}
use Rattle.std.specs.Prelude.{option_map, if◌then◌else◌}
use Rattle.std.proofs.lemmas.Bool.{cond-false, cond-true}
use Rattle.std.proofs.lemmas.List.{get_or-append-add}
use Rattle.afr_image.specs.declared.step.Step.{Step}
use Rattle.afr_image.specs.Steps.{steps_bytes, first_bad, steps_in, are_steps, is_step}

-- what is read of the bytes of steps
pub steps_again : (steps : List Step) → steps_in (steps_bytes steps) ≡ steps
steps_again [] = refl
steps_again (s ∷ more) = ap (λ (l : List Step). s ∷ l) (steps_again more)

-- the bytes of what is read
pub bytes_again : (bytes : List ℕ) (n : ℕ) → length bytes ≡ 3 * n → steps_bytes (steps_in bytes) ≡ bytes
bytes_again [] n h = refl
bytes_again (a ∷ []) n h = absurd (omega (arith, h))
bytes_again (a ∷ b ∷ []) n h = absurd (omega (arith, h))
bytes_again (a ∷ b ∷ c ∷ more) n h = ap (λ (l : List ℕ). a ∷ b ∷ c ∷ l) (bytes_again more (n - 1) (omega (arith, h)))

pub length-steps_in : (bytes : List ℕ) (n : ℕ) → length bytes ≡ 3 * n → length (steps_in bytes) ≡ n
length-steps_in [] n h = omega (arith, h)
length-steps_in (a ∷ []) n h = absurd (omega (arith, h))
length-steps_in (a ∷ b ∷ []) n h = absurd (omega (arith, h))
length-steps_in (a ∷ b ∷ c ∷ more) n h = omega (arith, h, length-steps_in more (n - 1) (omega (arith, h)))

pub length-steps_bytes : (steps : List Step) → length (steps_bytes steps) ≡ 3 * length steps
length-steps_bytes [] = refl
length-steps_bytes (s ∷ more) = omega (arith, length-steps_bytes more)

-- the three bytes from a place on
abbrev pub step_from : List ℕ → ℕ → Step
step_from bytes at = record { who = get_or bytes at 0; brick = get_or bytes (at + 1) 0; code = get_or bytes (at + 2) 0 }

after_three : (a b c : ℕ) (more : List ℕ) (i k : ℕ) → get_or (a ∷ b ∷ c ∷ more) (3 * suc i + k) 0 ≡ get_or more (3 * i + k) 0
after_three a b c more i k = let e : 3 * suc i + k ≡ 3 + (3 * i + k) = omega arith in rw e (get_or-append-add (a ∷ b ∷ c ∷ []) more (3 * i + k) 0)

three_later : (a b c : ℕ) (more : List ℕ) (i : ℕ) → step_from more (3 * i) ≡ step_from (a ∷ b ∷ c ∷ more) (3 * suc i)
three_later a b c more i =
    let e : 3 * suc i ≡ 3 + 3 * i = omega arith in
    let x : get_or (a ∷ b ∷ c ∷ more) (3 * suc i) 0 ≡ get_or more (3 * i) 0 = rw e (get_or-append-add (a ∷ b ∷ c ∷ []) more (3 * i) 0) in
    let y = after_three a b c more i 1 in
    let z = after_three a b c more i 2 in
    rw (x, y, z) refl

-- the steps from one on are it and those after it
pub steps_from : (i : ℕ) (bytes : List ℕ) → 3 * i + 3 ≤ length bytes → drop i (steps_in bytes) ≡ step_from bytes (3 * i) ∷ drop (i + 1) (steps_in bytes)
steps_from zero [] h = absurd (omega (arith, h))
steps_from zero (a ∷ []) h = absurd (omega (arith, h))
steps_from zero (a ∷ b ∷ []) h = absurd (omega (arith, h))
steps_from zero (a ∷ b ∷ c ∷ more) h = refl
steps_from (suc i) [] h = absurd (omega (arith, h))
steps_from (suc i) (a ∷ []) h = absurd (omega (arith, h))
steps_from (suc i) (a ∷ b ∷ []) h = absurd (omega (arith, h))
steps_from (suc i) (a ∷ b ∷ c ∷ more) h =
    let next : suc (i + 1) ≡ suc i + 1 = omega arith in
    steps_from i more (omega (arith, h))
    ∙ ap (λ (s : Step). s ∷ drop (i + 1) (steps_in more)) (three_later a b c more i)
    ∙ ap (λ (n : ℕ). step_from (a ∷ b ∷ c ∷ more) (3 * suc i) ∷ drop n (steps_in (a ∷ b ∷ c ∷ more))) next

-- ---- the first step that no line can have
-- so many steps on
abbrev pub bad_after : ℕ → Option ℕ → Option ℕ
bad_after i o = option_map (λ k. i + k) o

pub bad_from_start : (o : Option ℕ) → o ≡ bad_after 0 o
bad_from_start None = refl
bad_from_start (Some k) = ap Some (omega arith)

later_bad : (i : ℕ) (o : Option ℕ) → bad_after i (option_map suc o) ≡ bad_after (i + 1) o
later_bad i None = refl
later_bad i (Some k) = ap Some (omega arith)

good_first : (s : Step) (more : List Step) → is_step s ≡ true → first_bad (s ∷ more) ≡ option_map suc (first_bad more)
good_first s more h = cond-true (is_step s) (option_map suc (first_bad more)) (Some 0) h

bad_first : (s : Step) (more : List Step) → is_step s ≡ false → first_bad (s ∷ more) ≡ Some 0
bad_first s more h = cond-false (is_step s) (option_map suc (first_bad more)) (Some 0) h

-- behind a good step it is as far, behind one more
pub bad_goes_on : (steps : List Step) (i : ℕ) (s : Step) (more : List Step) → drop i steps ≡ s ∷ more → is_step s ≡ true → first_bad steps ≡ bad_after i (first_bad (drop i steps)) → first_bad steps ≡ bad_after (i + 1) (first_bad more)
bad_goes_on steps i s more e good h = h ∙ ap (λ (l : List Step). bad_after i (first_bad l)) e ∙ ap (bad_after i) (good_first s more good) ∙ later_bad i (first_bad more)

-- a bad step is the first
pub bad_is_here : (steps : List Step) (i : ℕ) (s : Step) (more : List Step) → drop i steps ≡ s ∷ more → is_step s ≡ false → first_bad steps ≡ bad_after i (first_bad (drop i steps)) → first_bad steps ≡ Some i
bad_is_here steps i s more e bad h =
    let here : i + 0 ≡ i = omega arith in
    h ∙ ap (λ (l : List Step). bad_after i (first_bad l)) e ∙ ap (bad_after i) (bad_first s more bad) ∙ ap Some here

-- where none is bad, all are good
none_more : (o : Option ℕ) → option_map suc o ≡ None → o ≡ None
none_more None h = refl
none_more (Some k) h = absurd (cc h)

all_good : (more : List Step) (b : Bool) → (first_bad more ≡ None → are_steps more ≡ true) → (if b then option_map suc (first_bad more) else Some 0) ≡ None → (b && are_steps more) ≡ true
all_good more true rest h = rest (none_more (first_bad more) h)
all_good more false rest h = absurd (cc h)

pub good_steps : (steps : List Step) → first_bad steps ≡ None → are_steps steps ≡ true
good_steps [] h = refl
good_steps (s ∷ more) h = all_good more (is_step s) (good_steps more) h

no_bad : (more : List Step) (b : Bool) → (are_steps more ≡ true → first_bad more ≡ None) → (b && are_steps more) ≡ true → (if b then option_map suc (first_bad more) else Some 0) ≡ None
no_bad more true rest h = ap (option_map suc) (rest h)
no_bad more false rest h = absurd (cc h)

pub none_bad : (steps : List Step) → are_steps steps ≡ true → first_bad steps ≡ None
none_bad [] h = refl
none_bad (s ∷ more) h = no_bad more (is_step s) (none_bad more) h
