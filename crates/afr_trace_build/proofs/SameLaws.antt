-- Two rising lists with the same texts are one list.
use Rattle.std.proofs.Common.{◌≡◌, ◌⊎◌, inl, inr, ℕ, List, [], ◌∷◌, refl, sym, ap, subst, ◌∙◌, Bool, true, false, if◌then◌else◌}
use Rattle.afr_model.specs.ReportReplies.{in_order, placed, precedes}
use Rattle.afr_trace_read.specs.Contents.{is_before}
use Rattle.afr_trace_read.proofs.NamesLaws.{before_chain, not_itself}
use Rattle.afr_trace_read.proofs.OrderLaws.{Rises, RisesAfter}

-- a text is in a list
abbrev pub In : List ℕ → List (List ℕ) → Type 0
In t [] = ⊥
In t (s ∷ l) = (t ≡ s) ⊎ In t l

placed_from : (t s : List ℕ) (l : List (List ℕ)) → In t (placed s l) → (t ≡ s) ⊎ In t l
placed_from t s [] h = h
placed_from t s (u ∷ more) h = by (precedes s u) h (placed_from t s more)
  where
    by : (b : Bool) → In t (if b then s ∷ u ∷ more else u ∷ placed s more) → (In t (placed s more) → (t ≡ s) ⊎ In t more) → (t ≡ s) ⊎ In t (u ∷ more)
    by true k rec = k
    by false k rec = elim k [
      | inl e ↦ inr (inl e)
      | inr later ↦ elim (rec later) [
        | inl e ↦ inl e
        | inr m ↦ inr (inr m)
      ]
    ]

placed_in : (t s : List ℕ) (l : List (List ℕ)) → (t ≡ s) ⊎ In t l → In t (placed s l)
placed_in t s [] h = h
placed_in t s (u ∷ more) h = by (precedes s u) (placed_in t s more)
  where
    by : (b : Bool) → ((t ≡ s) ⊎ In t more → In t (placed s more)) → In t (if b then s ∷ u ∷ more else u ∷ placed s more)
    by true rec = h
    by false rec = elim h [
      | inl e ↦ inr (rec (inl e))
      | inr k ↦ elim k [
        | inl e ↦ inl e
        | inr m ↦ inr (rec (inr m))
      ]
    ]

pub ordered_from : (t : List ℕ) (l : List (List ℕ)) → In t (in_order l) → In t l
ordered_from t [] h = absurd h
ordered_from t (s ∷ l) h = elim (placed_from t s (in_order l) h) [
  | inl e ↦ inl e
  | inr m ↦ inr (ordered_from t l m)
]

pub ordered_in : (t : List ℕ) (l : List (List ℕ)) → In t l → In t (in_order l)
ordered_in t [] h = absurd h
ordered_in t (s ∷ l) h = placed_in t s (in_order l) (elim h [
  | inl e ↦ inl e
  | inr m ↦ inr (ordered_in t l m)
])

-- ---- rising lists
all_after : (s t : List ℕ) (l : List (List ℕ)) → RisesAfter s l → In t l → is_before s t ≡ true
all_after s t [] r h = absurd h
all_after s t (u ∷ l) r h = elim h [
  | inl e ↦ ap (is_before s) e ∙ r.0
  | inr m ↦ before_chain s u t r.0 (all_after u t l r.1 m)
]

firsts_same : (s t : List ℕ) (l m : List (List ℕ)) → RisesAfter s l → RisesAfter t m → In s (t ∷ m) → In t (s ∷ l) → s ≡ t
firsts_same s t l m r q h k = elim h [
  | inl e ↦ e
  | inr there ↦ elim k [
    | inl e ↦ sym e
    | inr here ↦ absurd (not_itself s s refl (before_chain s t s (all_after s t l r here) (all_after t s m q there)))
  ]
]

rest_in : (s x : List ℕ) (l m : List (List ℕ)) → RisesAfter s l → In x l → In x (s ∷ m) → In x m
rest_in s x l m r h k = elim k [
  | inl e ↦ absurd (not_itself s x (sym e) (all_after s x l r h))
  | inr there ↦ there
]

after_rises : (s : List ℕ) (l : List (List ℕ)) → RisesAfter s l → Rises l
after_rises s [] r = tt
after_rises s (t ∷ l) r = r.1

pub rising_same : (l m : List (List ℕ)) → Rises l → Rises m → ((t : List ℕ) → In t l → In t m) → ((t : List ℕ) → In t m → In t l) → l ≡ m
rising_same [] [] r q f g = refl
rising_same [] (t ∷ m) r q f g = absurd (g t (inl refl))
rising_same (s ∷ l) [] r q f g = absurd (f s (inl refl))
rising_same (s ∷ l) (t ∷ m) r q f g =
    let e : s ≡ t = firsts_same s t l m r q (f s (inl refl)) (g t (inl refl)) in
    let q' : RisesAfter s m = subst (λ (u : List ℕ). RisesAfter u m) (sym e) q in
    let there : (x : List ℕ) → In x l → In x m = λ x h. rest_in s x l m r h (subst (λ (u : List ℕ). In x (u ∷ m)) (sym e) (f x (inr h))) in
    let back : (x : List ℕ) → In x m → In x l = λ x h. rest_in s x m l q' h (g x (inr h)) in
    ap (λ (u : List ℕ). u ∷ l) e ∙ ap (λ (k : List (List ℕ)). t ∷ k) (rising_same l m (after_rises s l r) (after_rises t m q) there back)
