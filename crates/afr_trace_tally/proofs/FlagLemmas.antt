-- Flags for five bricks.
use Rattle.std.proofs.Common.{◌≡◌, ◌∙◌, ℕ, zero, suc, ◌<◌, ◌≤◌, ◌⊎◌, inl, inr, sym, nat_lt, leb, Bool, true, false, [], ◌∷◌, refl, arith}
use Rattle.std.proofs.lemmas.Bool.Decides.{leb_tells}
use Rattle.afr_base.specs.Bricks.{member, below}
use Rattle.afr_base.specs.SetLemmas.{below_all, within_below}
use Rattle.afr_model.specs.Report.{started_bricks}
use Rattle.afr_trace_tally.specs.Flags.{flags}

-- flags that are the same one by one
pub five_flags : (a a' b b' c c' d d' e e' : Bool) → a ≡ a' → b ≡ b' → c ≡ c' → d ≡ d' → e ≡ e' → a ∷ b ∷ c ∷ d ∷ e ∷ [] ≡ a' ∷ b' ∷ c' ∷ d' ∷ e' ∷ []
five_flags a a' b b' c c' d d' e e' ha hb hc hd he = rw (ha, hb, hc, hd, he) refl

-- the bricks below n are those with a lower number
member_below : (n b : ℕ) → n ≤ 5 → member (below n) b ≡ nat_lt b n
member_below n b few = by_side (leb_tells (suc b) n)
  where
    by_side : ((leb (suc b) n ≡ true) × (suc b ≤ n)) ⊎ ((leb (suc b) n ≡ false) × (n < suc b)) → member (below n) b ≡ nat_lt b n
    by_side (inl (e, h)) = below_all n b few h ∙ sym e
    by_side (inr (e, h)) = outside (member (below n) b) refl ∙ sym e
      where
        outside : (f : Bool) → member (below n) b ≡ f → f ≡ false
        outside false m = refl
        outside true m = absurd (omega (arith, within_below n b m, h))

-- the bricks that are started at first
pub started_first : (n : ℕ) → n ≤ 5 → flags (λ b. nat_lt b n) ≡ flags (λ b. member (started_bricks n []) b)
started_first n few =
    sym
    (five_flags (member (below n) 0) (nat_lt 0 n) (member (below n) 1) (nat_lt 1 n) (member (below n) 2) (nat_lt 2 n) (member (below n) 3) (nat_lt 3 n) (member (below n) 4) (nat_lt 4 n) (member_below n 0 few)
    (member_below n 1 few) (member_below n 2 few) (member_below n 3 few) (member_below n 4 few))
