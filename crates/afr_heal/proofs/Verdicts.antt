-- The register's test of the looks is the verdict.
use Rattle.std.proofs.Common.{◌≡◌, ℕ, zero, suc, ◌<◌, ◌&&◌, ◌||◌, ◌==◌, Bool, true, false, refl, sym, ◌∙◌, subst, arith}
use Rattle.std.proofs.lemmas.Bool.{eqb-true}
use Rattle.afr_base.specs.declared.ids.Kind.{Kind}
use Rattle.afr_base.specs.declared.ids.Kind.TheVariants.{Bytes}
use Rattle.afr_model_moves.specs.Sets.{any}
use Rattle.afr_model_moves.specs.Register.{good, holder, unaccused}
use Rattle.afr_model_moves.specs.Steps.{goes_on}
use Rattle.afr_discipline.specs.Turns.{candidate}
use Rattle.afr_heal.specs.Verdicts.{LaterIsSource, OpeningIsVerdict, are_enough, goes, has_good, has_numbers, verdict_by}
use Rattle.afr_heal.proofs.Parts.{pair, both, deny, any_no, not_both}
use Rattle.afr_model_moves.proofs.Tests.{some_no}

-- a flag that doesn't depend on the brick
any_flag : (n : ℕ) (f : Bool) (p q : ℕ → Bool) → ((x : ℕ) → x < n → p x ≡ (q x && f)) → any n p ≡ (any n q && f)
any_flag zero f p q h = refl
any_flag (suc n) f p q h = rw (h n (omega arith), any_flag n f p q (λ x l. h x (omega (arith, l)))) (join (q n) (any n q) f)
  where
    join : (a b f : Bool) → ((a && f) || (b && f)) ≡ ((a || b) && f)
    join true b true = refl
    join true true false = refl
    join true false false = refl
    join false b f = refl

pub opening_is_verdict : OpeningIsVerdict
opening_is_verdict n keeps r opening every =
    any_flag n (are_enough n r && has_numbers n r) (candidate n keeps r) (good n keeps r.law.kind r.first_views) each ∙ said (are_enough n r) (has_numbers n r) (has_good n keeps r)
  where
    each : (x : ℕ) → x < n → candidate n keeps r x ≡ (good n keeps r.law.kind r.first_views x && (are_enough n r && has_numbers n r))
    each x l = rw (every x l, opening) refl

    said : (e m c : Bool) → (c && (e && m)) ≡ goes (verdict_by e m c)
    said true true true = refl
    said true true false = refl
    said true false true = refl
    said true false false = refl
    said false m true = refl
    said false m false = refl

pub later_is_source : LaterIsSource
later_is_source n keeps r s below bytes possible told = go (goes_on n keeps r s) refl
  where
    only : (x : ℕ) → x < n → candidate n keeps r x ≡ true → goes_on n keeps r s ≡ true
    only x l c = by (x == s) refl
      where
        two : (r.possible x ≡ true) × (goes_on n keeps r x ≡ true)
        two = both (r.possible x) (goes_on n keeps r x) c

        is_good_there : good n keeps Bytes r.first_views x ≡ true
        is_good_there = subst (λ (kind : Kind). good n keeps kind r.first_views x ≡ true) bytes (both (good n keeps r.law.kind r.first_views x) _ two.1).0

        by : (f : Bool) → (x == s) ≡ f → goes_on n keeps r s ≡ true
        by true e = subst (λ (y : ℕ). goes_on n keeps r y ≡ true) (eqb-true x s e) two.1
        by false e =
            let keeper = both (holder r.first_views x) (keeps x Bytes) (both _ (unaccused n Bytes r.first_views x) is_good_there).0 in
            absurd (not_both (r.possible x) two.0 (told x l (pair _ _ (pair _ _ keeper.0 (deny _ e)) keeper.1)))

    none : goes_on n keeps r s ≡ false → (x : ℕ) → x < n → candidate n keeps r x ≡ false
    none e x l = pick (candidate n keeps r x) refl
      where
        pick : (f : Bool) → candidate n keeps r x ≡ f → candidate n keeps r x ≡ false
        pick true c = absurd (not_both (goes_on n keeps r s) (only x l c) e)
        pick false c = c

    go : (f : Bool) → goes_on n keeps r s ≡ f → any n (candidate n keeps r) ≡ goes_on n keeps r s
    go true e = some_no n (candidate n keeps r) s below (pair _ _ possible e) ∙ sym e
    go false e = any_no n (candidate n keeps r) (none e) ∙ sym e
