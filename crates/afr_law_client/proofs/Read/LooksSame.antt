-- Looks of which each brick tells the same are the same.
use Rattle.std.proofs.Common.{◌≡◌, ℕ, suc, ◌<◌, ◌≤◌, nat_lt, Bool, true, false, List, [], ◌∷◌, Option, None, length, refl, sym, ◌∙◌, arith}
use Rattle.std.specs.Prelude.{slice_index_or}
use Rattle.std.proofs.lemmas.Bool.Decides.{nat_tests}
use Rattle.afr_base.specs.Bricks.{member}
use Rattle.afr_base.proofs.RisingLemmas.{rising_same}
use Rattle.afr_object.specs.declared.entry.View.{View}
use Rattle.afr_choice.specs.Looks.{view_at}
use Rattle.afr_choice.specs.declared.looked.Looked.{Looked}
use Rattle.afr_law_client.specs.Read.Looks.{IsPlain}

pub views_same : (u v : List (Option View)) → length u ≡ length v → ((b : ℕ) → slice_index_or u b None ≡ slice_index_or v b None) → u ≡ v
views_same [] [] l e = refl
views_same [] (y ∷ ys) l e = absurd (omega (arith, l))
views_same (x ∷ xs) [] l e = absurd (omega (arith, l))
views_same (x ∷ xs) (y ∷ ys) l e =
    let rest : xs ≡ ys = views_same xs ys (omega (arith, l)) (λ b. e (suc b)) in
    let first : x ≡ y = e 0 in
    rw (first, rest) refl

-- looks of which each brick below n tells the same
pub looked_same : (n : ℕ) (s t : Looked) → IsPlain n s → IsPlain n t → ((b : ℕ) → b < n → (member s.reached b ≡ member t.reached b) × (view_at b s ≡ view_at b t)) → s ≡ t
looked_same n s t ks kt e = both s.reached s.views (rising_same 0 s.reached t.reached ks.rising kt.rising reached) (views_same s.views t.views (ks.five ∙ sym kt.five) shown)
  where
    both : (r : List ℕ) (v : List (Option View)) → r ≡ t.reached → v ≡ t.views → record { reached = r; views = v } ≡ t
    both r v er ev = rw (er, ev) refl

    reached : (b : ℕ) → member s.reached b ≡ member t.reached b
    reached b = go (nat_lt b n) refl
      where
        go : (l : Bool) → nat_lt b n ≡ l → member s.reached b ≡ member t.reached b
        go true l = (e b (grind (arith, nat_tests, l))).0
        go false l = let above : n ≤ b = grind (arith, nat_tests, l) in ks.none_reached b above ∙ sym (kt.none_reached b above)

    shown : (b : ℕ) → view_at b s ≡ view_at b t
    shown b = go (nat_lt b n) refl
      where
        go : (l : Bool) → nat_lt b n ≡ l → view_at b s ≡ view_at b t
        go true l = (e b (grind (arith, nat_tests, l))).1
        go false l = let above : n ≤ b = grind (arith, nat_tests, l) in ks.none_shown b above ∙ sym (kt.none_shown b above)
