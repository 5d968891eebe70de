-- The bricks where a Work lock is held stand in rising order, whatever is asked and told.
use Rattle.std.proofs.Common.{◌≡◌, ℕ, ◌<◌, ◌==◌, ◌&&◌, not, Bool, true, false, inl, inr, refl, sym, ◌∙◌, arith, List, [], ◌∷◌, true≢false}
use Rattle.std.specs.Prelude.{if◌then◌else◌, nat_lt, Some}
use Rattle.std.proofs.lemmas.Bool.{eqb-true, or_cases}
use Rattle.std.proofs.lemmas.Bool.Decides.{nat_tests}
use Rattle.afr_base.specs.Bricks.{added, and_right, member, removed}
use Rattle.afr_base.specs.SetLemmas.{member_added, member_removed}
use Rattle.afr_discipline.specs.Notes.{anew, dropped, heal_left, is_working, named, noted_law, second_in, second_left, taken, with_held}
use Rattle.afr_discipline.specs.declared.register.Register.{Register}
use Rattle.afr_lines.specs.declared.answer.Told.{Told}
use Rattle.afr_lines.specs.declared.request.Area.{Area}
use Rattle.afr_lines.specs.declared.request.Request.TheVariants.{Apply, Lock, Post, Pre, Settle, Unlock}
use Rattle.afr_lines.specs.declared.request.Request.{Request}
use Rattle.afr_model_moves.specs.Note.{is_done, is_granted}
use Rattle.afr_model_moves.specs.Past.{is_gone}
use Rattle.afr_model_moves.specs.Rules.{is_area}
use Rattle.afr_law_pace.proofs.Order.{Rises}
use Rattle.afr_lines.specs.declared.lock.Domain.TheVariants.{Heal, Work}
use Rattle.afr_law_order.specs.Queue.{KeepsRow}

pub none_rises : Rises []
unfolding Rises
none_rises = tt

pub removed_rises : (b : ℕ) (s : List ℕ) → Rises s → Rises (removed b s)
unfolding Rises
removed_rises b [] r = tt
removed_rises b (x ∷ xs) r = go (b == x) (removed_rises b xs r.1)
  where
    go : (hit : Bool) → Rises (removed b xs) → Rises (if hit then removed b xs else x ∷ removed b xs)
    go true k = k
    go false k = (λ y h. r.0 y (and_right (not (b == y)) (member xs y) (sym (member_removed b xs y) ∙ h)), k)

pub added_rises : (b : ℕ) (s : List ℕ) → Rises s → Rises (added b s)
unfolding Rises
added_rises b [] r = (λ y h. absurd (true≢false (sym h)), tt)
added_rises b (x ∷ xs) r = go (nat_lt b x) refl (b == x) refl (added_rises b xs r.1)
  where
    above : (y : ℕ) → b < x → member (x ∷ xs) y ≡ true → b < y
    above y low h = elim (or_cases (x == y) (member xs y) h) [ inl same ↦ (let e = eqb-true x y same in omega (arith, e, low)) | inr more ↦ (let k = r.0 y more in omega (arith, k, low)) ]

    between : nat_lt b x ≡ false → (b == x) ≡ false → (y : ℕ) → member (added b xs) y ≡ true → x < y
    between e f y h = elim (or_cases (b == y) (member xs y) (sym (member_added b xs y) ∙ h)) [ inl same ↦ (let k = eqb-true b y same in let l : x < b = grind (arith, nat_tests, e, f) in omega (arith, k, l)) | inr more ↦ r.0 y more ]

    go : (less : Bool) → nat_lt b x ≡ less → (same : Bool) → (b == x) ≡ same → Rises (added b xs) → Rises (if less then b ∷ x ∷ xs else (if same then x ∷ xs else x ∷ added b xs))
    go true e same f k = (λ y h. above y (grind (arith, nat_tests, e)) h, r)
    go false e true f k = r
    go false e false f k = (between e f, k)

module _ (r : Register) (b : ℕ) (told : Told) (row : Rises r.held) where
  named_row : (area : Area) → Rises (named r area).held
  named_row area = go (is_working r)
    where
      go : (w : Bool) → Rises (if w then record r { second = second_in r area } else anew r area).held
      go true = row
      go false = none_rises

  taken_row : (area : Area) → Rises (taken r area b).held
  taken_row area = go (is_working r && not (is_area r.area area))
    where
      go : (other : Bool) → Rises (if other then record r { second = Some area; second_held = added b r.second_held } else with_held (named r area) b).held
      go true = row
      go false = added_rises b (named r area).held (named_row area)

  law_row : (request : Request) → Rises (noted_law r b request told).held
  law_row (Lock Work area) = go (is_granted told)
    where
      go : (granted : Bool) → Rises (if granted then taken r area b else named r area).held
      go true = taken_row area
      go false = named_row area
  law_row (Lock Heal area) = row
  law_row (Unlock Work area) = go (is_done told) (is_area r.area area)
    where
      go : (done own : Bool) → Rises (if done then (if own then record r { held = removed b r.held } else record r { second_held = second_left r area b }) else r).held
      go true true = removed_rises b r.held row
      go true false = row
      go false own = row
  law_row (Unlock Heal area) = go (is_done told)
    where
      go : (done : Bool) → Rises (if done then record r { healing = heal_left r area b } else r).held
      go true = row
      go false = row
  law_row (Pre g kind) = row
  law_row (Apply q) = row
  law_row (Post q g kind missed) = row
  law_row (Settle g kind less) = row
  law_row request = row

pub keeps_row : KeepsRow
keeps_row r at b request told row = go (is_gone told)
  where
    go : (gone : Bool) → Rises (dropped gone b (noted_law r b request told)).held
    go true = removed_rises b (noted_law r b request told).held (law_row r b told row request)
    go false = law_row r b told row request
