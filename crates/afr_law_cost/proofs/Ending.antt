-- Each line of a broken heal comes nearer to its end.
use Rattle.std.proofs.Common.{◌≡◌, ℕ, ◌+◌, ◌<◌, ◌≤◌, Bool, true, false, refl, ap, arith, if◌then◌else◌, Option, None, Some}
use Rattle.afr_base.specs.Majority.{count_below}
use Rattle.afr_base.specs.declared.ids.Gfid.{Gfid}
use Rattle.afr_base.specs.declared.ids.Kind.{Kind}
use Rattle.afr_heal.proofs.Parts.{not_both}
use Rattle.afr_heal.proofs.StagesForms.{lost}
use Rattle.afr_heal.proofs.StagesWalk.{broken_elim}
use Rattle.afr_heal.specs.Engine.{Ask, next_of}
use Rattle.afr_heal.specs.Requests.{area_now, area_or}
use Rattle.afr_lines.specs.declared.answer.Told.TheVariants as as_told
use Rattle.afr_lines.specs.declared.request.Area.{Area}
use Rattle.afr_lines.specs.declared.request.Request.TheVariants.{Unlock}
use Rattle.afr_model_moves.proofs.AreaLemmas.{heal_freed_own, same_area_self}
use Rattle.afr_model_moves.specs.Register.{Exact, whole_area}
use Rattle.afr_model_moves.specs.Rules as weak
use Rattle.afr_model_moves.specs.Rules.{Register, heal_area, is_area}
use Rattle.afr_model_moves.specs.Sets.{with, without}
use Rattle.afr_lines.specs.declared.lock.Domain.TheVariants.{Heal, Work}
use Rattle.afr_law_cost.specs.Left.{Rooted}
use Rattle.afr_counting.proofs.Counts.{count_falls, count_less}
use Rattle.afr_model_moves.proofs.Tests.{without_in}
use Rattle.afr_law_cost.proofs.Early.{Nears}
use Rattle.afr_law.proofs.Discipline.AskFields.{without_here}

-- the area that is unlocked is that of the register, where there is one
own : (of : Option Area) (all : Area) → (of ≡ None → ⊥) → is_area of (area_or of all) ≡ true
own None all some = absurd (some refl)
own (Some area) all some = same_area_self area

held_released : (law : Register) (area : Area) (b : ℕ) → is_area law.area area ≡ true → (weak.released law area b).held ≡ without law.held b
held_released law area b e = go (is_area law.area area) e
  where
    go : (f : Bool) → f ≡ true → (if f then record law { closed = with law.closed b; held = without law.held b } else record law { second_held = weak.second_freed law area b }).held ≡ without law.held b
    go true e = refl
    go false e = absurd (not_both false e refl)

healing_released : (law : Register) (area : Area) (b : ℕ) → (weak.released law area b).healing ≡ law.healing
healing_released law area b = go (is_area law.area area)
  where
    go : (f : Bool) → (if f then record law { closed = with law.closed b; held = without law.held b } else record law { second_held = weak.second_freed law area b }).healing ≡ law.healing
    go true = refl
    go false = refl

held_unlocked : (law : Register) (area : Area) (b : ℕ) → (weak.unlocked law area b).held ≡ law.held
held_unlocked law area b = go (is_area law.area area)
  where
    go : (f : Bool) → (if f then record law { closed = with law.closed b } else law).held ≡ law.held
    go true = refl
    go false = refl

healing_unlocked : (law : Register) (area : Area) (b : ℕ) → (weak.unlocked law area b).healing ≡ law.healing
healing_unlocked law area b = go (is_area law.area area)
  where
    go : (f : Bool) → (if f then record law { closed = with law.closed b } else law).healing ≡ law.healing
    go true = refl
    go false = refl

module _ (n : ℕ) where
  falls : (held : ℕ → Bool) (b : ℕ) → b < n → held b ≡ true → count_below n (without held b) + 1 ≤ count_below n held
  falls held b l h = count_falls n held (without held b) b (λ x l e. without_in held b x e) l h (without_here held b)

  less : (held : ℕ → Bool) (b : ℕ) → count_below n (without held b) ≤ count_below n held
  less held b = count_less n held (without held b) (λ x l e. without_in held b x e)

  same : (f h : ℕ → Bool) → f ≡ h → count_below n f ≡ count_below n h
  same f h e = ap (count_below n) e

  module _ (keeps : ℕ → Kind → Bool) (pick : (ℕ → Bool) → ℕ) (some : 0 < n) (q : Exact) (s : ℕ) (g : Gfid) (kind : Kind) (rooted : Rooted q) where
    abbrev r : Exact
    r = lost q g

    abbrev here : Area
    here = area_now r g kind

    works_near : (b : ℕ) → b < n → q.law.held b ≡ true → Nears n keeps pick some r s g kind (Ask b (Unlock Work here))
    works_near b l h st at as_told.Done f =
        let a = same (weak.released r.law here b).held (without q.law.held b) (held_released r.law here b (own q.law.area (whole_area g.0 kind) (rooted b h))) in
        let c = same (weak.released r.law here b).healing q.law.healing (healing_released r.law here b) in
        let d = falls q.law.held b l h in
        omega (arith, a, c, d)
    works_near b l h st at as_told.Failed f =
        let a = same (weak.unlocked r.law here b).held q.law.held (held_unlocked r.law here b) in
        let c = same (weak.unlocked r.law here b).healing q.law.healing (healing_unlocked r.law here b) in
        omega (arith, a, c)
    works_near b l h st at as_told.NotConnected f =
        let a = same (without (weak.unlocked r.law here b).held b) (without q.law.held b) (ap (λ (held : ℕ → Bool). without held b) (held_unlocked r.law here b)) in
        let c = same (without (weak.unlocked r.law here b).healing b) (without q.law.healing b) (ap (λ (held : ℕ → Bool). without held b) (healing_unlocked r.law here b)) in
        let d = falls q.law.held b l h in
        let e = less q.law.healing b in
        omega (arith, a, c, d, e)
    works_near b l h st at _ f = absurd (cc f)

    heals_near : (b : ℕ) → b < n → q.law.healing b ≡ true → Nears n keeps pick some r s g kind (Ask b (Unlock Heal (heal_area g.0)))
    heals_near b l h st at as_told.Done f =
        let c = same (weak.heal_freed r.law (heal_area g.0) b) (without q.law.healing b) (heal_freed_own r.law b) in
        let d = falls q.law.healing b l h in
        omega (arith, c, d)
    heals_near b l h st at as_told.Failed f = omega arith
    heals_near b l h st at as_told.NotConnected f = (let d = falls q.law.healing b l h in let e = less q.law.held b in omega (arith, d, e))
    heals_near b l h st at _ f = absurd (cc f)

    pub near_ending : Nears n keeps pick some r s g kind (next_of n keeps r s g kind)
    near_ending = broken_elim n keeps r s g kind (Nears n keeps pick some r s g kind) refl works_near (λ none. heals_near) (λ none off st. tt)
