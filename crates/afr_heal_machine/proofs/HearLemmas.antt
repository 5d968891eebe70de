-- What an answer leaves of a heal's machine.
use Rattle.std.proofs.Common.{Bool, ◌≡◌, ◌∙◌, ◌<◌, ℕ, ap, arith, if◌then◌else◌, refl, subst, sym, true, false}
use Rattle.std.specs.Borrow.{Bor}
use Rattle.std.specs.Prelude.{nat_lt}
use Rattle.afr_base.specs.declared.ids.BrickId.{BrickId}
use Rattle.afr_base.specs.declared.ids.Kind.{Kind}
use Rattle.afr_base.specs.declared.ids.Shape.{Shape}
use Rattle.afr_discipline.specs.Inside.{may_ask_inside, may_move}
use Rattle.afr_discipline.specs.Notes.{IsAllowed}
use Rattle.afr_discipline.specs.Stands.{heal_part_of, seen_as}
use Rattle.afr_discipline.specs.declared.register.Move.TheVariants as move
use Rattle.afr_discipline.specs.declared.register.HealPart.{HealPart}
use Rattle.afr_discipline.specs.declared.register.Register.{Register}
use Rattle.afr_heal.specs.Carried.{MovesOf}
use Rattle.afr_heal.specs.Engine.{Ask, NextOfHeal}
use Rattle.afr_lines.specs.Told.{told_by}
use Rattle.afr_lines.specs.declared.answer.Answer.{Answer}
use Rattle.afr_lines.specs.declared.answer.Told.{Told}
use Rattle.afr_lines.specs.declared.request.Request.{Request}
use Rattle.afr_model_moves.proofs.Tests.{both}
use Rattle.afr_model_moves.specs.Keeps.{keeps_in}
use Rattle.afr_rule.specs.Choosing.{Calls}
use Rattle.afr_heal_machine.proofs.ChoiceLemmas.{chosen_is_candidate}
use Rattle.afr_heal_machine.specs.Contents.{kept}
use Rattle.afr_heal_machine.specs.Healing.{CanHear, Healing, IsChosen, IsFed, IsHealing, answered, coming, register_after}
use Rattle.afr_heal_machine.specs.Laws.{HealAllowed, HealAsksLow, HealHasSource, HealStays}
use Rattle.afr_heal_machine.specs.Outcome.{cause, outcome_after, outcome_by}
use Rattle.afr_heal_machine.specs.Source.{HasSource, IsCandidate, is_found}
use Rattle.afr_heal_machine.specs.declared.contents.ReadSoFar.{ReadSoFar}
use Rattle.afr_heal_machine.specs.declared.outcome.HealOutcome.{HealOutcome}

-- the answer comes to this request
pub heard_can : (m seen : Healing) → m ≡ seen → (answer : Answer) → CanHear (coming seen) answer → (b : ℕ) (request : Request) → coming m ≡ Ask b request → CanHear (Ask b request) answer
heard_can m seen e answer can b request next = subst (λ (next : NextOfHeal). CanHear next answer) next (subst (λ (m : Healing). CanHear (coming m) answer) (sym e) can)

-- the request goes to one of five bricks
pub heard_small : HealAsksLow → (m : Healing) → IsHealing m → (b : ℕ) (request : Request) → coming m ≡ Ask b request → b < 5
heard_small law m k b request next = let w = law m k b request next in omega (arith, w.0, w.1)

-- the discipline allows the request
pub heard_allowed : HealAllowed → (m : Healing) → IsHealing m → (b : BrickId) (request : Bor Request) → coming m ≡ Ask b.0 request.now → IsAllowed m.register b.0 request.now
heard_allowed law m k b request next inside whole =
    let moves : MovesOf m.gfid m.kind (coming m) (move.Ask b request) = subst (λ (next : NextOfHeal). MovesOf m.gfid m.kind next (move.Ask b request)) (sym next) (refl, refl) in
    let may : may_move m.register.shape.n (keeps_in m.register.shape) (seen_as m.register) (move.Ask b request) ≡ true = law m k (move.Ask b request) moves in
    rw whole at (both (nat_lt b.0 m.register.shape.n) (may_ask_inside m.register.shape.n (keeps_in m.register.shape) (seen_as m.register) b.0 request.now) (rw inside at may)).1

-- how the heal ends after the answer
pub heard_outcome : (p q : Register) (s : ℕ) (kind : Kind) (request : Request) (told said : Told) (before outcome caused : HealOutcome) (part : HealPart)
    → q.shape ≡ p.shape → part ≡ p.part → said ≡ told → caused ≡ cause q.shape kind (heal_part_of part) (heal_part_of q.part) s q.seen q.looked request said
    → outcome ≡ outcome_after p.broken q.broken before caused → outcome ≡ outcome_by p q s kind request told before
heard_outcome p q s kind request told said before outcome caused part same was is by after =
    after ∙ ap (λ (caused : HealOutcome). outcome_after p.broken q.broken before caused) (by ∙ (λ i. cause (same i) kind (heal_part_of (was i)) (heal_part_of q.part) s q.seen q.looked request (is i)))

-- where the first looks are over, a copy may be the source
pub heard_source : HealHasSource → (m : Healing) (b : ℕ) (request : Request) (answer : Answer) (at : ℕ) → IsHealing m → coming m ≡ Ask b request → CanHear (Ask b request) answer
    → (q : Register) → q ≡ register_after m b request answer at → q.shape ≡ m.register.shape → is_found q.shape.n (seen_as q) ≡ true → HasSource m.kind q
heard_source law m b request answer at k next can q e same found =
    let found_before : is_found m.register.shape.n (seen_as (register_after m b request answer at)) ≡ true =
    subst (λ (q : Register). is_found m.register.shape.n (seen_as q) ≡ true) e (subst (λ (shape : Shape). is_found shape.n (seen_as q) ≡ true) same found) in
    subst (λ (q : Register). HasSource m.kind q) (sym e) (law m b request answer at k next can found_before)

-- the heal with the new register, source, outcome and contents
pub heard_is : (m : Healing) (b : ℕ) (request : Request) (answer : Answer) (at : ℕ) (q : Register) (source : BrickId) (outcome : HealOutcome) (contents : ReadSoFar)
    → q ≡ register_after m b request answer at → q.shape ≡ m.register.shape → (is_found q.shape.n (seen_as q) ≡ false → source ≡ m.source) → outcome ≡ outcome_by m.register q m.source.0 m.kind request (told_by answer) m.outcome
    → contents ≡ kept b answer m.contents → record { gfid = m.gfid; kind = m.kind; register = q; source = source; outcome = outcome; contents = contents } ≡ answered m b request answer at source
heard_is m b request answer at q source outcome contents e same stays o c =
    let whole = o ∙ ap (λ (q : Register). outcome_by m.register q m.source.0 m.kind request (told_by answer) m.outcome) e in
    let left = by (is_found m.register.shape.n (seen_as (register_after m b request answer at))) refl in
    λ i. record { gfid = m.gfid; kind = m.kind; register = e i; source = left i; outcome = whole i; contents = c i }
  where
    by : (f : Bool) → is_found m.register.shape.n (seen_as (register_after m b request answer at)) ≡ f → source ≡ (if f then source else m.source)
    by true f = refl
    by false f = stays (subst (λ (shape : Shape). is_found shape.n (seen_as q) ≡ false) (sym same) (subst (λ (q : Register). is_found m.register.shape.n (seen_as q) ≡ false) (sym e) f))

module _ {F : Type 0} (calls : Calls F) (choose : F) (m : Healing) (b : ℕ) (request : Request) (answer : Answer) (at : ℕ) (q : Register) (source : BrickId) (outcome : HealOutcome) (contents : ReadSoFar) (e : q ≡ register_after m b request answer at) (same : q.shape ≡ m.register.shape)
    (chosen : is_found q.shape.n (seen_as q) ≡ true → IsChosen calls choose m.kind q source) (stays : is_found q.shape.n (seen_as q) ≡ false → source ≡ m.source) (ends : outcome ≡ outcome_by m.register q m.source.0 m.kind request (told_by answer) m.outcome) (keeps : contents ≡ kept b answer m.contents) where
  abbrev new : Healing
  new = record { gfid = m.gfid; kind = m.kind; register = q; source = source; outcome = outcome; contents = contents }

  new_is : new ≡ answered m b request answer at source
  new_is = heard_is m b request answer at q source outcome contents e same stays ends keeps

  picked : is_found m.register.shape.n (seen_as q) ≡ true → IsChosen calls choose m.kind q source
  picked h = chosen (subst (λ (shape : Shape). is_found shape.n (seen_as q) ≡ true) (sym same) h)

  pub heard_stays : HealStays → IsHealing m → coming m ≡ Ask b request → CanHear (Ask b request) answer → IsHealing new
  heard_stays law k next can =
      subst IsHealing (sym new_is)
      (law m b request answer at source k next can (λ h.
      subst (λ (q : Register). IsCandidate q source.0) e (chosen_is_candidate calls choose m.kind q source (picked (subst (λ (q : Register). is_found m.register.shape.n (seen_as q) ≡ true) (sym e) h)))))

  pub heard_fed : coming m ≡ Ask b request → IsFed calls choose answer at m new
  heard_fed next = record { brick = b; request = request; asked = next; chosen = source; picked = picked; value = new_is }
