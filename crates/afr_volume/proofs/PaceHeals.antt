-- A healer asks for Work locks in its heals alone, so in rising order.
use Rattle.std.proofs.Common.{◌≡◌, ◌∙◌, ◌⊎◌, Bool, true, false, List, ◌∷◌, refl, sym, ap, subst, length, inl, inr}
use Rattle.afr_base.specs.declared.ids.ActorId.{ActorId}
use Rattle.afr_base.specs.declared.ids.BrickId.{BrickId}
use Rattle.afr_law_names.specs.Descent.Descent.{IsOfPlan}
use Rattle.afr_discipline.specs.declared.register.Register.{Register}
use Rattle.afr_heal.specs.Engine.{Ask as Asks, NextOfHeal as Coming}
use Rattle.afr_law_order.specs.Heal.Heals.{RisesInHeal}
use Rattle.afr_heal_round.specs.Rounding.{IsAnswered, next_at, next_of}
use Rattle.afr_heal_round.specs.declared.stage.RoundStage.{RoundStage}
use Rattle.afr_heal_round.specs.declared.stage.RoundStage.TheVariants.{Asking, Healing as At, Over}
use Rattle.afr_lines.specs.Places.{Place, opens}
use Rattle.afr_lines.specs.Told.{told_by}
use Rattle.afr_lines.specs.declared.answer.Told.{Told}
use Rattle.afr_lines.specs.declared.line.Line.{Line}
use Rattle.afr_lines.specs.declared.line.Line.TheVariants.{Ask}
use Rattle.afr_lines.specs.declared.line.Next.{Next}
use Rattle.afr_lines.specs.declared.line.Next.TheVariants as next
use Rattle.afr_lines.specs.declared.request.Area.{Area}
use Rattle.afr_lines.specs.declared.request.Request.{Request}
use Rattle.afr_lines.specs.declared.request.Request.TheVariants as request
use Rattle.afr_model_moves.specs.Discipline.{in_force}
use Rattle.afr_model_moves.specs.Followed.{register_by}
use Rattle.afr_model_moves.specs.Keeps.{keeps_in}
use Rattle.afr_model_moves.specs.Rules.{heal_area}
use Rattle.afr_plan.specs.declared.plan.Plan.{Plan}
use Rattle.afr_lines.specs.declared.lock.Domain.TheVariants.{Heal as HealDomain, Work as WorkDomain}
use Rattle.afr_healer.specs.Acting.{Stepped, SteppedBy}
use Rattle.afr_healer.specs.Keeping.{CarriesIts, CarriesRound, IsHealer, IsNotedHeal, StageStands}
use Rattle.afr_healer.specs.declared.healer.Healer.{Healer}
use Rattle.afr_heal_machine.specs.Healing.{Healing, IsHealing, coming, line_of}
use Rattle.afr_heal_machine.specs.Healing as heal
use Rattle.afr_server.specs.Serving.{Serving}
use Rattle.afr_law_bound.specs.Standstill.Order.{IsRisingLine, locks_at}
use Rattle.afr_volume.specs.Laws.{PaceLaws}

module _ (paces : PaceLaws) where
  -- the register of a heal that asks for a Work lock is that of a heal
  inside : (h : Healing) (b : BrickId) (area : Area) → IsHealing h → heal.next_of h ≡ next.Ask b (request.Lock WorkDomain area) → h.register.inside ≡ true
  inside h b area sound e = by (paces.inside h sound)
    where
      by : (coming h ≡ Asks 0 (request.Lock HealDomain (heal_area h.gfid.0))) ⊎ (h.register.inside ≡ true) → h.register.inside ≡ true
      by (inl first) = let same : next.Ask (record { 0 = 0 }) (request.Lock HealDomain (heal_area h.gfid.0)) ≡ next.Ask b (request.Lock WorkDomain area) = sym (ap (λ (n : Coming). line_of h n) first) ∙ e in absurd (cc same)
      by (inr i) = i

  module _ (p : Plan) (a : ActorId) (log : List Line) where
    -- so its lines show a heal
    shows_heal : (met : Bool) (r : Register) → IsNotedHeal met p.shape a.0 log r → r.inside ≡ true → (line : Line) → (locks_at p a.0 line log).heal ≡ true
    shows_heal true r k i line = subst (λ (place : Place). (in_force (opens place line) (register_by p.shape.n (keeps_in p.shape) a.0 log)).law.heal ≡ true) (sym k.0) (k.1.stands.inside ∙ i)
    shows_heal false r k i line = let none : false ≡ true = sym (ap (λ (r : Register). r.inside) k.1) ∙ i in absurd (cc none)

    module _ {crawl : Bool} (servers new : List Serving) (x y : Healer) (line : Line) (k : IsHealer crawl p log a.0 servers x) (s : Stepped IsAnswered a (length log) x y servers new line) (of : IsOfPlan p (line ∷ log)) where
      carries : CarriesRound crawl p a.0 log x.visit.met x.visit.epochs servers s.round
      carries = subst (CarriesIts crawl p a.0 log x.visit.met x.visit.epochs servers) s.present k.carries

      in_heal : (b : BrickId) (area : Area) (stage : RoundStage) → StageStands carries.duty p a.0 log x.visit.met x.visit.epochs servers s.round.round stage → next_at s.round.round.brick stage ≡ next.Ask b (request.Lock WorkDomain area) → (l : Line) → (locks_at p a.0 l log).heal ≡ true
      in_heal b area (Asking heals) c e l = absurd (cc e)
      in_heal b area (At h) c e l = shows_heal x.visit.met h.register c.0.noted (inside h b area c.0.sound e) l
      in_heal b area (Over refused) c e l = absurd (cc e)

      rises : (b : BrickId) (asked : Request) → next_of s.round ≡ next.Ask b asked → (told : Told) (took : Bool) → RisesInHeal p (Ask a b asked told took) log → IsRisingLine p (Ask a b asked told took) log
      rises b (request.Lock WorkDomain area) e told took above = above (in_heal b area s.round.stage carries.stage e (Ask a b (request.Lock WorkDomain area) told took))
      rises b (request.Lock HealDomain area) e told took above = tt
      rises b (request.Unlock domain area) e told took above = tt
      rises b (request.Look g) e told took above = tt
      rises b (request.ReadBytes g at len) e told took above = tt
      rises b (request.ReadName g name) e told took above = tt
      rises b (request.List g) e told took above = tt
      rises b (request.ReadAttr g key) e told took above = tt
      rises b (request.ReadAttrs g) e told took above = tt
      rises b request.Index e told took above = tt
      rises b (request.Pre g kind) e told took above = tt
      rises b (request.Apply attempt) e told took above = tt
      rises b (request.Post attempt g kind missed) e told took above = tt
      rises b (request.Mend repair) e told took above = tt
      rises b (request.Settle g kind less) e told took above = tt

      pub heal_rises : IsRisingLine p line log
      heal_rises = by_next (next_of s.round) refl s.steps
        where
          by_next : (n : Next) → next_of s.round ≡ n → SteppedBy IsAnswered a (length log) x y s.round servers new line n → IsRisingLine p line log
          by_next (next.Ask b asked) e c =
              subst (λ (l : Line). IsRisingLine p l log) (sym c.is_line) (rises b asked e (told_by c.given.answer) c.given.took (subst (λ (l : Line). RisesInHeal p l log) c.is_line (paces.heals p (line ∷ log) of).0))
          by_next (next.Begin change) e c = absurd c
          by_next (next.HealBegin g kind) e c = subst (λ (l : Line). IsRisingLine p l log) (sym c.is_line) tt
          by_next (next.HealEnd g kind said) e c = subst (λ (l : Line). IsRisingLine p l log) (sym c.is_line) tt
          by_next (next.End said) e c = subst (λ (l : Line). IsRisingLine p l log) (sym c.is_line) tt
