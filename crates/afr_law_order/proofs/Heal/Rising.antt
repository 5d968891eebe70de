-- Each Work lock of a heal is asked above all that its actor holds.
use Rattle.std.proofs.Common.{◌≡◌, ◌∙◌, inl, inr, Bool, true, sym, subst, List, [], ◌∷◌, length, true≢false}
use Rattle.afr_base.specs.declared.ids.ActorId.{ActorId}
use Rattle.afr_base.specs.declared.ids.BrickId.{BrickId}
use Rattle.afr_law_names.proofs.Descent.Makes.{plan_before}
use Rattle.afr_law_names.specs.Descent.Descent.{IsOfPlan}
use Rattle.afr_law_order.specs.Heal.Heals.{HealersRise, NextRises, RisesInHeal}
use Rattle.afr_law.proofs.Discipline.ByList.{exactly_lawful}
use Rattle.afr_law.specs.Beginning.{start_of}
use Rattle.afr_law.specs.Exactly.{name_bound}
use Rattle.afr_lines.specs.declared.answer.Told.TheVariants.{Failed}
use Rattle.afr_lines.specs.declared.answer.Told.{Told}
use Rattle.afr_lines.specs.declared.line.Line.TheVariants.{Ask, Begin, End, Event, HealBegin, HealEnd}
use Rattle.afr_lines.specs.declared.line.Line.{Line}
use Rattle.afr_lines.specs.declared.request.Area.{Area}
use Rattle.afr_lines.specs.declared.request.Request.TheVariants.{Lock}
use Rattle.afr_model_moves.proofs.ByPosition.{newest_at}
use Rattle.afr_model_moves.specs.Discipline.{MayAskExactly, MayExactly, MovesExactly, present}
use Rattle.afr_model_moves.specs.Heal.{Gives, Goes}
use Rattle.afr_model_moves.specs.Past.{Log}
use Rattle.afr_model_moves.specs.Positions.{by_position}
use Rattle.afr_model_moves.specs.Register.{Exact}
use Rattle.afr_plan.specs.declared.plan.Plan.{Plan}
use Rattle.afr_lines.specs.declared.lock.Domain.TheVariants.{Work}
use Rattle.afr_law_bound.proofs.Standstill.Positions.{present_register}
use Rattle.afr_law_tables.specs.Codes.{kept_by}
use Rattle.afr_law_bound.proofs.Begun.{begun_now}
use Rattle.afr_law_bound.proofs.Queue.{queue_now, rises}
use Rattle.afr_law_bound.specs.Waiting.{RisesTo}

module _ (p : Plan) (older : List Line) (a : ActorId) (b : BrickId) (area : Area) (told : Told) (took : Bool) (f : IsOfPlan p (Ask a b (Lock Work area) told took ∷ older)) where
  abbrev newest : Line
  newest = Ask a b (Lock Work area) told took

  abbrev L : Log
  L = by_position (newest ∷ older)

  abbrev r : Exact
  r = present p.shape.n (kept_by p) L (length older) a.0

  moves : MovesExactly p.shape.n (kept_by p) L
  moves = (exactly_lawful p.shape.n (start_of p (name_bound p)) (newest ∷ older) f.lawful).moves

  may : MayAskExactly p.shape.n (kept_by p) r b.0 (Lock Work area)
  may = (subst (MayExactly p.shape.n (kept_by p) (present p.shape.n (kept_by p) L (length older))) (newest_at newest older) (moves (length older))).1

  -- the register in force at the line, by positions and by the list
  in_heal : RisesInHeal p newest older
  in_heal inside = subst (λ (x : Exact). RisesTo p.shape.n x.law b.0 area) (present_register p a.0 newest older) (go may)
    where
      heal : r.law.heal ≡ true
      heal = subst (λ (x : Exact). x.law.heal ≡ true) (sym (present_register p a.0 newest older)) inside

      go : MayAskExactly p.shape.n (kept_by p) r b.0 (Lock Work area) → RisesTo p.shape.n r.law b.0 area
      go (inl w) = absurd (true≢false (sym heal ∙ w.0))
      go (inr (Goes m)) = rises p.shape.n (kept_by p) r (length older) b.0 Failed (begun_now p.shape.n (kept_by p) L moves (length older) a.0) (queue_now p.shape.n (kept_by p) L moves (length older) a.0) m.source area heal m.allowed
      go (inr (Gives held broken free)) = absurd free

each : (p : Plan) (line : Line) (older : List Line) → IsOfPlan p (line ∷ older) → RisesInHeal p line older
each p (Ask a b (Lock Work area) told took) older f = in_heal p older a b area told took f
each p (Ask a b request told took) older f = λ inside. tt
each p (Begin a change) older f = λ inside. tt
each p (HealBegin a g kind) older f = λ inside. tt
each p (End a said) older f = λ inside. tt
each p (HealEnd a g kind said) older f = λ inside. tt
each p (Event event) older f = λ inside. tt

pub healers_rise : HealersRise
healers_rise p [] f = tt
healers_rise p (line ∷ older) f = (each p line older f, healers_rise p older (plan_before p line older f))

pub next_rises : NextRises
next_rises p log a b request told took r f k inside = each p (Ask a b request told took) log f (k.stands.inside ∙ inside)
