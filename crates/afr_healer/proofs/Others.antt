-- A line of anybody else, or an event, leaves a healer's round as it was.
use Rattle.std.proofs.Common.{◌≡◌, ◌∙◌, ℕ, ◌+◌, Bool, true, false, List, ◌∷◌, Option, None, Some, refl, sym, ap, subst}
use Rattle.afr_heal_round.specs.List.Round.{RoundProgress}
use Rattle.afr_discipline.specs.declared.register.Register.{Register}
use Rattle.afr_law_heal.specs.Heard.Holds.{HoldsOther}
use Rattle.afr_law_heal.specs.HealTelling.{HealTells}
use Rattle.afr_heal_round.specs.Rounding.{Rounding}
use Rattle.afr_heal_round.specs.declared.stage.RoundStage.{RoundStage}
use Rattle.afr_heal_round.specs.declared.stage.RoundStage.TheVariants.{Asking, Healing, Over}
use Rattle.afr_lines.specs.Work.{Work}
use Rattle.afr_lines.specs.declared.line.Line.{Line}
use Rattle.afr_model.specs.HealReplies.{refuses_index}
use Rattle.afr_model.specs.Healing.{heal_by}
use Rattle.afr_model.specs.Rounds.{due_in, heals_ended}
use Rattle.afr_model.specs.Showing.{has}
use Rattle.afr_plan.specs.declared.plan.Plan.{Plan}
use Rattle.afr_healer.proofs.Duties.{duty_beside}
use Rattle.afr_healer.specs.Keeping.{CarriesIts, CarriesRound, Duty, HasBegun, IsAfterHeals, IsBetweenHeals, IsBetweenRounds, IsHealer, IsListed, IsNotedHeal, IsRoundOver, KeepsList, RunsHeal, StageStands, list_of}
use Rattle.afr_healer.specs.Laws.{IsBeside, OthersStay}
use Rattle.afr_healer.specs.declared.healer.Healer.{Healer}
use Rattle.afr_heal_machine.specs.Healing.{Healing as Heal}
use Rattle.afr_server.specs.Serving.{Serving}
use Rattle.afr_servers.proofs.VisitLemmas.{session_on}
use Rattle.afr_servers.specs.declared.epochs.Epochs.{Epochs}

module _ (other : HoldsOther) (crawl : Bool) (p : Plan) (c : ℕ) (line : Line) (log : List Line) (old new : List Serving) (beside : IsBeside p c line log old new) where
  noted_on : (met : Bool) (r : Register) → IsNotedHeal met p.shape c log r → IsNotedHeal met p.shape c (line ∷ log) r
  noted_on true r k = (beside.same_place ∙ k.0, beside.stands r k.1)
  noted_on false r k = (subst IsBetweenHeals (sym beside.same_place) k.0, k.1, ap heal_by beside.same_work ∙ k.2)

  heal_on : (duty : Duty) (met : Bool) (epochs : Epochs) (h : Heal) → RunsHeal duty p c log met epochs old h → RunsHeal duty p c (line ∷ log) met epochs new h
  heal_on duty met epochs h k = record {
    sound = k.sound;
    shape = k.shape;
    noted = noted_on met h.register k.noted;
    sessions = session_on met c epochs old new (beside.found epochs) k.sessions;
    due = ap (λ (w : Work). due_in (list_of duty p w) w) beside.same_work ∙ k.due;
    on = k.on;
    tells = subst (λ (w : Work). HealTells h.register h.source.0 h.gfid h.kind h.outcome (heal_by w)) (sym beside.same_work) k.tells;
    holds = other p h log line k.holds;
    unrefused = ap (has refuses_index) beside.same_work ∙ k.unrefused;
  }

  between_on : (met : Bool) → IsBetweenRounds c log met → IsBetweenRounds c (line ∷ log) met
  between_on met k = record { unmet = k.unmet; fresh = beside.same_place ∙ k.fresh; none = beside.same_work ∙ k.none }

  over_on : (duty : Duty) (met refused : Bool) → IsRoundOver duty p c log met refused → IsRoundOver duty p c (line ∷ log) met refused
  over_on duty met refused k = record {
    unmet = k.unmet;
    place = subst IsAfterHeals (sym beside.same_place) k.place;
    register = k.register;
    free = k.free;
    stood = beside.stands k.register k.stood;
    none_left = ap (λ (w : Work). due_in (list_of duty p w) w) beside.same_work ∙ k.none_left;
    said = ap (has refuses_index) beside.same_work ∙ k.said;
  }

  stage_on : (duty : Duty) (met : Bool) (epochs : Epochs) (r : RoundProgress) (stage : RoundStage) → StageStands duty p c log met epochs old r stage → StageStands duty p c (line ∷ log) met epochs new r stage
  stage_on duty met epochs r (Asking heals) k = (between_on met k.0, k.1, k.2)
  stage_on duty met epochs r (Healing h) k =
      (heal_on duty met epochs h k.0, subst (λ (w : Work). IsListed duty p w r.list) (sym beside.same_work) k.1, subst (λ (w : Work). r.given ≡ heals_ended w + 1) (sym beside.same_work) k.2)
  stage_on duty met epochs r (Over refused) k = (over_on duty met refused k.0, subst (λ (w : Work). KeepsList duty p w r.list) (sym beside.same_work) k.1)

  round_on : (met : Bool) (epochs : Epochs) (m : Rounding) → CarriesRound crawl p c log met epochs old m → CarriesRound crawl p c (line ∷ log) met epochs new m
  round_on met epochs m k = record {
    duty = k.duty;
    present = duty_beside k.duty crawl p c line log m.round.brick beside.same_work beside.same_ended k.present;
    shape = k.shape;
    sound = k.sound;
    begun = subst (HasBegun k.duty m.stage) (sym beside.same_work) k.begun;
    stage = stage_on k.duty met epochs m.round m.stage k.stage;
  }

  carries_on : (met : Bool) (epochs : Epochs) (round : Option Rounding) → CarriesIts crawl p c log met epochs old round → CarriesIts crawl p c (line ∷ log) met epochs new round
  carries_on met epochs None k = between_on met k
  carries_on met epochs (Some m) k = round_on met epochs m k

-- the healer is as it was, but that an event may kill it
pub others_stay : HoldsOther → OthersStay
others_stay other crawl p c line log old new x y beside is k = subst (λ (y : Healer). IsHealer crawl p (line ∷ log) c new y) (sym is) (record {
  ended_is = k.ended_is ∙ sym beside.same_ended;
  killed_is = refl;
  carries = carries_on other crawl p c line log old new beside x.visit.met x.visit.epochs x.round k.carries;
})
