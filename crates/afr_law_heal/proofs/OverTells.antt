-- A heal that was ended gives its locks back, and its reply stands.
use Rattle.std.proofs.Common.{ℕ, ◌≡◌, ◌∷◌, ◌||◌, Bool, List, None, Option, Some, ap, false, if◌then◌else◌, refl, subst, sym, true, ◌∙◌}
use Rattle.std.proofs.lemmas.Bool.{or_right}
use Rattle.afr_base.specs.declared.ids.ActorId.{ActorId}
use Rattle.afr_base.specs.declared.ids.BrickId.{BrickId}
use Rattle.afr_base.specs.declared.ids.Gfid.{Gfid}
use Rattle.afr_base.specs.declared.ids.Kind.{Kind}
use Rattle.afr_base.specs.declared.ids.Shape.{Shape}
use Rattle.afr_choice.specs.declared.looked.Looked.{Looked}
use Rattle.afr_heal.specs.Answers.{asked_for, fits, source_after}
use Rattle.afr_heal.specs.Engine.{Ask, next_of}
use Rattle.afr_heal.specs.Requests.{area_now}
use Rattle.afr_heal.specs.Standing.{Broken}
use Rattle.afr_law_heal.proofs.StageLaws.{TellsNext, outcome_next}
use Rattle.afr_heal.proofs.StagesWalk.{broken_elim}
use Rattle.afr_law_heal.specs.HealLaws.{IsWholeTold}
use Rattle.afr_law_heal.specs.HealTelling.{Tells, TellsAt}
use Rattle.afr_law_heal.specs.Stages.{IsShown, TellsOver}
use Rattle.afr_lines.specs.Work.{Work}
use Rattle.afr_lines.specs.declared.answer.Told.{Told}
use Rattle.afr_lines.specs.declared.line.Line.{Line}
use Rattle.afr_lines.specs.declared.line.Line.TheVariants as line
use Rattle.afr_lines.specs.declared.reply.HealReply.{HealReply}
use Rattle.afr_lines.specs.declared.reply.HealReply.TheVariants as healed
use Rattle.afr_lines.specs.declared.request.Area.{Area}
use Rattle.afr_lines.specs.declared.request.Request.TheVariants.{Unlock}
use Rattle.afr_model.specs.Healing.{busy_after, busy_by, first_by}
use Rattle.afr_model.specs.HealReplies.{IsHealAnswered, IsHealAsked, by_first, by_moved, by_owner, is_failed, is_settled, or_else}
use Rattle.afr_model.specs.Moved.{moved_by}
use Rattle.afr_model_moves.specs.Keeps.{keeps_in}
use Rattle.afr_model_moves.specs.Register.{Exact}
use Rattle.afr_lines.specs.declared.lock.Domain.{Domain}
use Rattle.afr_lines.specs.declared.lock.Domain.TheVariants.{Heal, Work as WorkDomain}
use Rattle.afr_heal_machine.specs.Outcome.{cause, outcome_after, reply_of}
use Rattle.afr_heal_machine.specs.declared.outcome.HealOutcome.{HealOutcome}

-- ---- an unlock
-- nobody is found busy by it
pub free_of : (a : ActorId) (b : BrickId) (domain : Domain) (area : Area) (told : Told) (took : Bool) (o : Option ActorId) → busy_after (line.Ask a b (Unlock domain area) told took) o ≡ o
free_of a b domain area told took None = refl
free_of a b domain area told took (Some owner) = refl

-- whatever it is told, nothing was skipped where nothing was
pub asked_still : (shape : Shape) (g : Gfid) (kind : Kind) (w : Work) (a : ActorId) (b : BrickId) (domain : Domain) (area : Area) (told : Told) (took : Bool) (log : List Line)
    → IsHealAsked shape g kind w → IsHealAsked shape g kind ((line.Ask a b (Unlock domain area) told took, log) ∷ w)
asked_still shape g kind w a b domain area told took log k = record { locked = k.locked; worked = k.worked; looked = k.looked }

-- and a reply keeps its cause
pub reply_stands : (shape : Shape) (g : Gfid) (kind : Kind) (w : Work) (said : HealReply) (a : ActorId) (b : BrickId) (domain : Domain) (area : Area) (told : Told) (took : Bool) (log : List Line)
    → IsHealAnswered shape g kind w said → IsHealAnswered shape g kind ((line.Ask a b (Unlock domain area) told took, log) ∷ w) said
reply_stands shape g kind w said a b domain area told took log k = record {
  caused = ap (λ (o : Option ActorId). or_else (by_owner o) (or_else (by_first shape kind (first_by w)) (Some (if is_settled w then healed.Settled else by_moved (moved_by shape g kind w))))) same ∙ k.caused;
  failed = λ h. or_right _ (is_failed w) (k.failed h);
  asked = λ h. asked_still shape g kind w a b domain area told took log (k.asked (sym same ∙ h));
}
  where
    same : busy_by ((line.Ask a b (Unlock domain area) told took, log) ∷ w) ≡ busy_by w
    same = free_of a b domain area told took (busy_by w)

-- ---- a broken heal
-- it stays broken
broken_stays : (n : ℕ) (keeps : ℕ → Kind → Bool) (r : Exact) (t b : ℕ) (domain : Domain) (area : Area) (told : Told) → r.law.heal ≡ true → r.broken ≡ true → (asked_for n keeps r t b (Unlock domain area) told).broken ≡ true
broken_stays n keeps r t b domain area told heal broken = rw (heal, broken) refl

module _ (pick : (ℕ → Bool) → ℕ) (shape : Shape) (r : Exact) (seen looked : Looked) (s : ℕ) (g : Gfid) (kind : Kind) (o : HealOutcome) (w : Work) (k : Broken r g) (over : TellsOver shape seen g kind o w) where
  -- an unlock
  over_unlock : (b : ℕ) (domain : Domain) (area : Area) → TellsNext pick shape r seen looked s g kind o w (Ask b (Unlock domain area))
  over_unlock b domain area = (told_any, tt)
    where
      told_any : (t : ℕ) (told : Told) (a : ActorId) (took : Bool) (log : List Line) → fits (Unlock domain area) told ≡ true → IsWholeTold told
          → IsShown (asked_for shape.n (keeps_in shape) r t b (Unlock domain area) told) seen looked
          → Tells shape (asked_for shape.n (keeps_in shape) r t b (Unlock domain area) told) seen looked
          (source_after shape.n (keeps_in shape) pick (asked_for shape.n (keeps_in shape) r t b (Unlock domain area) told) s) g kind
          (outcome_next shape r (asked_for shape.n (keeps_in shape) r t b (Unlock domain area) told) seen looked s kind (Unlock domain area) told o)
          ((line.Ask a (record { 0 = b }) (Unlock domain area) told took, log) ∷ w)
      told_any t told a took log f whole shown = record {
        at = subst (λ (x : Bool). TellsAt x q.step q.part shape q seen looked (source_after shape.n (keeps_in shape) pick q s) g kind (outcome_next shape r q seen looked s kind (Unlock domain area) told o) lines) (sym still)
            (subst (λ (x : Bool). TellsOver shape seen g kind (outcome_after x q.broken o (cause shape kind r.part q.part s seen looked (Unlock domain area) told)) lines) (sym k.broken)
            (reply_stands shape g kind w (reply_of o seen) a (record { 0 = b }) domain area told took log over));
        will = λ h. absurd (cc (still, h));
      }
        where
          q : Exact
          q = asked_for shape.n (keeps_in shape) r t b (Unlock domain area) told

          lines : Work
          lines = (line.Ask a (record { 0 = b }) (Unlock domain area) told took, log) ∷ w

          still : q.broken ≡ true
          still = broken_stays shape.n (keeps_in shape) r t b domain area told k.base.inside k.broken

  -- and the end
  over_next : TellsNext pick shape r seen looked s g kind o w (next_of shape.n (keeps_in shape) r s g kind)
  over_next = broken_elim shape.n (keeps_in shape) r s g kind (TellsNext pick shape r seen looked s g kind o w) k.broken
      (λ b l h. over_unlock b WorkDomain (area_now r g kind)) (λ none b l h. over_unlock b Heal _) (λ none gone. over)

-- the case of a broken heal
pub ending_tells : (pick : (ℕ → Bool) → ℕ) (shape : Shape) (r : Exact) (seen looked : Looked) (s : ℕ) (g : Gfid) (kind : Kind) (o : HealOutcome) (w : Work)
    → Broken r g → Tells shape r seen looked s g kind o w → TellsNext pick shape r seen looked s g kind o w (next_of shape.n (keeps_in shape) r s g kind)
ending_tells pick shape r seen looked s g kind o w k tells =
    over_next pick shape r seen looked s g kind o w k (subst (λ (x : Bool). TellsAt x r.step r.part shape r seen looked s g kind o w) k.broken tells.at)
