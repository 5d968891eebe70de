-- The first looks of a heal: whatever is told, the lines show where it stands, or the verdict that ends it.
use Rattle.std.proofs.Common.{◌≡◌, ℕ, ◌<◌, ◌≤◌, ◌&&◌, Bool, true, false, List, Some, refl, sym, ◌∙◌, ap, subst}
use Rattle.afr_base.specs.declared.ids.ActorId.{ActorId}
use Rattle.afr_base.specs.declared.ids.Gfid.{Gfid}
use Rattle.afr_base.specs.declared.ids.Kind.{Kind}
use Rattle.afr_base.specs.declared.ids.Shape.{Shape}
use Rattle.afr_choice.specs.declared.looked.Looked.{Looked}
use Rattle.afr_heal.proofs.Finding.{turn_new, turn_set}
use Rattle.afr_heal.proofs.Parts.{pair}
use Rattle.afr_heal.proofs.StagesAllowed.{look_ok}
use Rattle.afr_heal.proofs.StagesForms as form
use Rattle.afr_heal.proofs.StagesForms.{looks_form, viewed_form}
use Rattle.afr_heal.proofs.StagesWalk.{look_elim}
use Rattle.afr_heal.specs.Answers.{PicksOne, asked_for, fits}
use Rattle.afr_heal.specs.Engine.{next_of}
use Rattle.afr_heal.specs.Standing.{AtLooks}
use Rattle.afr_law_heal.proofs.OpeningHeal.{TellsHere}
use Rattle.afr_law_heal.proofs.OpeningParts.{put_old}
use Rattle.afr_law_heal.proofs.OpeningStages.{looks_tell}
use Rattle.afr_law_heal.proofs.StageLaws.{TellsAsked, TellsNext}
use Rattle.afr_law_heal.specs.HealLaws.{IsWholeTold}
use Rattle.afr_law_heal.specs.HealTelling.{Tells}
use Rattle.afr_law_heal.specs.Stages.{IsShown, TellsLooks}
use Rattle.afr_lines.specs.Work as lines
use Rattle.afr_lines.specs.declared.answer.Told.{Told}
use Rattle.afr_lines.specs.declared.answer.Told.TheVariants as as_told
use Rattle.afr_lines.specs.declared.line.Line.{Line}
use Rattle.afr_lines.specs.declared.line.Line.TheVariants as line
use Rattle.afr_lines.specs.declared.request.Request.TheVariants.{Look}
use Rattle.afr_model_moves.specs.Keeps.{keeps_in}
use Rattle.afr_model_moves.specs.Register.{Exact, Looks, Opening, whole_area}
use Rattle.afr_model_moves.specs.Rules.{Register}
use Rattle.afr_model_moves.specs.Steps.{may_heal, turn}
use Rattle.afr_heal_machine.specs.declared.outcome.HealOutcome.{HealOutcome}
use Rattle.afr_heal_machine.specs.declared.outcome.HealOutcome.TheVariants.{Settled}

module _ (pick : (ℕ → Bool) → ℕ) (shape : Shape) (seen looked : Looked) (s : ℕ) (g : Gfid) (kind : Kind) (o : HealOutcome) (w : lines.Work) (few : shape.n ≤ 5)
    (q : Exact) (k : AtLooks shape.n (keeps_in shape) (form.shape q Looks Opening g kind (Some (whole_area g.0 kind))) g kind) (says : IsShown (form.shape q Looks Opening g kind (Some (whole_area g.0 kind))) seen looked)
    (t : TellsLooks shape (form.shape q Looks Opening g kind (Some (whole_area g.0 kind))) seen g kind w) (will : o ≡ Settled)
    (b : ℕ) (l : b < shape.n) (turn : turn shape.n (keeps_in shape) (form.shape q Looks Opening g kind (Some (whole_area g.0 kind))) s Looks b ≡ true) where
  abbrev r : Exact
  r = form.shape q Looks Opening g kind (Some (whole_area g.0 kind))

  new : q.asked b ≡ false
  new = turn_new shape.n (keeps_in shape) r s Looks b turn

  held_here : q.law.held b ≡ true
  held_here = turn_set shape.n (keeps_in shape) r s Looks b turn

  still_all : (x : ℕ) → x < shape.n → (r.possible x && may_heal shape.n (keeps_in shape) r x b (Look g)) ≡ true
  still_all x l = pair _ _ (k.every x l) (look_ok shape.n (keeps_in shape) r s g kind x k.base refl b turn)

  -- another look
  look_told : (t : ℕ) (told : Told) (a : ActorId) (took : Bool) (log : List Line) → fits (Look g) told ≡ true → IsWholeTold told
      → TellsAsked pick shape r seen looked s g kind o w b (Look g) (asked_for shape.n (keeps_in shape) r t b (Look g) told) told (line.Ask a (record { 0 = b }) (Look g) told took) log
  look_told at (as_told.Seen view) a took log f full shown =
      looks_tell shape g kind r _ seen _ _ o w a b (as_told.Seen view) took log few l will refl says.five_first new held_here refl full (λ x. refl)
      (λ x. ap (λ (law : Register). law.held x) (viewed_form r.law b g.0 view) ∙ put_old q.law.held b true x held_here) (ap (λ (law : Register). law.kind) (viewed_form r.law b g.0 view)) refl still_all refl shown t
  look_told at as_told.NoObject a took log f full shown =
      looks_tell shape g kind r _ seen _ _ o w a b as_told.NoObject took log few l will refl says.five_first new held_here refl full (λ x. refl) (λ x. put_old q.law.held b true x held_here) refl refl still_all refl shown t
  look_told at as_told.Failed a took log f full shown =
      looks_tell shape g kind r _ seen _ _ o w a b as_told.Failed took log few l will refl says.five_first new held_here refl full (λ x. refl) (λ x. put_old q.law.held b true x held_here) refl refl still_all refl shown t
  look_told at as_told.NotConnected a took log f full shown =
      looks_tell shape g kind r _ seen _ _ o w a b as_told.NotConnected took log few l will refl says.five_first new held_here refl full (λ x. refl) (λ x. refl) refl refl still_all refl shown t
  look_told at _ a took log f full shown = absurd (cc f)

-- the locked bricks are looked at first
pub looking_tells : (pick : (ℕ → Bool) → ℕ) (shape : Shape) (r : Exact) (seen looked : Looked) (s : ℕ) (g : Gfid) (kind : Kind) (o : HealOutcome) (w : lines.Work)
    → 0 < shape.n → shape.n ≤ 5 → PicksOne shape.n pick → AtLooks shape.n (keeps_in shape) r g kind → IsShown r seen looked → Tells shape r seen looked s g kind o w
    → TellsNext pick shape r seen looked s g kind o w (next_of shape.n (keeps_in shape) r s g kind)
looking_tells pick shape r seen looked s g kind o w some few picks k =
    subst (TellsHere pick shape seen looked s g kind o w) (sym e) (λ shown t.
    look_elim shape.n (keeps_in shape) r1 s g kind (TellsNext pick shape r1 seen looked s g kind o w) refl refl k1.more
    (λ b l turn. ((λ at told a took log f full. look_told pick shape seen looked s g kind o w few r k1 shown t.at (t.will refl) b l turn at told a took log f full), tt)))
  where
    r1 : Exact
    r1 = form.shape r Looks Opening g kind (Some (whole_area g.0 kind))

    e : r ≡ r1
    e = looks_form shape.n (keeps_in shape) r s g kind k

    k1 : AtLooks shape.n (keeps_in shape) r1 g kind
    k1 = subst (λ (r : Exact). AtLooks shape.n (keeps_in shape) r g kind) e k
