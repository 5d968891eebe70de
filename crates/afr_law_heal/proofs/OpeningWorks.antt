-- The Work locks of the opening of a heal, and its first HealBegin: whatever is told, the lines show where it stands.
use Rattle.std.proofs.Common.{◌≡◌, ℕ, ◌<◌, ◌≤◌, ◌==◌, Bool, true, false, List, ◌∷◌, Some, Option, refl, sym, ◌∙◌, ap, subst, if◌then◌else◌}
use Rattle.afr_base.specs.declared.ids.ActorId.{ActorId}
use Rattle.afr_base.specs.declared.ids.Gfid.{Gfid}
use Rattle.afr_base.specs.declared.ids.Kind.{Kind}
use Rattle.afr_base.specs.declared.ids.Shape.{Shape}
use Rattle.afr_choice.specs.Looks.{no_looks}
use Rattle.afr_choice.specs.declared.looked.Looked.{Looked}
use Rattle.afr_heal.proofs.Finding.{turn_new, turn_set}
use Rattle.afr_heal.proofs.Parts.{any_none, no_or, not_both}
use Rattle.afr_heal.proofs.StagesForms as form
use Rattle.afr_heal.proofs.StagesForms.{granting_by, locking_by, work_form}
use Rattle.afr_heal.proofs.StagesWalk.{lock_elim}
use Rattle.afr_heal.specs.Answers.{PicksOne, asked_for, begun_at, fits}
use Rattle.afr_heal.specs.Engine.{next_of}
use Rattle.afr_heal.specs.Standing.{AtWork}
use Rattle.afr_law_heal.proofs.OpeningHeal.{TellsHere, whole_same}
use Rattle.afr_law_heal.proofs.OpeningParts.{put_old}
use Rattle.afr_law_heal.proofs.OpeningStages.{work_tells}
use Rattle.afr_law_heal.proofs.OpeningWork.{looks_begin, not_looked}
use Rattle.afr_law_heal.proofs.StageLaws.{TellsAsked, TellsNext}
use Rattle.afr_law_heal.specs.HealTelling.{Tells}
use Rattle.afr_law_heal.specs.Stages.{IsShown, TellsLooks, TellsWork}
use Rattle.afr_lines.specs.Work as lines
use Rattle.afr_lines.specs.declared.answer.Told.{Told}
use Rattle.afr_lines.specs.declared.answer.Told.TheVariants as as_told
use Rattle.afr_lines.specs.declared.line.Line.{Line}
use Rattle.afr_lines.specs.declared.line.Line.TheVariants as line
use Rattle.afr_lines.specs.declared.request.Area.{Area}
use Rattle.afr_lines.specs.declared.request.Request.TheVariants.{Lock}
use Rattle.afr_model_moves.specs.Keeps.{keeps_in}
use Rattle.afr_model_moves.specs.Note.{put}
use Rattle.afr_model_moves.specs.Register.{Exact, Opening, WorkLocks, over, whole_area}
use Rattle.afr_model_moves.specs.Rules.{Register, busy, is_area}
use Rattle.afr_model_moves.specs.Sets.{any, without}
use Rattle.afr_model_moves.specs.Steps.{turn}
use Rattle.afr_model_moves.proofs.AreaLemmas.{same_area_self}
use Rattle.afr_object.specs.declared.entry.View.{View}
use Rattle.afr_lines.specs.declared.lock.Domain.TheVariants.{Work}
use Rattle.afr_heal_machine.specs.declared.outcome.HealOutcome.{HealOutcome}
use Rattle.afr_heal_machine.specs.declared.outcome.HealOutcome.TheVariants.{Settled}

-- ---- what a Work lock leaves of the law's register, by whether the actor holds one and whether the area is its own
module _ (law : Register) (area : Area) (b : ℕ) (x : ℕ) where
  refused_held : (holds own : Bool) → own ≡ true → (holds ≡ false → law.held x ≡ false) → (locking_by holds own law area).held x ≡ law.held x
  refused_held true true e idle = refl
  refused_held false true e idle = sym (idle refl)
  refused_held holds false e idle = absurd (cc e)

  refused_healing : (holds own : Bool) → (locking_by holds own law area).healing x ≡ law.healing x
  refused_healing true own = refl
  refused_healing false own = refl

  granted_held : (holds own : Bool) → own ≡ true → (holds ≡ false → law.held x ≡ false) → (granting_by holds own law area b).held x ≡ put law.held b true x
  granted_held true true e idle = refl
  granted_held false true e idle = go (x == b)
    where
      go : (f : Bool) → (if f then true else false) ≡ (if f then true else law.held x)
      go true = refl
      go false = sym (idle refl)
  granted_held holds false e idle = absurd (cc e)

  granted_healing : (holds own : Bool) → own ≡ true → (granting_by holds own law area b).healing x ≡ law.healing x
  granted_healing true true e = refl
  granted_healing false true e = refl
  granted_healing holds false e = absurd (cc e)

  gone_held : (holds own : Bool) → own ≡ true → (holds ≡ false → law.held x ≡ false) → without (locking_by holds own law area).held b x ≡ put law.held b false x
  gone_held holds own e idle = ap (λ (f : Bool). if x == b then false else f) (refused_held holds own e idle)

  gone_healing : (holds own : Bool) → without (locking_by holds own law area).healing b x ≡ put law.healing b false x
  gone_healing holds own = ap (λ (f : Bool). if x == b then false else f) (refused_healing holds own)

module _ (pick : (ℕ → Bool) → ℕ) (shape : Shape) (seen looked : Looked) (s : ℕ) (g : Gfid) (kind : Kind) (o : HealOutcome) (w : lines.Work) (few : shape.n ≤ 5)
    (q : Exact) (k : AtWork shape.n (keeps_in shape) (form.shape q WorkLocks Opening g q.law.kind (Some (whole_area g.0 kind))) g kind)
    (t : TellsWork shape (form.shape q WorkLocks Opening g q.law.kind (Some (whole_area g.0 kind))) g kind w) (will : o ≡ Settled) where
  abbrev r : Exact
  r = form.shape q WorkLocks Opening g q.law.kind (Some (whole_area g.0 kind))

  abbrev here : Area
  here = whole_area g.0 kind

  -- an actor that holds no Work lock below n holds none at all
  idle : (x : ℕ) → busy shape.n r.law ≡ false → q.law.held x ≡ false
  idle x free = go (q.law.held x) refl
    where
      go : (f : Bool) → q.law.held x ≡ f → f ≡ false
      go true e = absurd (not_both (q.law.held x) e (any_none shape.n q.law.held (no_or (any shape.n q.law.held) (any shape.n q.law.second_held) free).0 x (t.low_held x e)))
      go false e = refl

  module _ (b : ℕ) (l : b < shape.n) (turn : turn shape.n (keeps_in shape) r s WorkLocks b ≡ true) where
    new : q.asked b ≡ false
    new = turn_new shape.n (keeps_in shape) r s WorkLocks b turn

    granted_here : q.law.healing b ≡ true
    granted_here = turn_set shape.n (keeps_in shape) r s WorkLocks b turn

    unheld : q.law.held b ≡ false
    unheld = t.unheld b new

    -- another Work lock
    work_told : (t : ℕ) (told : Told) (a : ActorId) (took : Bool) (log : List Line) → fits (Lock Work here) told ≡ true
        → TellsAsked pick shape r seen looked s g kind o w b (Lock Work here) (asked_for shape.n (keeps_in shape) r t b (Lock Work here) told) told (line.Ask a (record { 0 = b }) (Lock Work here) told took) log
    work_told at as_told.Granted a took log f shown =
        work_tells shape g kind r _ seen looked s o w a b here as_told.Granted took log few l will refl (λ x. refl) (whole_same g kind) new granted_here refl (λ x. refl)
        (λ x. granted_held r.law here b x (busy shape.n r.law) (is_area (Some here) here) (same_area_self here) (idle x))
        (λ x. granted_healing r.law here b x (busy shape.n r.law) (is_area (Some here) here) (same_area_self here) ∙ put_old q.law.healing b true x granted_here) refl refl t
    work_told at (as_told.Held owner) a took log f shown =
        work_tells shape g kind r _ seen looked s o w a b here (as_told.Held owner) took log few l will refl (λ x. refl) (whole_same g kind) new granted_here refl (λ x. put_old q.asked b false x new)
        (λ x. refused_held r.law here b x (busy shape.n r.law) (is_area (Some here) here) (same_area_self here) (idle x) ∙ put_old q.law.held b false x unheld)
        (λ x. refused_healing r.law here b x (busy shape.n r.law) (is_area (Some here) here) ∙ put_old q.law.healing b true x granted_here) refl refl t
    work_told at as_told.Failed a took log f shown =
        work_tells shape g kind r _ seen looked s o w a b here as_told.Failed took log few l will refl (λ x. refl) (whole_same g kind) new granted_here refl (λ x. refl)
        (λ x. refused_held r.law here b x (busy shape.n r.law) (is_area (Some here) here) (same_area_self here) (idle x) ∙ put_old q.law.held b false x unheld)
        (λ x. refused_healing r.law here b x (busy shape.n r.law) (is_area (Some here) here) ∙ put_old q.law.healing b true x granted_here) refl refl t
    work_told at as_told.NotConnected a took log f shown =
        work_tells shape g kind r _ seen looked s o w a b here as_told.NotConnected took log few l will refl (λ x. refl) (whole_same g kind) new granted_here refl (λ x. refl)
        (λ x. gone_held r.law here b x (busy shape.n r.law) (is_area (Some here) here) (same_area_self here) (idle x)) (λ x. gone_healing r.law here b x (busy shape.n r.law) (is_area (Some here) here)) refl refl t
    work_told at _ a took log f shown = absurd (cc f)

  -- the first HealBegin
  begins_told : IsShown r seen looked → over shape.n q.law.healing q.asked ≡ true → (t : ℕ) (a : ActorId) (log : List Line) → Tells shape (begun_at shape.n (keeps_in shape) r t g kind) seen no_looks s g kind o ((line.HealBegin a g kind, log) ∷ w)
  begins_told says all at a log = record {
    at = subst (λ (l : Looked). TellsLooks shape (begun_at shape.n (keeps_in shape) r at g kind) l g kind ((line.HealBegin a g kind, log) ∷ w)) (sym nothing)
        (looks_begin shape g kind r (begun_at shape.n (keeps_in shape) r at g kind) w a log t all (λ x. refl) (λ x. refl));
    will = λ h. will;
  }
    where
      nothing : seen ≡ no_looks
      nothing = not_looked seen (λ x. sym (ap (λ (f : ℕ → Bool). f x) says.first_reached) ∙ k.none_first x) says.five_first
          (λ x l. sym (ap (λ (f : ℕ → Option View). f x) says.first_views) ∙ t.unviewed x l)

-- the first Work locks are asked
pub working_tells : (pick : (ℕ → Bool) → ℕ) (shape : Shape) (r : Exact) (seen looked : Looked) (s : ℕ) (g : Gfid) (kind : Kind) (o : HealOutcome) (w : lines.Work)
    → 0 < shape.n → shape.n ≤ 5 → PicksOne shape.n pick → AtWork shape.n (keeps_in shape) r g kind → IsShown r seen looked → Tells shape r seen looked s g kind o w
    → TellsNext pick shape r seen looked s g kind o w (next_of shape.n (keeps_in shape) r s g kind)
working_tells pick shape r seen looked s g kind o w some few picks k =
    subst (TellsHere pick shape seen looked s g kind o w) (sym e) (λ shown t.
    lock_elim shape.n (keeps_in shape) r1 s g kind (TellsNext pick shape r1 seen looked s g kind o w) refl refl
    (λ b l turn. ((λ at told a took log f full. work_told pick shape seen looked s g kind o w few r k1 t.at (t.will refl) b l turn at told a took log f), tt))
    (λ all. begins_told pick shape seen looked s g kind o w few r k1 t.at (t.will refl) shown all))
  where
    r1 : Exact
    r1 = form.shape r WorkLocks Opening g r.law.kind (Some (whole_area g.0 kind))

    e : r ≡ r1
    e = work_form shape.n (keeps_in shape) r s g kind k

    k1 : AtWork shape.n (keeps_in shape) r1 g kind
    k1 = subst (λ (r : Exact). AtWork shape.n (keeps_in shape) r g kind) e k
