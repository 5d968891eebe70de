-- The Heal locks of a heal, and its first Work lock: whatever is told, the lines show where it stands.
use Rattle.std.proofs.Common.{◌≡◌, ℕ, ◌<◌, ◌≤◌, Bool, true, false, List, None, refl, sym, ◌∙◌, ap, subst}
use Rattle.afr_base.specs.declared.ids.ActorId.{ActorId}
use Rattle.afr_base.specs.declared.ids.Gfid.{Gfid}
use Rattle.afr_base.specs.declared.ids.Kind.{Kind}
use Rattle.afr_base.specs.declared.ids.Kind.TheVariants.{Attrs, Bytes, Names}
use Rattle.afr_base.specs.declared.ids.Shape.{Shape}
use Rattle.afr_choice.specs.declared.looked.Looked.{Looked}
use Rattle.afr_heal.proofs.Finding.{over_asked, turn_new, turn_set}
use Rattle.afr_heal.proofs.Parts.{any_no}
use Rattle.afr_heal.proofs.StagesForms as form
use Rattle.afr_heal.proofs.StagesForms.{first_form, granting_first, heal_form, locking_first, new_at}
use Rattle.afr_heal.proofs.StagesWalk.{enough_heal, first_elim, heal_elim}
use Rattle.afr_heal.specs.Answers.{PicksOne, asked_for, fits}
use Rattle.afr_heal.specs.Engine.{next_of}
use Rattle.afr_heal.specs.Standing.{AtFirst, AtHeal}
use Rattle.afr_law_heal.proofs.OpeningOver.{busy_answered}
use Rattle.afr_law_heal.proofs.OpeningParts.{put_old}
use Rattle.afr_law_heal.proofs.OpeningStages.{locks_tell, work_tells}
use Rattle.afr_law_heal.proofs.OpeningWork.{turn_locks, unasked}
use Rattle.afr_law_heal.proofs.StageLaws.{TellsAsked, TellsNext}
use Rattle.afr_law_heal.specs.HealTelling.{Tells}
use Rattle.afr_law_heal.specs.Stages.{IsShown, TellsLocks, TellsWork}
use Rattle.afr_lines.specs.Overlap.{same_area}
use Rattle.afr_lines.specs.Work as lines
use Rattle.afr_lines.specs.declared.answer.Told.{Told}
use Rattle.afr_lines.specs.declared.answer.Told.TheVariants as as_told
use Rattle.afr_lines.specs.declared.line.Line.{Line}
use Rattle.afr_lines.specs.declared.line.Line.TheVariants as line
use Rattle.afr_lines.specs.declared.request.Area.{Area}
use Rattle.afr_lines.specs.declared.request.Request.TheVariants.{Lock}
use Rattle.afr_model.specs.Healing.{busy_after, whole_of}
use Rattle.afr_model_moves.specs.Keeps.{keeps_in}
use Rattle.afr_model_moves.specs.Register.{Exact, HealLocks, Opening, WorkLocks, everywhere, whole_area}
use Rattle.afr_model_moves.specs.Rules as weak
use Rattle.afr_model_moves.specs.Rules.{Register, begun, busy, heal_area}
use Rattle.afr_model_moves.specs.Sets.{empty, with, without}
use Rattle.afr_model_moves.specs.Steps.{passed, turn}
use Rattle.afr_model_moves.proofs.AreaLemmas.{same_area_self}
use Rattle.afr_lines.specs.declared.lock.Domain.TheVariants.{Heal, Work}
use Rattle.afr_heal_machine.specs.declared.outcome.HealOutcome.{HealOutcome}
use Rattle.afr_heal_machine.specs.declared.outcome.HealOutcome.TheVariants.{Settled}

-- all of a kind is the same area by the lines and by the register
pub whole_same : (g : Gfid) (kind : Kind) → same_area (whole_of g kind) (whole_area g.0 kind) ≡ true
whole_same g Bytes = same_area_self (whole_of g Bytes)
whole_same g Attrs = same_area_self (whole_of g Attrs)
whole_same g Names = same_area_self (whole_of g Names)

module _ (pick : (ℕ → Bool) → ℕ) (shape : Shape) (seen looked : Looked) (s : ℕ) (g : Gfid) (kind : Kind) (o : HealOutcome) (w : lines.Work) (some : 0 < shape.n) (few : shape.n ≤ 5) where
  abbrev heal_told : Exact → ℕ → Type 0
  heal_told r b = (t : ℕ) (told : Told) (a : ActorId) (took : Bool) (log : List Line) → fits (Lock Heal (heal_area g.0)) told ≡ true
      → TellsAsked pick shape r seen looked s g kind o w b (Lock Heal (heal_area g.0)) (asked_for shape.n (keeps_in shape) r t b (Lock Heal (heal_area g.0)) told) told (line.Ask a (record { 0 = b }) (Lock Heal (heal_area g.0)) told took) log

  -- the first Heal lock
  first_told : (q : Exact) → AtFirst shape.n (new_at q) → TellsLocks shape (new_at q) g kind w → o ≡ Settled → heal_told (new_at q) 0
  first_told q k t will at as_told.Granted a took log f shown =
      locks_tell shape g kind (new_at q) _ seen looked s o w a 0 (heal_area g.0) as_told.Granted took log few some will refl (λ x. refl) refl refl refl (λ x. refl) (λ x. refl) refl refl t
  first_told q k t will at (as_told.Held owner) a took log f shown = record { at = busy_answered shape g kind _ owner (ap (busy_after (line.Ask a (record { 0 = 0 }) (Lock Heal (heal_area g.0)) (as_told.Held owner) took)) t.free); will = λ h. absurd (cc h) }
  first_told q k t will at as_told.Failed a took log f shown =
      locks_tell shape g kind (new_at q) _ seen looked s o w a 0 (heal_area g.0) as_told.Failed took log few some will refl (λ x. refl) refl refl refl (λ x. refl) (λ x. put_old q.law.healing 0 false x (t.fresh 0 refl)) refl refl t
  first_told q k t will at as_told.NotConnected a took log f shown =
      locks_tell shape g kind (new_at q) _ seen looked s o w a 0 (heal_area g.0) as_told.NotConnected took log few some will refl (λ x. refl) refl refl refl (λ x. refl) (λ x. refl) refl refl t
  first_told q k t will at _ a took log f shown = absurd (cc f)

  module _ (q : Exact) (k : AtHeal shape.n (keeps_in shape) (form.shape q HealLocks Opening g q.law.kind None) g) (t : TellsLocks shape (form.shape q HealLocks Opening g q.law.kind None) g kind w) (will : o ≡ Settled) where
    abbrev r : Exact
    r = form.shape q HealLocks Opening g q.law.kind None

    -- another Heal lock
    heals_told : (b : ℕ) → b < shape.n → turn shape.n (keeps_in shape) r s HealLocks b ≡ true → heal_told r b
    heals_told b l turn at as_told.Granted a took log f shown =
        locks_tell shape g kind r _ seen looked s o w a b (heal_area g.0) as_told.Granted took log few l will refl (λ x. refl) (turn_new shape.n (keeps_in shape) r s HealLocks b turn) refl refl (λ x. refl) (λ x. refl) refl refl t
    heals_told b l turn at (as_told.Held owner) a took log f shown = record { at = busy_answered shape g kind _ owner (ap (busy_after (line.Ask a (record { 0 = b }) (Lock Heal (heal_area g.0)) (as_told.Held owner) took)) t.free); will = λ h. absurd (cc h) }
    heals_told b l turn at as_told.Failed a took log f shown =
        locks_tell shape g kind r _ seen looked s o w a b (heal_area g.0) as_told.Failed took log few l will refl (λ x. refl) (turn_new shape.n (keeps_in shape) r s HealLocks b turn) refl refl (λ x. refl)
        (λ x. put_old q.law.healing b false x (t.fresh b (turn_new shape.n (keeps_in shape) r s HealLocks b turn))) refl refl t
    heals_told b l turn at as_told.NotConnected a took log f shown =
        locks_tell shape g kind r _ seen looked s o w a b (heal_area g.0) as_told.NotConnected took log few l will refl (λ x. refl) (turn_new shape.n (keeps_in shape) r s HealLocks b turn) refl refl (λ x. refl) (λ x. refl) refl refl t
    heals_told b l turn at _ a took log f shown = absurd (cc f)

    module _ (over : passed shape.n (keeps_in shape) r s HealLocks ≡ true) (b : ℕ) (l : b < shape.n) (turn : turn shape.n (keeps_in shape) r s WorkLocks b ≡ true) where
      abbrev here : Area
      here = whole_area g.0 kind

      free : busy shape.n r.law ≡ false
      free = rw (any_no shape.n q.law.held (λ x l. k.none_held x), any_no shape.n q.law.second_held (λ x l. k.base.no_second x)) refl

      granted_here : q.law.healing b ≡ true
      granted_here = turn_set shape.n (keeps_in shape) r s WorkLocks b turn

      lock_none : weak.locking shape.n r.law here ≡ begun r.law here
      lock_none = locking_first shape.n r.law here b free

      grant_none : weak.granting shape.n r.law here b ≡ record (begun r.law here) { held = with empty b }
      grant_none = granting_first shape.n r.law here b free

      before : TellsWork shape (unasked r) g kind w
      before = turn_locks shape g kind r w (λ x m. over_asked shape.n everywhere q.asked (enough_heal shape.n (keeps_in shape) r s g kind k over).0 x m refl) t

      -- the first Work lock
      works_told : (t : ℕ) (told : Told) (a : ActorId) (took : Bool) (log : List Line) → fits (Lock Work here) told ≡ true
          → TellsAsked pick shape r seen looked s g kind o w b (Lock Work here) (asked_for shape.n (keeps_in shape) r t b (Lock Work here) told) told (line.Ask a (record { 0 = b }) (Lock Work here) told took) log
      works_told at as_told.Granted a took log f shown =
          work_tells shape g kind (unasked r) _ seen looked s o w a b here as_told.Granted took log few l will refl (λ x. refl) (whole_same g kind) refl granted_here refl (λ x. refl)
          (λ x. ap (λ (law : Register). law.held x) grant_none) (λ x. ap (λ (law : Register). law.healing x) grant_none ∙ put_old q.law.healing b true x granted_here) refl refl before
      works_told at (as_told.Held owner) a took log f shown =
          work_tells shape g kind (unasked r) _ seen looked s o w a b here (as_told.Held owner) took log few l will refl (λ x. refl) (whole_same g kind) refl granted_here refl (λ x. put_old empty b false x refl)
          (λ x. ap (λ (law : Register). law.held x) lock_none ∙ put_old empty b false x refl) (λ x. ap (λ (law : Register). law.healing x) lock_none ∙ put_old q.law.healing b true x granted_here) refl refl before
      works_told at as_told.Failed a took log f shown =
          work_tells shape g kind (unasked r) _ seen looked s o w a b here as_told.Failed took log few l will refl (λ x. refl) (whole_same g kind) refl granted_here refl (λ x. refl)
          (λ x. ap (λ (law : Register). law.held x) lock_none ∙ put_old empty b false x refl) (λ x. ap (λ (law : Register). law.healing x) lock_none ∙ put_old q.law.healing b true x granted_here) refl refl before
      works_told at as_told.NotConnected a took log f shown =
          work_tells shape g kind (unasked r) _ seen looked s o w a b here as_told.NotConnected took log few l will refl (λ x. refl) (whole_same g kind) refl granted_here refl (λ x. refl)
          (λ x. ap (λ (law : Register). without law.held b x) lock_none) (λ x. ap (λ (law : Register). without law.healing b x) lock_none) refl refl before
      works_told at _ a took log f shown = absurd (cc f)

-- what is shown of the next line of a register
abbrev pub TellsHere : ((ℕ → Bool) → ℕ) → Shape → Looked → Looked → ℕ → Gfid → Kind → HealOutcome → lines.Work → Exact → Type 0
TellsHere pick shape seen looked s g kind o w r = IsShown r seen looked → Tells shape r seen looked s g kind o w → TellsNext pick shape r seen looked s g kind o w (next_of shape.n (keeps_in shape) r s g kind)

-- no line was: the first Heal lock
pub first_tells : (pick : (ℕ → Bool) → ℕ) (shape : Shape) (r : Exact) (seen looked : Looked) (s : ℕ) (g : Gfid) (kind : Kind) (o : HealOutcome) (w : lines.Work)
    → 0 < shape.n → shape.n ≤ 5 → PicksOne shape.n pick → AtFirst shape.n r → IsShown r seen looked → Tells shape r seen looked s g kind o w
    → TellsNext pick shape r seen looked s g kind o w (next_of shape.n (keeps_in shape) r s g kind)
first_tells pick shape r seen looked s g kind o w some few picks k =
    subst (TellsHere pick shape seen looked s g kind o w) (sym e) (λ shown t.
    first_elim shape.n (keeps_in shape) (new_at r) s g kind k1 (TellsNext pick shape (new_at r) seen looked s g kind o w)
    ((λ at told a took log f full. first_told pick shape seen looked s g kind o w some few r k1 t.at (t.will refl) at told a took log f), tt))
  where
    e : r ≡ new_at r
    e = first_form shape.n (keeps_in shape) r s g kind k

    k1 : AtFirst shape.n (new_at r)
    k1 = subst (λ (r : Exact). AtFirst shape.n r) e k

-- the Heal locks are asked
pub healing_tells : (pick : (ℕ → Bool) → ℕ) (shape : Shape) (r : Exact) (seen looked : Looked) (s : ℕ) (g : Gfid) (kind : Kind) (o : HealOutcome) (w : lines.Work)
    → 0 < shape.n → shape.n ≤ 5 → PicksOne shape.n pick → AtHeal shape.n (keeps_in shape) r g → IsShown r seen looked → Tells shape r seen looked s g kind o w
    → TellsNext pick shape r seen looked s g kind o w (next_of shape.n (keeps_in shape) r s g kind)
healing_tells pick shape r seen looked s g kind o w some few picks k =
    subst (TellsHere pick shape seen looked s g kind o w) (sym e) (λ shown t.
    heal_elim shape.n (keeps_in shape) r1 s g kind k1 (TellsNext pick shape r1 seen looked s g kind o w)
    (λ b l turn. ((λ at told a took log f full. heals_told pick shape seen looked s g kind o w some few r k1 t.at (t.will refl) b l turn at told a took log f), tt))
    (λ over b l turn. ((λ at told a took log f full. works_told pick shape seen looked s g kind o w some few r k1 t.at (t.will refl) over b l turn at told a took log f), tt)))
  where
    r1 : Exact
    r1 = form.shape r HealLocks Opening g r.law.kind None

    e : r ≡ r1
    e = heal_form shape.n (keeps_in shape) r s g kind k

    k1 : AtHeal shape.n (keeps_in shape) r1 g
    k1 = subst (λ (r : Exact). AtHeal shape.n (keeps_in shape) r g) e k
