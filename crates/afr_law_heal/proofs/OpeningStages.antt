-- The opening of a heal: what a line leaves of it, or how it ends.
use Rattle.std.proofs.Common.{◌≡◌, ℕ, ◌<◌, ◌≤◌, ◌&&◌, not, Bool, true, false, List, ◌∷◌, length, refl, sym, ◌∙◌, subst}
use Rattle.afr_base.specs.Majority.{is_most}
use Rattle.afr_base.specs.declared.ids.ActorId.{ActorId}
use Rattle.afr_base.specs.declared.ids.Gfid.{Gfid}
use Rattle.afr_base.specs.declared.ids.Kind.{Kind}
use Rattle.afr_base.specs.declared.ids.Shape.{Shape}
use Rattle.afr_choice.specs.declared.looked.Looked.{Looked}
use Rattle.afr_discipline.specs.Notes.{shown}
use Rattle.afr_discipline.specs.Turns.{candidate}
use Rattle.afr_heal.proofs.Parts.{both, denied}
use Rattle.afr_heal.specs.Answers.{fits}
use Rattle.afr_law_heal.proofs.OpeningLocks.{locks_more}
use Rattle.afr_law_heal.proofs.OpeningLooks.{looks_more}
use Rattle.afr_law_heal.proofs.OpeningOver.{short_of_heal, short_of_work}
use Rattle.afr_law_heal.proofs.OpeningParts.{tells_by}
use Rattle.afr_law_heal.proofs.OpeningVerdict.{ended_by_looks}
use Rattle.afr_law_heal.proofs.OpeningWork.{work_more}
use Rattle.afr_law_heal.specs.HealLaws.{IsWholeTold}
use Rattle.afr_law_heal.specs.HealTelling.{Tells, TellsAt}
use Rattle.afr_law_heal.specs.Stages.{IsShown, TellsLocks, TellsLooks, TellsWork}
use Rattle.afr_lines.specs.Overlap.{same_area}
use Rattle.afr_lines.specs.Work as lines
use Rattle.afr_lines.specs.declared.answer.Told.{Told}
use Rattle.afr_lines.specs.declared.line.Line.{Line}
use Rattle.afr_lines.specs.declared.line.Line.TheVariants.{Ask}
use Rattle.afr_lines.specs.declared.request.Area.{Area}
use Rattle.afr_lines.specs.declared.request.Request.TheVariants.{Lock, Look}
use Rattle.afr_model.specs.Healing.{whole_of}
use Rattle.afr_model.specs.Showing.{is_granted, is_held}
use Rattle.afr_model_moves.specs.Keeps.{keeps_in}
use Rattle.afr_model_moves.specs.Note.{put}
use Rattle.afr_model_moves.specs.Past.{is_gone}
use Rattle.afr_model_moves.specs.Register.{Exact, HealLocks, HealPart, Looks, Opening, Step, WorkLocks, asked_in, everywhere, over}
use Rattle.afr_model_moves.specs.Sets.{any}
use Rattle.afr_lines.specs.declared.lock.Domain.TheVariants.{Heal, Work}
use Rattle.afr_heal_machine.specs.Outcome.{by_looks, outcome_after}
use Rattle.afr_heal_machine.specs.declared.outcome.HealOutcome.{HealOutcome}
use Rattle.afr_heal_machine.specs.declared.outcome.HealOutcome.TheVariants.{Settled, Short}

module _ (shape : Shape) (g : Gfid) (kind : Kind) (r q : Exact) (seen looked : Looked) (s : ℕ) (o : HealOutcome) (w : lines.Work) (a : ActorId) (b : ℕ) (area : Area) (told : Told) (took : Bool) (log : List Line)
    (few : shape.n ≤ 5) (small : b < shape.n) (will : o ≡ Settled) (opening : q.part ≡ Opening) (views : (x : ℕ) → q.first_views x ≡ r.first_views x) where
  -- a Heal lock that no other holds
  pub locks_tell : asked_in r HealLocks b ≡ false → fits (Lock Heal area) told ≡ true → is_held told ≡ false → ((x : ℕ) → asked_in q HealLocks x ≡ put (asked_in r HealLocks) b true x)
      → ((x : ℕ) → q.law.healing x ≡ put r.law.healing b (is_granted told) x) → q.step ≡ HealLocks → q.broken ≡ (over shape.n everywhere q.asked && not (is_most shape.n q.law.healing)) → TellsLocks shape r g kind w
      → Tells shape q seen looked s g kind (outcome_after false q.broken o Short) ((Ask a (record { 0 = b }) (Lock Heal area) told took, log) ∷ w)
  locks_tell new fit calm asked healing step broken t = tells_by false shape q seen looked s g kind o Short more refl will
      (λ h. let parts = both (over shape.n everywhere q.asked) (not (is_most shape.n q.law.healing)) (sym broken ∙ h) in short_of_heal shape q g kind more few (rw step refl) next parts.0 (denied _ parts.1))
      (λ h. subst (λ (st : Step). TellsAt false st q.part shape q seen looked s g kind o more) (sym step) next)
    where
      more : lines.Work
      more = (Ask a (record { 0 = b }) (Lock Heal area) told took, log) ∷ w

      next : TellsLocks shape q g kind more
      next = locks_more shape g kind r q w a b area told took log small new fit calm asked healing views t

  -- a Work lock of the opening
  pub work_tells : same_area (whole_of g kind) area ≡ true → r.asked b ≡ false → r.law.healing b ≡ true → fits (Lock Work area) told ≡ true → ((x : ℕ) → q.asked x ≡ put r.asked b (not (is_held told)) x)
      → ((x : ℕ) → q.law.held x ≡ put r.law.held b (is_granted told) x) → ((x : ℕ) → q.law.healing x ≡ put r.law.healing b (not (is_gone told)) x) → q.step ≡ WorkLocks
      → q.broken ≡ (over shape.n q.law.healing q.asked && not (is_most shape.n q.law.held)) → TellsWork shape r g kind w
      → Tells shape q seen looked s g kind (outcome_after false q.broken o Short) ((Ask a (record { 0 = b }) (Lock Work area) told took, log) ∷ w)
  work_tells own new granted fit asked held healing step broken t = tells_by false shape q seen looked s g kind o Short more refl will
      (λ h. let parts = both (over shape.n q.law.healing q.asked) (not (is_most shape.n q.law.held)) (sym broken ∙ h) in short_of_work shape q g kind more few next parts.0 (denied _ parts.1))
      (λ h. subst (λ (st : Step). TellsAt false st q.part shape q seen looked s g kind o more) (sym step) (subst (λ (part : HealPart). TellsAt false WorkLocks part shape q seen looked s g kind o more) (sym opening) next))
    where
      more : lines.Work
      more = (Ask a (record { 0 = b }) (Lock Work area) told took, log) ∷ w

      next : TellsWork shape q g kind more
      next = work_more shape g kind r q w a b area told took log own small new granted fit asked held healing views t

module _ (shape : Shape) (g : Gfid) (kind : Kind) (r q : Exact) (seen looked : Looked) (s : ℕ) (o : HealOutcome) (w : lines.Work) (a : ActorId) (b : ℕ) (told : Told) (took : Bool) (log : List Line)
    (few : shape.n ≤ 5) (small : b < shape.n) (will : o ≡ Settled) (opening : q.part ≡ Opening) where
  -- a look of the opening
  pub looks_tell : length seen.views ≡ 5 → r.asked b ≡ false → r.law.held b ≡ true → fits (Look g) told ≡ true → IsWholeTold told → ((x : ℕ) → q.asked x ≡ put r.asked b true x)
      → ((x : ℕ) → q.law.held x ≡ put r.law.held b (not (is_gone told)) x) → q.law.kind ≡ kind → q.step ≡ Looks → ((x : ℕ) → x < shape.n → q.possible x ≡ true)
      → q.broken ≡ (over shape.n q.law.held q.asked && not (any shape.n (candidate shape.n (keeps_in shape) q))) → IsShown q (shown seen b told) looked → TellsLooks shape r seen g kind w
      → Tells shape q (shown seen b told) looked s g kind (outcome_after false q.broken o (by_looks shape kind (shown seen b told))) ((Ask a (record { 0 = b }) (Look g) told took, log) ∷ w)
  looks_tell five new held_here fit full asked held is_kind step every broken says t = tells_by false shape q (shown seen b told) looked s g kind o (by_looks shape kind (shown seen b told)) more refl will
      (λ h. let parts = both (over shape.n q.law.held q.asked) (not (any shape.n (candidate shape.n (keeps_in shape) q))) (sym broken ∙ h) in
      ended_by_looks shape g kind q (shown seen b told) more few next says.first_reached says.first_views is_kind opening parts.0 every (denied _ parts.1))
      (λ h. subst (λ (st : Step). TellsAt false st q.part shape q (shown seen b told) looked s g kind o more) (sym step) (subst (λ (part : HealPart). TellsAt false Looks part shape q (shown seen b told) looked s g kind o more) (sym opening) next))
    where
      more : lines.Work
      more = (Ask a (record { 0 = b }) (Look g) told took, log) ∷ w

      next : TellsLooks shape q (shown seen b told) g kind more
      next = looks_more shape g kind r q seen w a b told took log few small five new held_here fit full asked held t
