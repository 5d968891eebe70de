-- The looks of a later part, whatever is told.
use Rattle.std.proofs.Common.{ℕ, ◌≡◌, ◌<◌, ◌≤◌, ◌&&◌, ◌∷◌, Bool, List, None, Option, Some, ap, false, refl, subst, sym, true}
use Rattle.afr_base.specs.declared.ids.ActorId.{ActorId}
use Rattle.afr_base.specs.declared.ids.Gfid.{Gfid}
use Rattle.afr_base.specs.declared.ids.Kind.{Kind}
use Rattle.afr_base.specs.declared.ids.Kind.TheVariants.{Bytes}
use Rattle.afr_base.specs.declared.ids.Shape.{Shape}
use Rattle.afr_choice.specs.Looks.{view_at, with_look, without_look}
use Rattle.afr_choice.specs.declared.looked.Looked.{Looked}
use Rattle.afr_discipline.specs.Notes.{shown}
use Rattle.afr_heal.proofs.Finding.{turn_set}
use Rattle.afr_heal.proofs.KeptViews.{looks_there}
use Rattle.afr_heal.proofs.Parts.{pair}
use Rattle.afr_heal.proofs.StagesAllowed.{look_ok}
use Rattle.afr_heal.proofs.StagesForms.{shape as formed, viewed_form, views_form}
use Rattle.afr_heal.proofs.StagesWalk.{look_elim}
use Rattle.afr_heal.specs.Answers.{PicksOne, asked_for, fits}
use Rattle.afr_heal.specs.Engine.{Ask, next_of}
use Rattle.afr_heal.specs.Standing.{AtViews}
use Rattle.afr_law_heal.proofs.PartingLocks.{ends_told, of_looks}
use Rattle.afr_law_heal.proofs.StageLaws.{TellsAsked, TellsNext}
use Rattle.afr_law_heal.specs.HealLaws.{IsWholeTold}
use Rattle.afr_law_heal.specs.HealTelling.{Tells}
use Rattle.afr_law_heal.specs.Stages.{IsShown, TellsAfter}
use Rattle.afr_lines.specs.Work.{Work}
use Rattle.afr_lines.specs.declared.answer.Told.{Told}
use Rattle.afr_lines.specs.declared.answer.Told.TheVariants as as_told
use Rattle.afr_lines.specs.declared.line.Line.{Line}
use Rattle.afr_lines.specs.declared.line.Line.TheVariants as line
use Rattle.afr_lines.specs.declared.request.Area.{Area}
use Rattle.afr_lines.specs.declared.request.Request.TheVariants.{Look}
use Rattle.afr_model.specs.Showing.{is_fault, look_shows}
use Rattle.afr_model_moves.specs.Keeps.{keeps_in}
use Rattle.afr_model_moves.specs.Note.{put, stopping}
use Rattle.afr_model_moves.specs.Register.{Exact, Finish, HealPart, Looks, Opening, Piece, is_opening}
use Rattle.afr_model_moves.specs.Rules as weak
use Rattle.afr_model_moves.specs.Rules.{Register}
use Rattle.afr_model_moves.specs.Sets.{with}
use Rattle.afr_model_moves.specs.Steps.{may_heal, turn}
use Rattle.afr_object.specs.declared.entry.View.{View}
use Rattle.afr_heal_machine.specs.Outcome.{by_mover, mover, outcome_after}
use Rattle.afr_heal_machine.specs.declared.outcome.HealOutcome.{HealOutcome}
use Rattle.afr_heal_machine.specs.declared.outcome.HealOutcome.TheVariants.{Settled, Failed}
use Rattle.afr_law_heal.proofs.ViewingLooks.{look_answered, look_fails}

module _ (shape : Shape) (few : shape.n ≤ 5) (q : Exact) (part : HealPart) (later : is_opening part ≡ false) (s : ℕ) (g : Gfid) (area : Area) (at : AtViews shape.n (keeps_in shape) (formed q Looks part g Bytes (Some area)) s g Bytes) (seen looked : Looked) (o : HealOutcome) (w : Work) (settled : o ≡ Settled)
    (before : IsShown (formed q Looks part g Bytes (Some area)) seen looked) (k : TellsAfter shape (formed q Looks part g Bytes (Some area)) seen looked s g Bytes w) where
  abbrev r : Exact
  r = formed q Looks part g Bytes (Some area)

  module _ (b : ℕ) (low : b < shape.n) (turned : turn shape.n (keeps_in shape) r s Looks b ≡ true) (a : ActorId) (took : Bool) (log : List Line) where
    abbrev pub may_view : ℕ → Bool
    may_view x = r.possible x && may_heal shape.n (keeps_in shape) r x b (Look g)

    is_there : q.first_reached b ≡ true
    is_there = subst (λ (set : ℕ → Bool). set b ≡ true) (looks_there r part later) (turn_set shape.n (keeps_in shape) r s Looks b turned)

    source_still : may_view s ≡ true
    source_still = pair _ _ at.picked.possible (look_ok shape.n (keeps_in shape) r s g Bytes s at.base refl b turned)

    -- a view, or that there is no copy
    answered_there : (told : Told) (v : Option View) → look_shows b told looked ≡ with_look b v looked → (law : Register) → law.kind ≡ Bytes → (caused : HealOutcome) → caused ≡ by_mover (mover shape Bytes part s seen (with_look b v looked))
        → (let r1 = stopping shape.n (keeps_in shape) (record r { asked = with q.asked b; reached = put q.reached b true; views = put q.views b v; possible = may_view; law = law }) in
        r1.views ≡ (λ x. view_at x (with_look b v looked)) → Tells shape r1 seen (with_look b v looked) s g Bytes (outcome_after false r1.broken o caused) ((line.Ask a (record { 0 = b }) (Look g) told took, log) ∷ w))
    answered_there told v shows law is_kind caused of_cause now =
        look_answered shape q part later s g area seen looked w before k few at.picked.below at.picked.is_good a b told took log is_there low v shows (put q.reached b true) may_view (put q.views b v) law source_still is_kind o caused settled of_cause now

    -- no answer
    failed_there : (told : Told) → is_fault told ≡ true → look_shows b told looked ≡ without_look b looked → (r1 : Exact) → r1.broken ≡ true → (caused : HealOutcome) → caused ≡ Failed
        → Tells shape r1 seen (without_look b looked) s g Bytes (outcome_after false r1.broken o caused) ((line.Ask a (record { 0 = b }) (Look g) told took, log) ∷ w)
    failed_there told fault shows r1 broken caused of_cause =
        ends_told shape r1 seen (without_look b looked) s g Bytes o caused ((line.Ask a (record { 0 = b }) (Look g) told took, log) ∷ w) broken
        (rw of_cause (look_fails shape q part later s g area seen looked w before k few at.picked.below at.picked.is_good a b told took log is_there fault shows))

module _ (pick : (ℕ → Bool) → ℕ) (shape : Shape) (few : shape.n ≤ 5) (q : Exact) (s : ℕ) (g : Gfid) (area : Area) (seen looked : Looked) (o : HealOutcome) (w : Work) (settled : o ≡ Settled) where
  abbrev at_part : HealPart → Exact
  at_part part = formed q Looks part g Bytes (Some area)

  -- whatever is told of a look of this part
  abbrev Told_in : HealPart → Type 0
  Told_in part = AtViews shape.n (keeps_in shape) (at_part part) s g Bytes → IsShown (at_part part) seen looked → TellsAfter shape (at_part part) seen looked s g Bytes w
      → (b : ℕ) → b < shape.n → turn shape.n (keeps_in shape) (at_part part) s Looks b ≡ true → TellsNext pick shape (at_part part) seen looked s g Bytes o w (Ask b (Look g))

  viewed_kind : (part : HealPart) (b : ℕ) (view : View) → (weak.viewed (at_part part).law b g.0 view).kind ≡ Bytes
  viewed_kind part b view = ap (λ (law : Register). law.kind) (viewed_form (at_part part).law b g.0 view)

  piece_told : Told_in Piece
  piece_told at before k b low turned = (each, tt)
    where
      each : (t : ℕ) (told : Told) (a : ActorId) (took : Bool) (log : List Line) → fits (Look g) told ≡ true → IsWholeTold told
          → TellsAsked pick shape (at_part Piece) seen looked s g Bytes o w b (Look g) (asked_for shape.n (keeps_in shape) (at_part Piece) t b (Look g) told) told (line.Ask a (record { 0 = b }) (Look g) told took) log
      each t (as_told.Seen view) a took log f whole now = answered_there shape few q Piece refl s g area at seen looked o w settled before k b low turned a took log (as_told.Seen view) (Some view) refl (weak.viewed (at_part Piece).law b g.0 view) (viewed_kind Piece b view) _ refl now.views
      each t as_told.NoObject a took log f whole now = answered_there shape few q Piece refl s g area at seen looked o w settled before k b low turned a took log as_told.NoObject None refl (at_part Piece).law refl _ refl now.views
      each t as_told.Failed a took log f whole now = failed_there shape few q Piece refl s g area at seen looked o w settled before k b low turned a took log as_told.Failed refl refl (asked_for shape.n (keeps_in shape) (at_part Piece) t b (Look g) as_told.Failed) refl _ refl
      each t as_told.NotConnected a took log f whole now = failed_there shape few q Piece refl s g area at seen looked o w settled before k b low turned a took log as_told.NotConnected refl refl (asked_for shape.n (keeps_in shape) (at_part Piece) t b (Look g) as_told.NotConnected) refl _ refl
      each t _ a took log f whole now = absurd (cc f)

  finish_told : Told_in Finish
  finish_told at before k b low turned = (each, tt)
    where
      each : (t : ℕ) (told : Told) (a : ActorId) (took : Bool) (log : List Line) → fits (Look g) told ≡ true → IsWholeTold told
          → TellsAsked pick shape (at_part Finish) seen looked s g Bytes o w b (Look g) (asked_for shape.n (keeps_in shape) (at_part Finish) t b (Look g) told) told (line.Ask a (record { 0 = b }) (Look g) told took) log
      each t (as_told.Seen view) a took log f whole now = answered_there shape few q Finish refl s g area at seen looked o w settled before k b low turned a took log (as_told.Seen view) (Some view) refl (weak.viewed (at_part Finish).law b g.0 view) (viewed_kind Finish b view) _ refl now.views
      each t as_told.NoObject a took log f whole now = answered_there shape few q Finish refl s g area at seen looked o w settled before k b low turned a took log as_told.NoObject None refl (at_part Finish).law refl _ refl now.views
      each t as_told.Failed a took log f whole now = failed_there shape few q Finish refl s g area at seen looked o w settled before k b low turned a took log as_told.Failed refl refl (asked_for shape.n (keeps_in shape) (at_part Finish) t b (Look g) as_told.Failed) refl _ refl
      each t as_told.NotConnected a took log f whole now = failed_there shape few q Finish refl s g area at seen looked o w settled before k b low turned a took log as_told.NotConnected refl refl (asked_for shape.n (keeps_in shape) (at_part Finish) t b (Look g) as_told.NotConnected) refl _ refl
      each t _ a took log f whole now = absurd (cc f)

  -- the looks of a later part
  viewing_formed : (part : HealPart) → is_opening part ≡ false → AtViews shape.n (keeps_in shape) (at_part part) s g Bytes → IsShown (at_part part) seen looked → TellsAfter shape (at_part part) seen looked s g Bytes w
      → TellsNext pick shape (at_part part) seen looked s g Bytes o w (next_of shape.n (keeps_in shape) (at_part part) s g Bytes)
  viewing_formed Opening later at before k = absurd (cc later)
  viewing_formed Piece later at before k = look_elim shape.n (keeps_in shape) (at_part Piece) s g Bytes (TellsNext pick shape (at_part Piece) seen looked s g Bytes o w) refl refl at.more (piece_told at before k)
  viewing_formed Finish later at before k = look_elim shape.n (keeps_in shape) (at_part Finish) s g Bytes (TellsNext pick shape (at_part Finish) seen looked s g Bytes o w) refl refl at.more (finish_told at before k)

-- what is to be shown of the looks of a later part
abbrev ViewsTell : ((ℕ → Bool) → ℕ) → Shape → Exact → Looked → Looked → ℕ → Gfid → HealOutcome → Work → Kind → Type 0
ViewsTell pick shape r seen looked s g o w kind =
    AtViews shape.n (keeps_in shape) r s g kind → IsShown r seen looked → Tells shape r seen looked s g kind o w → TellsNext pick shape r seen looked s g kind o w (next_of shape.n (keeps_in shape) r s g kind)

views_tell : (pick : (ℕ → Bool) → ℕ) (shape : Shape) (r : Exact) (seen looked : Looked) (s : ℕ) (g : Gfid) (o : HealOutcome) (w : Work) → shape.n ≤ 5 → ViewsTell pick shape r seen looked s g o w Bytes
views_tell pick shape r seen looked s g o w few at shown tells =
    let e = views_form shape.n (keeps_in shape) r s g Bytes at in
    let formed_at = subst (λ (r : Exact). AtViews shape.n (keeps_in shape) r s g Bytes) e at in
    let formed_shown = subst (λ (r : Exact). IsShown r seen looked) e shown in
    let formed_tells = subst (λ (r : Exact). Tells shape r seen looked s g Bytes o w) e tells in
    subst (λ (r : Exact). TellsNext pick shape r seen looked s g Bytes o w (next_of shape.n (keeps_in shape) r s g Bytes)) (sym e)
    (viewing_formed pick shape few r s g at.area seen looked o w (formed_tells.will refl) r.part at.part formed_at formed_shown
    (of_looks shape (formed r Looks r.part g Bytes (Some at.area)) r.part seen looked s g Bytes o w at.part formed_tells.at))

-- the looks of a later part: whatever is told, the lines tell where the heal stands
pub viewing_tells : (pick : (ℕ → Bool) → ℕ) (shape : Shape) (r : Exact) (seen looked : Looked) (s : ℕ) (g : Gfid) (kind : Kind) (o : HealOutcome) (w : Work)
    → 0 < shape.n → shape.n ≤ 5 → PicksOne shape.n pick → AtViews shape.n (keeps_in shape) r s g kind → IsShown r seen looked → Tells shape r seen looked s g kind o w
    → TellsNext pick shape r seen looked s g kind o w (next_of shape.n (keeps_in shape) r s g kind)
viewing_tells pick shape r seen looked s g kind o w some few picks at = subst (ViewsTell pick shape r seen looked s g o w) (sym at.bytes) (views_tell pick shape r seen looked s g o w few) at
