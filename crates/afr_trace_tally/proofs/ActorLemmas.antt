-- What is kept of an actor, one line more.
use Rattle.std.proofs.Common.{◌≡◌, ◌∙◌, ℕ, ◌+◌, ◌<◌, ◌≤◌, ◌&&◌, ◌||◌, not, Bool, true, false, List, ◌∷◌, length, ap, arith, get_or, if◌then◌else◌}
use Rattle.afr_base.specs.Bricks.{member}
use Rattle.afr_lines.specs.Places.{Place, next_place, opens, place_of}
use Rattle.afr_lines.specs.Work.{ended, ends_work, is_killed, is_of, kills}
use Rattle.afr_lines.specs.declared.line.Line.{Line}
use Rattle.afr_model.specs.Report.{started_bricks}
use Rattle.afr_model.specs.Sessions.{ends_session, is_joined, is_linked, linked_by}
use Rattle.afr_plan.specs.declared.plan.Plan.{Plan}
use Rattle.afr_trace_tally.specs.Actors.{IsActorTally}
use Rattle.afr_trace_tally.specs.Flags.{flags}
use Rattle.afr_trace_tally.specs.declared.actors.ActorTally.{ActorTally}
use Rattle.afr_trace_tally.proofs.PlaceLemmas.{IsBetween, next_left}

-- links after a line
pub linked_more : (a : ℕ) (line : Line) (older : List Line) (was : List Bool) → was ≡ flags (λ b. is_linked a b older)
    → flags (λ b. linked_by a b line (get_or was b false)) ≡ flags (λ b. is_linked a b (line ∷ older))
linked_more a line older was h = ap (λ (w : List Bool). flags (λ b. linked_by a b line (get_or w b false))) h

-- sessions after a line
pub joined_more : (p : Plan) (a : ℕ) (line : Line) (older : List Line) (place : Place) (started linked joined : List Bool) → place ≡ place_of a older
    → started ≡ flags (λ b. member (started_bricks p.shape.n older) b) → linked ≡ flags (λ b. is_linked a b older) → joined ≡ flags (λ b. is_joined p a b older)
    → flags (λ b. (get_or joined b false || (is_of a line && opens place line && get_or started b false && get_or linked b false)) && not (ends_session a b line)) ≡ flags (λ b. is_joined p a b (line ∷ older))
joined_more p a line older place started linked joined hp hs hl hj =
    ap (λ (w : Place). flags (λ b. (get_or joined b false || (is_of a line && opens w line && get_or started b false && get_or linked b false)) && not (ends_session a b line))) hp
    ∙ ap (λ (w : List Bool). flags (λ b. (get_or joined b false || (is_of a line && opens (place_of a older) line && get_or w b false && get_or linked b false)) && not (ends_session a b line))) hs
    ∙ ap
    (λ (w : List Bool). flags (λ b. (get_or joined b false || (is_of a line && opens (place_of a older) line && member (started_bricks p.shape.n older) b && get_or w b false)) && not (ends_session a b line)))
    hl
    ∙ ap (λ (w : List Bool). flags (λ b. (get_or w b false || (is_of a line && opens (place_of a older) line && member (started_bricks p.shape.n older) b && is_linked a b older)) && not (ends_session a b line))) hj

-- works after a line
pub few_more : (a : ℕ) (line : Line) (older : List Line) (was : ℕ) → was ≤ length older → (if ends_work a line then was + 1 else was) ≤ length (line ∷ older)
few_more a line older was h = by_end (ends_work a line)
  where
    by_end : (b : Bool) → (if b then was + 1 else was) ≤ length (line ∷ older)
    by_end true = omega (arith, h)
    by_end false = omega (arith, h)

pub ended_more : (a : ℕ) (line : Line) (older : List Line) (was : ℕ) → was ≡ ended a older → (if ends_work a line then was + 1 else was) ≡ ended a (line ∷ older)
ended_more a line older was h = ap (λ (n : ℕ). if ends_work a line then n + 1 else n) h

pub place_more : (a : ℕ) (line : Line) (older : List Line) (was : Place) → was ≡ place_of a older → (if is_of a line then next_place was line else was) ≡ place_of a (line ∷ older)
place_more a line older was h = ap (λ (w : Place). if is_of a line then next_place w line else w) h

pub killed_more : (a : ℕ) (line : Line) (older : List Line) (was : Bool) → was ≡ is_killed a older → (kills a line || was) ≡ is_killed a (line ∷ older)
killed_more a line older was h = ap (λ (w : Bool). kills a line || w) h

-- an actor that is still to come has ended few works
pub ended_few : (p : Plan) (line : Line) (older : List Line) (n : ℕ) (xs : List ActorTally) (d : ActorTally) → n < length xs → length older < 2147483648 → IsBetween (IsActorTally p (line ∷ older)) (IsActorTally p older) n xs
    → (get_or xs n d).ended < 4294967295
ended_few p line older n xs d low few so =
    let was : IsActorTally p older n (get_or xs n d) = next_left (IsActorTally p (line ∷ older)) (IsActorTally p older) n xs d low so in
    omega (arith, was.few, few)
