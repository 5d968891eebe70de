-- A turn keeps the log lawful and each register at its actor's lines, for every kind of line.
use Rattle.std.proofs.Common.{◌≡◌, ℕ, ◌≤◌, ◌==◌, Bool, true, false, List, ◌∷◌, refl, sym, ◌∙◌, subst, arith, length, Some, if◌then◌else◌, inl, inr}
use Rattle.std.proofs.lemmas.Bool.{ne_eqb}
use Rattle.afr_base.specs.declared.ids.ActorId.{ActorId}
use Rattle.afr_base.specs.declared.ids.Shape.{Shape}
use Rattle.afr_base.proofs.TestLemmas.{same_number}
use Rattle.afr_lines.specs.Work.{is_of}
use Rattle.afr_lines.specs.declared.answer.Told.{Told}
use Rattle.afr_lines.specs.declared.line.Line.{Line}
use Rattle.afr_lines.specs.declared.line.Line.TheVariants as line_of
use Rattle.afr_model_moves.specs.Discipline.{note}
use Rattle.afr_model_moves.specs.Register.{Exact, untouched}
use Rattle.afr_model_moves.specs.Transaction.{MayEnd}
use Rattle.afr_discipline.specs.Inside.{may_move}
use Rattle.afr_discipline.specs.Moves.{MayMove, note_move}
use Rattle.afr_discipline.specs.Notes.{AsksBelow, noted}
use Rattle.afr_model_moves.specs.Keeps.{keeps_in}
use Rattle.afr_discipline.specs.Stands.{Stands, seen_as, HasFive}
use Rattle.afr_discipline.specs.declared.register.Move.{Move}
use Rattle.afr_discipline.specs.declared.register.Move.TheVariants as move
use Rattle.afr_discipline.specs.declared.register.Register.{Register}
use Rattle.afr_discipline.specs.Laws.{FreshStands, NotesStand, ShapesKept, TestsDecide}
use Rattle.afr_law_next.specs.Turn.{register_at, BeginsAnew, EachLineIsKept, GoesOn, InForce, IsLineOf, IsTurn, Stood}

pub begins_anew : FreshStands → BeginsAnew
begins_anew first shape a log line few opening = record { shape_is = refl; stands = rw opening (first shape few) }

pub goes_on : GoesOn
goes_on shape a log line p within k = record { shape_is = k.shape_is; stands = rw within k.stands }

module _ (decides : TestsDecide) (notes : NotesStand) (shapes : ShapesKept) (shape : Shape) (a : ActorId) (log : List Line) (p : Register) (few : shape.n ≤ 5) (five : HasFive p) where
  module _ (line : Line) (mine : is_of a.0 line ≡ true) (k : InForce shape a.0 log line p) where
    abbrev at : Exact
    at = register_at shape log line a.0

    few_p : p.shape.n ≤ 5
    few_p = subst (λ (s : Shape). s.n ≤ 5) (sym k.shape_is) few

    -- the line is a move of its actor
    moved : (step : Move) → may_move p.shape.n (keeps_in p.shape) (seen_as p) step ≡ true → MayMove shape.n (keeps_in shape) at step
    moved step may = subst (λ (s : Shape). MayMove s.n (keeps_in s) at step) k.shape_is ((decides p at step few_p k.stands).yes may)

    noted_now : (step : Move) (told : Told) → AsksBelow step → Stands (noted p step told (length log)) (note_move shape.n (keeps_in shape) at step told (length log))
    noted_now step told below = subst (λ (s : Shape). Stands (noted p step told (length log)) (note_move s.n (keeps_in s) at step told (length log))) k.shape_is (notes p at step told (length log) few_p five below k.stands)

    own_by : (step : Move) (told : Told) → note_move shape.n (keeps_in shape) at step told (length log) ≡ note shape.n (keeps_in shape) at (length log) (Some line) → AsksBelow step → Stood shape a.0 (line ∷ log) (noted p step told (length log))
    own_by step told same below = record { shape_is = shapes p step told (length log) ∙ k.shape_is; stands = rw mine (subst (λ (r : Exact). Stands (noted p step told (length log)) r) same (noted_now step told below)) }

    others_by : ((c : ℕ) → (a.0 ≡ c → ⊥) → is_of c line ≡ false) → (c : ℕ) (q : Register) → (a.0 ≡ c → ⊥) → Stood shape c log q → Stood shape c (line ∷ log) q
    others_by theirs c q h n = record { shape_is = n.shape_is; stands = rw (theirs c h) n.stands }

  pub kept_line : (step : Move) (told : Told) (line : Line) → InForce shape a.0 log line p → AsksBelow step → IsLineOf a p step told line → may_move p.shape.n (keeps_in p.shape) (seen_as p) step ≡ true → IsTurn shape a log p step told line
  kept_line (move.Ask b request) told line k below w may = rw w.1 (by (rw w.1 at k))
    where
      by : InForce shape a.0 log (line_of.Ask a b request.now told w.0) p → IsTurn shape a log p (move.Ask b request) told (line_of.Ask a b request.now told w.0)
      by k = let line = line_of.Ask a b request.now told w.0 in record {
        lawful = moved line (same_number a.0) k (move.Ask b request) may;
        own = own_by line (same_number a.0) k (move.Ask b request) told refl below;
        others = others_by line (same_number a.0) k (λ c h. ne_eqb a.0 c h);
      }
  kept_line (move.Begin change) told line k below w may = rw w (by (rw w at k))
    where
      by : InForce shape a.0 log (line_of.Begin a change.now) p → IsTurn shape a log p (move.Begin change) told (line_of.Begin a change.now)
      by k = let line = line_of.Begin a change.now in record {
        lawful = moved line (same_number a.0) k (move.Begin change) may;
        own = own_by line (same_number a.0) k (move.Begin change) told refl below;
        others = others_by line (same_number a.0) k (λ c h. ne_eqb a.0 c h);
      }
  kept_line (move.HealBegin g kind) told line k below w may = rw w (by (rw w at k))
    where
      by : InForce shape a.0 log (line_of.HealBegin a g kind) p → IsTurn shape a log p (move.HealBegin g kind) told (line_of.HealBegin a g kind)
      by k = let line = line_of.HealBegin a g kind in record {
        lawful = moved line (same_number a.0) k (move.HealBegin g kind) may;
        own = own_by line (same_number a.0) k (move.HealBegin g kind) told refl below;
        others = others_by line (same_number a.0) k (λ c h. ne_eqb a.0 c h);
      }
  kept_line (move.End ok) told line k below (inl w) may = rw w.is (by (subst (λ (line : Line). InForce shape a.0 log line p) w.is k))
    where
      by : InForce shape a.0 log (line_of.End a w.reply) p → IsTurn shape a log p (move.End ok) told (line_of.End a w.reply)
      by k = let line = line_of.End a w.reply in record {
        lawful = elim (moved line (same_number a.0) k (move.End ok) may) [
          | inl m ↦ subst (λ (ok : Bool). MayEnd shape.n (register_at shape log line a.0) ok) (sym w.says) m
          | inr m ↦ absurd (clash _ m.inside (k.stands.inside ∙ w.outside))
        ];
        own = own_by line (same_number a.0) k (move.End ok) told (pick _ (k.stands.inside ∙ w.outside)) below;
        others = others_by line (same_number a.0) k (λ c h. ne_eqb a.0 c h);
      }
        where
          clash : (f : Bool) → f ≡ true → f ≡ false → ⊥
          clash true a b = cc b
          clash false a b = cc a

          pick : (r : Exact) → r.law.heal ≡ false → (if r.law.heal then untouched else r) ≡ r
          pick r e = rw e refl
  kept_line (move.End ok) told line k below (inr w) may = rw w.is (by (subst (λ (line : Line). InForce shape a.0 log line p) w.is k))
    where
      by : InForce shape a.0 log (line_of.HealEnd a w.gfid w.kind w.reply) p → IsTurn shape a log p (move.End ok) told (line_of.HealEnd a w.gfid w.kind w.reply)
      by k = let line = line_of.HealEnd a w.gfid w.kind w.reply in record {
        lawful = elim (moved line (same_number a.0) k (move.End ok) may) [
          | inl m ↦ absurd (clash _ (k.stands.inside ∙ w.inside) m.outside)
          | inr m ↦ m
        ];
        own = own_by line (same_number a.0) k (move.End ok) told (pick _ (k.stands.inside ∙ w.inside)) below;
        others = others_by line (same_number a.0) k (λ c h. ne_eqb a.0 c h);
      }
        where
          clash : (f : Bool) → f ≡ true → f ≡ false → ⊥
          clash true a b = cc b
          clash false a b = cc a

          pick : (r : Exact) → r.law.heal ≡ true → (if r.law.heal then untouched else r) ≡ untouched
          pick r e = rw e refl

pub each_line_is_kept : TestsDecide → NotesStand → ShapesKept → EachLineIsKept
each_line_is_kept decides notes shapes shape a log p step told line few five k below w may = kept_line decides notes shapes shape a log p few five step told line k below w may
