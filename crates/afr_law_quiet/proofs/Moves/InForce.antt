-- What the register in force at a line of a heal says, by the laws of the discipline.
use Rattle.afr_law.proofs.Discipline.Firsts.{FirstsOf, firsts_now}
use Rattle.afr_law.proofs.Discipline.Projection.{tally_at}
use Rattle.afr_law.proofs.Discipline.StagesAlong.{StageOf, stage_now}
use Rattle.afr_law.proofs.Heals.Answers.{Honestly, honestly}
use Rattle.afr_law.proofs.Heals.Areas.{AreasIn, areas_now}
use Rattle.afr_law.proofs.Heals.Raises.{RaisesIn, raises_now}
use Rattle.afr_law.proofs.Model.Discipline.{exactly_below}
use Rattle.afr_law.proofs.Model.Settles.{all_honest, take_within, within_before}
use Rattle.afr_law.proofs.Model.SoundLog.{LawfulBelow}
use Rattle.afr_law.specs.Beginning.{start_of}
use Rattle.afr_law.specs.Exactly.{name_bound}
use Rattle.afr_lines.specs.declared.line.Line.{Line}
use Rattle.afr_model.specs.Honest.{fault_in}
use Rattle.afr_model_moves.specs.Positions.{by_position}
use Rattle.afr_model_moves.specs.Register.{Exact}
use Rattle.afr_model_moves.specs.Tally.{Tally}
use Rattle.afr_plan.specs.declared.plan.Plan.{Plan}
use Rattle.afr_law_quiet.proofs.Moves.Along.{Premises, force, moves_of, present_is, reg}
use Rattle.afr_law_tables.specs.Codes.{kept_by}
use Rattle.std.proofs.Common.{◌≡◌, ℕ, true, false, ap, ◌∙◌, subst, List, ◌∷◌, length}

module _ (p : Plan) (a : ℕ) where
  -- who was reached by the first looks
  pub firsts_of : (line : Line) (older : List Line) → Premises p (line ∷ older) → force p a line older ≡ reg p a older → FirstsOf (reg p a older)
  firsts_of line older k same = subst FirstsOf (present_is p a line older ∙ same) (firsts_now p.shape.n (kept_by p) (by_position (line ∷ older)) (moves_of p a (line ∷ older) k) (length older) a).0

  -- the heal's stage
  pub stage_of : (line : Line) (older : List Line) → Premises p (line ∷ older) → force p a line older ≡ reg p a older → StageOf (reg p a older)
  stage_of line older k same = subst StageOf (present_is p a line older ∙ same) (stage_now p.shape.n (kept_by p) (by_position (line ∷ older)) (moves_of p a (line ∷ older) k) (length older) a)

  -- by positions the log is honest
  pub honest_of : (log : List Line) → Premises p log → Honestly (by_position log)
  honest_of log k = honestly (start_of p (name_bound p)) (fault_in p.faults) (by_position log) (all_honest p (name_bound p) k.five log below k.honest (within_before p log (take_within p (name_bound p) k.five log below k.honest)))
    where
      below : LawfulBelow p (name_bound p) log
      below = exactly_below p log k.five k.short k.honest k.lawful

  -- the area of the part
  pub areas_of : (line : Line) (older : List Line) → Premises p (line ∷ older) → force p a line older ≡ reg p a older → (reg p a older).law.heal ≡ true → (reg p a older).broken ≡ false → AreasIn (reg p a older) (reg p a older).law
  areas_of line older k same inside whole = (
      let at = present_is p a line older ∙ same in
      subst (λ (r : Exact). AreasIn r r.law) at (areas_now p.shape.n (kept_by p) (by_position (line ∷ older)) (moves_of p a (line ∷ older) k) (length older) a (ap (λ (r : Exact). r.law.heal) at ∙ inside) (ap (λ (r : Exact). r.broken) at ∙ whole))
      )

  -- the bricks where a Pre was done
  pub raises_of : (line : Line) (older : List Line) → Premises p (line ∷ older) → force p a line older ≡ reg p a older → (reg p a older).law.heal ≡ true → (reg p a older).broken ≡ false → (t : Tally) × RaisesIn p.shape.n (kept_by p) (reg p a older) (reg p a older).law t
  raises_of line older k same inside whole = (
      let at = present_is p a line older ∙ same in (
        tally_at (by_position (line ∷ older)) (length older) a,
        subst (λ (r : Exact). RaisesIn p.shape.n (kept_by p) r r.law (tally_at (by_position (line ∷ older)) (length older) a)) at
            (raises_now p.shape.n (kept_by p) (by_position (line ∷ older)) (honest_of (line ∷ older) k) (moves_of p a (line ∷ older) k) (length older) a (ap (λ (r : Exact). r.law.heal) at ∙ inside) (ap (λ (r : Exact). r.broken) at ∙ whole)),
      )
      )
