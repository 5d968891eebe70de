-- What a log of the volume is known to keep.
use Rattle.std.proofs.Common.{◌<◌, ◌≤◌, List, ◌∷◌, false, length, arith}
use Rattle.afr_lines.specs.declared.line.Line.{Line}
use Rattle.afr_plan.specs.declared.plan.Plan.{Plan}
use Rattle.afr_model.specs.Following.{Follows}
use Rattle.afr_model.specs.Honest.{Honest, fault_in}
use Rattle.afr_model.specs.Replied.{Replied}
use Rattle.afr_model.specs.Sums.{AreSums}
use Rattle.afr_law_tables.specs.Codes.{kept_by}
use Rattle.afr_law.specs.Beginning.{start_of}
use Rattle.afr_law.specs.Exactly.{IsLawfulExactly, name_bound}
use Rattle.afr_law.proofs.Discipline.ByList.{exactly_lawful}
use Rattle.afr_law.proofs.Heals.Answers.{Honestly, honestly}
use Rattle.afr_law.proofs.Model.Discipline.{exactly_below}
use Rattle.afr_law.proofs.Model.Fits.{exact_sums}
use Rattle.afr_law.proofs.Model.Settles.{all_honest, take_within, within_before}
use Rattle.afr_model_moves.specs.Discipline.{MovesExactly}
use Rattle.afr_model_moves.specs.Honest as position
use Rattle.afr_model_moves.specs.Positions.{by_position}

-- a log of a plan that follows it, is honest, keeps the discipline in full, and whose replies have their causes
pub record Premises (p : Plan) (log : List Line) : Type 0 where
  pub five : p.shape.n ≤ 5
  pub some : 0 < p.shape.n
  pub short : length log ≤ 4000000
  pub follows : Follows false p log
  pub honest : Honest p log
  pub lawful : IsLawfulExactly p log
  pub replied : Replied p log

-- and so it was a line earlier
pub shorter : (p : Plan) (line : Line) (older : List Line) → Premises p (line ∷ older) → Premises p older
shorter p line older q = record { five = q.five; some = q.some; short = (let k = q.short in omega (arith, k)); follows = q.follows.1; honest = q.honest.1; lawful = q.lawful.1; replied = q.replied.1 }

pub sums : (p : Plan) (log : List Line) → Premises p log → AreSums p log
sums p log q = (exact_sums p log q.five q.short q.honest q.lawful).1

pub moves : (p : Plan) (log : List Line) → Premises p log → MovesExactly p.shape.n (kept_by p) (by_position log)
moves p log q = (exactly_lawful p.shape.n (start_of p (name_bound p)) log q.lawful).moves

pub told : (p : Plan) (log : List Line) → Premises p log → position.Honest (start_of p (name_bound p)) (fault_in p.faults) (by_position log)
told p log q = (
    let below = exactly_below p log q.five q.short q.honest q.lawful in
    all_honest p (name_bound p) q.five log below q.honest (within_before p log (take_within p (name_bound p) q.five log below q.honest))
    )

pub honest_lines : (p : Plan) (log : List Line) → Premises p log → Honestly (by_position log)
honest_lines p log q = honestly (start_of p (name_bound p)) (fault_in p.faults) (by_position log) (told p log q)
