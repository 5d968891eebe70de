-- What the law presumes of a log, and what follows from it for lines by their positions.
use Rattle.std.proofs.Common.{◌<◌, ◌≤◌, arith, List, ◌∷◌, false, length}
use Rattle.afr_lines.specs.Log.{EachLine}
use Rattle.afr_lines.specs.declared.line.Line.{Line}
use Rattle.afr_plan.specs.declared.plan.Plan.{Plan}
use Rattle.afr_model.specs.Following.{Follows}
use Rattle.afr_model.specs.Honest.{Honest as IsHonestLog, fault_in}
use Rattle.afr_model.specs.Replied.{Replied}
use Rattle.afr_model_moves.specs.Discipline.{LawfulExactly}
use Rattle.afr_model_moves.specs.Honest.{Honest}
use Rattle.afr_model_moves.specs.Positions.{by_position}
use Rattle.afr_law_tables.specs.Fits.{FitsSums}
use Rattle.afr_law.specs.Beginning.{start_of}
use Rattle.afr_law.specs.Exactly.{IsLawfulExactly, name_bound}
use Rattle.afr_law.proofs.Discipline.ByList.{exactly_lawful}
use Rattle.afr_law.proofs.Model.Discipline.{exactly_below}
use Rattle.afr_law.proofs.Model.Fits.{fits_sums}
use Rattle.afr_law.proofs.Model.Settles.{all_honest, take_within, within_before}
use Rattle.afr_law.proofs.Model.SoundLog.{LawfulBelow}

-- the premises of the law
pub record Sound (p : Plan) (log : List Line) : Type 0 where
  pub small : p.shape.n ≤ 5
  pub some : 0 < p.shape.n
  pub clients : length p.clients ≤ 16
  pub short : length log ≤ 4000000
  pub follows : Follows false p log
  pub honest : IsHonestLog p log
  pub lawful : IsLawfulExactly p log
  pub replied : Replied p log

pub sound_before : (p : Plan) (line : Line) (older : List Line) → Sound p (line ∷ older) → Sound p older
sound_before p line older s = record {
  small = s.small;
  some = s.some;
  clients = s.clients;
  short = (let k = s.short in omega (arith, k));
  follows = s.follows.1;
  honest = s.honest.1;
  lawful = s.lawful.1;
  replied = s.replied.1;
}

module _ (p : Plan) (log : List Line) (s : Sound p log) where
  pub sound_below : LawfulBelow p (name_bound p) log
  sound_below = exactly_below p log s.small s.short s.honest s.lawful

  pub sound_exactly : LawfulExactly p.shape.n (start_of p (name_bound p)) (by_position log)
  sound_exactly = exactly_lawful p.shape.n (start_of p (name_bound p)) log s.lawful

  pub sound_honest : Honest (start_of p (name_bound p)) (fault_in p.faults) (by_position log)
  sound_honest = all_honest p (name_bound p) s.small log sound_below s.honest (within_before p log (take_within p (name_bound p) s.small log sound_below s.honest))

  pub sound_fits : EachLine (FitsSums p) log
  sound_fits = fits_sums p (name_bound p) s.small log sound_below s.honest
