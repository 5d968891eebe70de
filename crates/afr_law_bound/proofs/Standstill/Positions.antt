-- The log by positions is honest and lawful, and its registers are those of the list.
use Rattle.std.proofs.Common.{◌≡◌, ℕ, sym, ◌∙◌, arith, List, ◌∷◌, length}
use Rattle.afr_lines.specs.Places as session
use Rattle.afr_lines.specs.Places.{place_of}
use Rattle.afr_lines.specs.declared.line.Line.{Line}
use Rattle.afr_law.proofs.Discipline.ByList.{exactly_lawful}
use Rattle.afr_law.proofs.Model.Discipline.{exactly_below}
use Rattle.afr_law.proofs.Model.Settles.{all_honest, take_within, within_before}
use Rattle.afr_law.proofs.Model.SoundLog.{LawfulBelow}
use Rattle.afr_law.specs.Beginning.{start_of}
use Rattle.afr_law.specs.Exactly.{name_bound}
use Rattle.afr_model.specs.Honest.{fault_in}
use Rattle.afr_model_moves.proofs.ByPosition.{newest_at, older_at}
use Rattle.afr_model_moves.proofs.Followed.{exact_same, force_is, register_is}
use Rattle.afr_model_moves.proofs.Places.{place_same}
use Rattle.afr_model_moves.specs.Discipline.{exact, in_force, present}
use Rattle.afr_model_moves.specs.Followed.{register_by}
use Rattle.afr_model_moves.specs.Past.{opens}
use Rattle.afr_model_moves.specs.Positions.{by_position}
use Rattle.afr_plan.specs.declared.plan.Plan.{Plan}
use Rattle.afr_law_bound.specs.Standstill.Law.{IsPresumed}
use Rattle.afr_law_tables.specs.Codes.{kept_by}
use Rattle.afr_law_bound.specs.Law.{IsFair}

pub fair : (p : Plan) (log : List Line) → IsPresumed p log → IsFair p.shape.n (start_of p (name_bound p)) (fault_in p.faults) (by_position log)
fair p log k =
    let below : LawfulBelow p (name_bound p) log = exactly_below p log k.few k.short k.honest k.lawful in
    record {
      few = (let f = k.few in omega (arith, f));
      honest = all_honest p (name_bound p) k.few log below k.honest (within_before p log (take_within p (name_bound p) k.few log below k.honest));
      moves = (exactly_lawful p.shape.n (start_of p (name_bound p)) log k.lawful).moves;
    }

module _ (p : Plan) where
  -- the register after these lines
  pub register_at : (a : ℕ) (log : List Line) → exact p.shape.n (kept_by p) (by_position log) (length log) a ≡ register_by p.shape.n (kept_by p) a log
  register_at a log = sym (register_is p.shape.n (kept_by p) a log)

  -- one line more leaves the register before it
  pub older_register : (a : ℕ) (line : Line) (older : List Line) → exact p.shape.n (kept_by p) (by_position (line ∷ older)) (length older) a ≡ register_by p.shape.n (kept_by p) a older
  older_register a line older = exact_same (by_position (line ∷ older)) (by_position older) (length older) (older_at line older) p.shape.n (kept_by p) a (length older) (omega arith) ∙ register_at a older

  -- the one in force at a line
  pub present_register : (a : ℕ) (line : Line) (older : List Line) → present p.shape.n (kept_by p) (by_position (line ∷ older)) (length older) a ≡ in_force (session.opens (place_of a older) line) (register_by p.shape.n (kept_by p) a older)
  present_register a line older =
      (λ i. in_force (opens (place_same (by_position (line ∷ older)) (by_position older) (length older) (older_at line older) a (length older) (omega arith) i) (newest_at line older i))
      (exact_same (by_position (line ∷ older)) (by_position older) (length older) (older_at line older) p.shape.n (kept_by p) a (length older) (omega arith) i))
      ∙ sym (force_is p.shape.n (kept_by p) a line older)
