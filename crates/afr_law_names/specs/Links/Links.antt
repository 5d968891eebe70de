-- A name is made for the file that a rename's first path has led to.
use Rattle.std.specs.Prelude.{◌≤◌, List, Some, length}
use Rattle.afr_base.specs.declared.ids.ActorId.{ActorId}
use Rattle.afr_base.specs.declared.ids.Gfid.{Gfid}
use Rattle.afr_base.specs.declared.ids.NameId.{NameId}
use Rattle.afr_base.specs.declared.ids.What.TheVariants.{File}
use Rattle.afr_object.specs.declared.change.Change.TheVariants.{Make}
use Rattle.afr_lines.specs.Work.{work}
use Rattle.afr_lines.specs.declared.line.Line.{Line}
use Rattle.afr_lines.specs.declared.line.Line.TheVariants.{Begin}
use Rattle.afr_model.specs.Honest.{Honest}
use Rattle.afr_plan.specs.declared.plan.Plan.{Plan}
use Rattle.afr_model_moves.specs.Discipline.{BeginsKnown}
use Rattle.afr_model_moves.specs.Positions.{by_position}
use Rattle.afr_law.specs.Beginning.{start_of}
use Rattle.afr_law.specs.Exactly.{IsLawfulExactly, name_bound}
use Rattle.afr_model.specs.Renamed.{HasFound}

-- the file that the first path has led to is known to the discipline
abbrev pub FoundIsKnown : Type 0
FoundIsKnown =
    (p : Plan) (a : ActorId) (log : List Line) (from : List NameId) (g dir : Gfid) (name : NameId) → p.shape.n ≤ 5 → length log ≤ 4000000 → Honest p log → IsLawfulExactly p log
    → HasFound p from g (work a.0 log) → BeginsKnown (start_of p (name_bound p)) (by_position log) (length log) (Some (Begin a (Make dir name g File)))
