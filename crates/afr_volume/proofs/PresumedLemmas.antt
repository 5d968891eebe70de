-- A volume keeps what the laws on the end of a run presume.
use Rattle.std.proofs.Common.{◌≤◌, List, length, arith}
use Rattle.afr_law_bound.specs.Standstill.Law.{IsPresumed}
use Rattle.afr_lines.specs.declared.line.Line.{Line}
use Rattle.afr_plan.specs.declared.plan.Plan.{Plan}
use Rattle.afr_volume.specs.Right.{IsRight}

-- how large a plan is that a volume runs
pub record IsSmall (p : Plan) : Type 0 where
  pub few : p.shape.n ≤ 5
  pub clients : length p.clients ≤ 16
  pub healers : length p.healers ≤ 3
  pub turns : p.turns ≤ 4000000

-- what the laws on the end of a run presume is kept by a volume
pub kept_of : (p : Plan) (log : List Line) → IsSmall p → length log ≤ p.turns → IsRight p log → IsPresumed p log
kept_of p log small room right = record {
  few = small.few;
  clients = small.clients;
  healers = small.healers;
  short = omega (arith, room, small.turns);
  follows = right.follows;
  honest = right.honest;
  lawful = right.lawful;
  rising = right.rising;
}
