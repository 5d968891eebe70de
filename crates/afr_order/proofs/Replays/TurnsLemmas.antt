-- A plan that can be run can be run with other turns.
use Rattle.std.proofs.Common.{ℕ, ◌≤◌}
use Rattle.afr_law_runnable.specs.Runnable.{IsRunnable}
use Rattle.afr_plan.specs.declared.plan.Plan.{Plan}

pub runs_with : (p : Plan) (turns : ℕ) → 1 ≤ turns → turns ≤ 4000000 → IsRunnable p → IsRunnable (record p { turns = turns })
runs_with p turns some few r = record {
  shape = r.shape;
  files = r.files;
  gfids = r.gfids;
  some_turns = some;
  turns = few;
  clients = r.clients;
  scripts = r.scripts;
  healers = r.healers;
  rounds = r.rounds;
  events = r.events;
  go = r.go;
  names = r.names;
}
