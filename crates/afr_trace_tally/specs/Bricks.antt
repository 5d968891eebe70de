-- What is kept of one brick, and what it says of a log.
use Rattle.std.specs.Prelude.{◌≡◌, ℕ, ◌≤◌, List, Some, length, slice_get}
use Rattle.afr_lines.specs.declared.line.Line.{Line}
use Rattle.afr_model.specs.Honest.{requests_to}
use Rattle.afr_model.specs.Locks.{locks_held}
use Rattle.afr_model.specs.Tables.{keeps_bytes}
use Rattle.afr_plan.specs.declared.plan.Plan.{Plan}
use Rattle.afr_trace_tables.specs.Plain.{plain_tables}
use Rattle.afr_trace_tally.specs.Counts.{AreCounted}
use Rattle.afr_trace_tally.specs.declared.bricks.BrickTally.{BrickTally}

-- what is kept of brick b is what the log has made of it
pub record IsBrickTally (p : Plan) (log : List Line) (b : ℕ) (t : BrickTally) : Type 0 where
  pub brick : t.brick ≡ record { keeps = keeps_bytes p b; objects = (plain_tables p log).now b }
  pub locks : t.locks.items ≡ locks_held b log
  pub requests : t.requests ≡ requests_to b log
  pub few : t.requests ≤ length log
  pub counts : AreCounted p log b t.counts

-- five bricks are kept
pub record AreBricks (p : Plan) (log : List Line) (bricks : List BrickTally) : Type 0 where
  pub five : length bricks ≡ 5
  pub each : (b : ℕ) (t : BrickTally) → slice_get bricks b ≡ Some t → IsBrickTally p log b t
