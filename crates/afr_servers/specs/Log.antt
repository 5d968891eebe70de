-- What the servers of a volume are of a log.
use Rattle.std.specs.Prelude.{◌≡◌, ℕ, List, Some, length, slice_get}
use Rattle.afr_lines.specs.declared.line.Line.{Line}
use Rattle.afr_plan.specs.declared.plan.Plan.{Plan}
use Rattle.afr_session.specs.Links.{link_of}
use Rattle.afr_server.specs.Log.{Finds, IsServed}
use Rattle.afr_server.specs.Serving.{Serving}
use Rattle.afr_servers.specs.Found.{epoch_at}
use Rattle.afr_servers.specs.declared.epochs.Epochs.{Epochs}

-- every server is what the log has made of its brick
pub record AreServed (p : Plan) (log : List Line) (servers : List Serving) : Type 0 where
  pub few : length servers ≡ p.shape.n
  pub each : (b : ℕ) (s : Serving) → slice_get servers b ≡ Some s → IsServed p log b s

-- the epochs that an actor found are those of its live sessions
abbrev pub AreFound : ℕ → Epochs → List Serving → Type 0
AreFound a epochs servers = (b : ℕ) (s : Serving) → slice_get servers b ≡ Some s → Finds (epoch_at b epochs) (link_of a s.links)
