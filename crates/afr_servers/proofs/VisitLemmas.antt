-- What becomes of the sessions that a visit has met.
use Rattle.std.specs.Prelude.{ℕ, Bool, true, false, List}
use Rattle.afr_server.specs.Serving.{Serving}
use Rattle.afr_servers.specs.Log.{AreFound}
use Rattle.afr_servers.specs.Visiting.{AreInSession}
use Rattle.afr_servers.specs.declared.epochs.Epochs.{Epochs}

-- where what was found stays so, the visit stays in session
pub session_on : (met : Bool) (a : ℕ) (epochs : Epochs) (old new : List Serving) → (AreFound a epochs old → AreFound a epochs new) → AreInSession met a epochs old → AreInSession met a epochs new
session_on true a epochs old new found k = found k
session_on false a epochs old new found k = tt
