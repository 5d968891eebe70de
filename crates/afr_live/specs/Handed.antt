-- What a run by threads hands back.
use Rattle.std.specs.Prelude.{ℕ, Result, Ok, Err}
use Rattle.afr_base.specs.declared.memory.NoMemory.{NoMemory}
use Rattle.afr_volume.specs.State.{State}

-- the volume: beside the number of works that ended, or beside want of memory
abbrev pub volume_of : Result (State × ℕ) (State × NoMemory) → State
volume_of (Ok ran) = ran.0
volume_of (Err stopped) = stopped.0
