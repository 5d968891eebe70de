-- What a crawl by threads hands back.
use Rattle.std.specs.Prelude.{Result, Ok, Err}
use Rattle.afr_base.specs.declared.memory.NoMemory.{NoMemory}
use Rattle.afr_volume.specs.State.{State}

-- the volume: alone, or beside want of memory
abbrev pub handed : Result State (State × NoMemory) → State
handed (Ok s) = s
handed (Err stopped) = stopped.0
