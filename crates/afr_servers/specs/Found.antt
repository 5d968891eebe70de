-- The epochs that an actor found, brick by brick.
use Rattle.std.specs.Prelude.{ℕ, Option, None, slice_index_or}
use Rattle.afr_servers.specs.declared.epochs.Epochs.{Epochs}

-- the epoch that was found at brick b
abbrev pub epoch_at : ℕ → Epochs → Option ℕ
epoch_at b epochs = slice_index_or epochs.of b None
