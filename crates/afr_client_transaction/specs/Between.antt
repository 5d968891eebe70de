-- What a work does between the looks of its transaction and the attempt.
use Rattle.std.specs.Prelude.{ℕ, Bool, true, false}
use Rattle.afr_lines.specs.declared.answer.Told.{Told}
use Rattle.afr_lines.specs.declared.request.Request.{Request}
use Rattle.afr_lines.specs.declared.request.Request.TheVariants.{ReadName, ReadBytes, ReadAttr, List as ListNames}
use Rattle.afr_discipline.specs.Notes.{noted_ask}
use Rattle.afr_client_transaction.specs.Progress.{TransactionProgress, on_stage}
use Rattle.afr_client_transaction.specs.declared.stage.Stage.TheVariants.{Closing}

-- a read of a name, of bytes, of an attribute or of all names
abbrev pub is_read : Request → Bool
is_read (ReadName g name) = true
is_read (ReadBytes g at len) = true
is_read (ReadAttr g key) = true
is_read (ListNames g) = true
is_read other = false

-- a read was told this at this position: the register notes it
abbrev pub noted_read : ℕ → Request → Told → ℕ → TransactionProgress → TransactionProgress
noted_read b asked told at m = record { change = m.change; register = noted_ask m.register at b asked told; stage = m.stage; asked = m.asked }

-- the change is given up: what is left is to release the locks
abbrev pub given_up : TransactionProgress → TransactionProgress
given_up m = on_stage Closing m
