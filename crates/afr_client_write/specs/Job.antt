-- What a client changes of an object, and what rules it out.
use Rattle.std.specs.Prelude.{◌==◌, ◌+◌, ◌<◌, ◌≤◌, ◌^◌, nat_lt, Bool, true, false, length}
use Rattle.afr_base.specs.declared.ids.Gfid.{Gfid}
use Rattle.afr_object.specs.declared.change.Change.{Change}
use Rattle.afr_object.specs.declared.change.Change.TheVariants as change
use Rattle.afr_client_write.specs.declared.job.WriteJob.{WriteJob}
use Rattle.afr_client_write.specs.declared.job.WriteJob.TheVariants.{Write, Cut, SetAttr}

-- the change of an object that a job asks for
abbrev pub change_of : Gfid → WriteJob → Change
change_of g (Write at bytes) = change.Write g at bytes
change_of g (Cut len) = change.Cut g len
change_of g (SetAttr key value) = change.SetAttr g key value

-- a write that ends past the largest size of a file
abbrev pub is_too_large : WriteJob → Bool
is_too_large (Write at bytes) = nat_lt 1048576 (at + length bytes)
is_too_large job = false

-- there is nothing to write
abbrev pub is_empty : WriteJob → Bool
is_empty (Write at bytes) = length bytes == 0
is_empty job = false

-- only a file has bytes to change; attributes are of files and directories
abbrev pub is_of_bytes : WriteJob → Bool
is_of_bytes (Write at bytes) = true
is_of_bytes (Cut len) = true
is_of_bytes (SetAttr key value) = false

-- a write ends in the largest size of a file, and a cut keeps as many bytes as its number can say
abbrev pub IsJob : WriteJob → Type 0
IsJob (Write at bytes) = at + length bytes ≤ 1048576
IsJob (Cut len) = len < 2 ^ 32
IsJob (SetAttr key value) = Unit {0}
