-- Names of directories as locks cover them: one name, or the whole directory.
use Rattle.std.specs.Prelude.{ℕ, ◌+◌, ◌==◌, ◌&&◌, Bool, Option, Some, None}
use Rattle.afr_base.specs.declared.ids.ActorId.{ActorId}
use Rattle.afr_base.specs.declared.ids.Gfid.{Gfid}
use Rattle.afr_base.specs.declared.ids.NameId.{NameId}
use Rattle.afr_lines.specs.Locks.{same_name, share_name}
use Rattle.afr_lines.specs.declared.lock.Domain.{Domain}
use Rattle.afr_lines.specs.declared.lock.HeldLock.{HeldLock}
use Rattle.afr_name_locks.specs.declared.names.DirName.{DirName}
use Rattle.afr_range_locks.specs.declared.lockable.Place.{Place}

-- two names are of one directory and can't both be locked
abbrev pub overlap_dir_name : DirName → DirName → Bool
overlap_dir_name one other = (one.gfid.0 == other.gfid.0) && share_name one.name other.name

-- two names are of one directory and the same
abbrev pub same_dir_name : DirName → DirName → Bool
same_dir_name one other = (one.gfid.0 == other.gfid.0) && same_name one.name other.name

-- where a name stands in the order of its directory's names; the whole directory comes first
abbrev pub start_of : Option NameId → ℕ
start_of None = 0
start_of (Some n) = n.0 + 1

-- where what is locked stands
abbrev pub place_of : DirName → Place
place_of name = record { gfid = name.gfid; start = start_of name.name }

-- a lock of an owner in a domain on a name of a directory
abbrev pub name_lock : ActorId → Domain → Gfid → Option NameId → HeldLock DirName
name_lock owner domain g name = record { owner = owner; domain = domain; area = record { gfid = g; name = name } }
