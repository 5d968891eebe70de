-- Locks on ranges: which overlap.
use Rattle.std.specs.Prelude.{ℕ, ◌==◌, ◌&&◌, Bool}
use Rattle.afr_base.specs.declared.ids.ActorId.{ActorId}
use Rattle.afr_base.specs.declared.ids.Gfid.{Gfid}
use Rattle.afr_lines.specs.Locks.{share_number}
use Rattle.afr_lines.specs.declared.lock.Domain.{Domain}
use Rattle.afr_lines.specs.declared.lock.HeldLock.{HeldLock}
use Rattle.afr_range_locks.specs.declared.lockable.Place.{Place}
use Rattle.afr_range_locks.specs.declared.ranges.ObjectRange.{ObjectRange}

-- two ranges of one object share a number
abbrev pub overlap_range : ObjectRange → ObjectRange → Bool
overlap_range one other = (one.gfid.0 == other.gfid.0) && share_number one.from one.to other.from other.to

-- two ranges are the same
abbrev pub same_range : ObjectRange → ObjectRange → Bool
same_range one other = (one.gfid.0 == other.gfid.0) && (one.from == other.from) && (one.to == other.to)

-- where a range stands
abbrev pub place_of : ObjectRange → Place
place_of range = record { gfid = range.gfid; start = range.from }

-- a lock of an owner in a domain on a range of an object
abbrev pub range_lock : ActorId → Domain → Gfid → ℕ → ℕ → HeldLock ObjectRange
range_lock owner domain g from to = record { owner = owner; domain = domain; area = record { gfid = g; from = from; to = to } }
