-- The locks that an actor needs for a request that changes something, in the words of the law of lawful requests.
use Rattle.std.specs.Prelude.{◌++◌, List, map, Option, Some, None}
use Rattle.afr_base.specs.declared.ids.ActorId.{ActorId}
use Rattle.afr_lines.specs.declared.request.Area.{Area}
use Rattle.afr_lines.specs.declared.request.Area.TheVariants.{Range, Name}
use Rattle.afr_lines.specs.declared.request.Request.{Request}
use Rattle.afr_lines.specs.declared.request.Request.TheVariants.{Apply}
use Rattle.afr_model_moves.specs.Covering.{HasItsLocks}
use Rattle.afr_name_locks.specs.declared.names.DirName.{DirName}
use Rattle.afr_object.specs.declared.change.Change.{Change}
use Rattle.afr_object.specs.declared.change.Load.{Load}
use Rattle.afr_object.specs.declared.change.Load.TheVariants as load
use Rattle.afr_lines.specs.declared.lock.HeldLock.{HeldLock}
use Rattle.afr_range_locks.specs.declared.ranges.ObjectRange.{ObjectRange}
use Rattle.afr_server.specs.Serving.{Serving}

-- a lock on a range, and one on a name, as locks on areas
abbrev pub of_range : HeldLock ObjectRange → HeldLock Area
of_range lock = record { owner = lock.owner; domain = lock.domain; area = Range lock.area.gfid lock.area.from lock.area.to }

-- a lock of a name as a lock of an area
abbrev pub of_name : HeldLock DirName → HeldLock Area
of_name lock = record { owner = lock.owner; domain = lock.domain; area = Name lock.area.gfid lock.area.name }

-- all locks of the server: those on ranges, then those on names
abbrev pub locks_of : Serving → List (HeldLock Area)
locks_of s = map of_range s.ranges ++ map of_name s.names

-- the change that comes with an operation
abbrev pub change_with : Request → Load → Option Change
change_with (Apply attempt) (load.Change change) = Some change.now
change_with request load = None

-- a request that changes something is asked under a Work lock that covers it, a settling under the Heal lock too
abbrev pub IsUnderLocks : ActorId → Request → Load → Serving → Type 0
IsUnderLocks a request load s = HasItsLocks (locks_of s) a request (change_with request load)
