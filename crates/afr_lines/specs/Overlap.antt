-- Areas that are the same, and areas that overlap.
use Rattle.std.specs.Prelude.{◌==◌, ◌&&◌, Bool, false}
use Rattle.afr_lines.specs.Locks.{same_name, share_name, share_number}
use Rattle.afr_lines.specs.declared.request.Area.{Area}
use Rattle.afr_lines.specs.declared.request.Area.TheVariants.{Range, Name}

-- two areas are the same
abbrev pub same_area : Area → Area → Bool
same_area (Range g from to) (Range h start end) = (g.0 == h.0) && (from == start) && (to == end)
same_area (Name g n) (Name h m) = (g.0 == h.0) && same_name n m
same_area one other = false

-- two areas of one object overlap
abbrev pub overlap : Area → Area → Bool
overlap (Range g from to) (Range h start end) = (g.0 == h.0) && share_number from to start end
overlap (Name g n) (Name h m) = (g.0 == h.0) && share_name n m
overlap one other = false
