-- Where ranges that are the same, and ranges that overlap, stand.
use Rattle.std.proofs.Common.{◌≡◌, ℕ, ◌-◌, ◌<◌, ◌==◌, ◌&&◌, true, sym, None, arith, eqb-true}
use Rattle.std.proofs.lemmas.Bool.{and_parts}
use Rattle.std.proofs.lemmas.Bool.Decides.{nat_tests}
use Rattle.afr_lines.specs.Locks.{share_number}
use Rattle.afr_range_locks.proofs.NumberLemmas.{begins}
use Rattle.afr_range_locks.specs.Locks.{overlap_range, place_of, same_range}
use Rattle.afr_range_locks.specs.Reached.{reaches}
use Rattle.afr_range_locks.specs.ReachedLemmas.{same_gfid, same_place}
use Rattle.afr_range_locks.specs.declared.ranges.ObjectRange.{ObjectRange}

pub at_one_place : (one other : ObjectRange) → same_range one other ≡ true → place_of other ≡ place_of one
at_one_place one other e =
    let p = and_parts (one.gfid.0 == other.gfid.0) (one.from == other.from) (and_parts ((one.gfid.0 == other.gfid.0) && (one.from == other.from)) (one.to == other.to) e).0 in
    same_place (place_of one) (place_of other) (same_gfid one.gfid other.gfid p.0) (sym (eqb-true one.from other.from p.1))

pub on_one_object : (one other : ObjectRange) → overlap_range one other ≡ true → (place_of other).gfid ≡ (place_of one).gfid
on_one_object one other e = same_gfid one.gfid other.gfid (and_parts (one.gfid.0 == other.gfid.0) (share_number one.from one.to other.from other.to) e).0

reached : (to last start : ℕ) → last ≡ to - 1 → start < to → reaches (record { first = record { from = 0; to = last }; second = None }) start ≡ true
reached to last start is h = grind (arith, nat_tests, is, h)

pub within_reach : (one other : ObjectRange) (last : ℕ) → last ≡ one.to - 1 → overlap_range one other ≡ true → reaches (record { first = record { from = 0; to = last }; second = None }) (place_of other).start ≡ true
within_reach one other last is e = reached one.to last other.from is (begins one.from one.to other.from other.to (and_parts (one.gfid.0 == other.gfid.0) (share_number one.from one.to other.from other.to) e).1).1
