-- Where names that are the same, and names that overlap, stand.
use Rattle.std.proofs.Common.{◌≡◌, ℕ, ◌+◌, ◌<◌, ◌^◌, ◌==◌, true, refl, sym, ap, subst, ◌∙◌, Option, Some, None, arith, eqb-true}
use Rattle.std.proofs.lemmas.Bool.{and_parts}
use Rattle.std.proofs.lemmas.Bool.Decides.{nat_tests}
use Rattle.afr_base.specs.declared.ids.NameId.{NameId}
use Rattle.afr_lines.specs.Locks.{same_name, share_name}
use Rattle.afr_name_locks.specs.Names.{overlap_dir_name, place_of, same_dir_name, start_of}
use Rattle.afr_name_locks.specs.declared.names.DirName.{DirName}
use Rattle.afr_range_locks.specs.Reached.{reaches}
use Rattle.afr_range_locks.specs.ReachedLemmas.{same_gfid, same_place}

same_start : (one other : Option NameId) → same_name one other ≡ true → start_of other ≡ start_of one
same_start None None e = refl
same_start (Some n) (Some m) e = ap (λ (x : ℕ). x + 1) (sym (eqb-true n.0 m.0 e))
same_start (Some n) None e = absurd (cc)
same_start None (Some m) e = absurd (cc)

pub at_one_place : (one other : DirName) → same_dir_name one other ≡ true → place_of other ≡ place_of one
at_one_place one other e =
    let p = and_parts (one.gfid.0 == other.gfid.0) (same_name one.name other.name) e in
    same_place (place_of one) (place_of other) (same_gfid one.gfid other.gfid p.0) (same_start one.name other.name p.1)

pub on_one_directory : (one other : DirName) → overlap_dir_name one other ≡ true → (place_of other).gfid ≡ (place_of one).gfid
on_one_directory one other e = same_gfid one.gfid other.gfid (and_parts (one.gfid.0 == other.gfid.0) (share_name one.name other.name) e).0

pub whole_reaches : (start : ℕ) → start < 2 ^ 64 → reaches (record { first = record { from = 0; to = 18446744073709551615 }; second = None }) start ≡ true
whole_reaches start h = grind (arith, nat_tests, h)

itself : (n m : ℕ) → n ≡ m → reaches (record { first = record { from = n; to = n }; second = Some (record { from = 0; to = 0 }) }) m ≡ true
itself n m e = grind (arith, nat_tests, e)

nothing : (n : ℕ) → reaches (record { first = record { from = n; to = n }; second = Some (record { from = 0; to = 0 }) }) 0 ≡ true
nothing n = grind (arith, nat_tests)

name_reaches : (n : NameId) (other : Option NameId) → share_name (Some n) other ≡ true → reaches (record { first = record { from = n.0 + 1; to = n.0 + 1 }; second = Some (record { from = 0; to = 0 }) }) (start_of other) ≡ true
name_reaches n None e = nothing (n.0 + 1)
name_reaches n (Some m) e = itself (n.0 + 1) (m.0 + 1) (ap (λ (x : ℕ). x + 1) (eqb-true n.0 m.0 e))

-- a name's own start, and that of the whole directory
pub of_a_name : (one other : DirName) (n : NameId) (start : ℕ) → one.name ≡ Some n → start ≡ start_of one.name → overlap_dir_name one other ≡ true
    → reaches (record { first = record { from = start; to = start }; second = Some (record { from = 0; to = 0 }) }) (place_of other).start ≡ true
of_a_name one other n start is begins e =
    let shared = (and_parts (one.gfid.0 == other.gfid.0) (share_name one.name other.name) e).1 in
    let first : n.0 + 1 ≡ start = sym (begins ∙ ap start_of is) in
    subst (λ (x : ℕ). reaches (record { first = record { from = x; to = x }; second = Some (record { from = 0; to = 0 }) }) (place_of other).start ≡ true) first
    (name_reaches n other.name (subst (λ (x : Option NameId). share_name x other.name ≡ true) is shared))
