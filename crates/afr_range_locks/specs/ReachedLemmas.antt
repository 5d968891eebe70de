-- Equal places, in lemmas that the proofs of other crates can cite.
use Rattle.std.proofs.Common.{◌≡◌, ℕ, ◌==◌, true, ap, ap₂, sym, eqb-true}
use Rattle.afr_base.specs.declared.ids.Gfid.{Gfid}
use Rattle.afr_range_locks.specs.declared.lockable.Place.{Place}

-- two gfids with one number are the same
pub same_gfid : (g h : Gfid) → (g.0 == h.0) ≡ true → h ≡ g
same_gfid g h e = ap (λ (n : ℕ). let x : Gfid = record { 0 = n } in x) (sym (eqb-true g.0 h.0 e))

-- two places on one object with one start are the same
pub same_place : (one other : Place) → other.gfid ≡ one.gfid → other.start ≡ one.start → other ≡ one
same_place one other gfid start = ap₂ (λ (g : Gfid) (s : ℕ). let x : Place = record { gfid = g; start = s } in x) gfid start
