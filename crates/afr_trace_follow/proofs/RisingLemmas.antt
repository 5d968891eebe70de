-- The objects of a brick stand in the order of their gfids, as maps have it.
use Rattle.std.proofs.Common.{◌≡◌, ℕ, ◌<◌, ◌==◌, arith, List, [], ◌∷◌}
use Rattle.std.proofs.lemmas.Bool.Decides.{nat_tests}
use Rattle.std.specs.List.{AllByRecursion}
use Rattle.std.specs.List.Sorted.{IsStrictlySortedBy}
use Rattle.std.specs.Map.{keys_of}
use Rattle.std.specs.declared.cmp.Ordering.TheVariants.{Less}
use Rattle.afr_base.specs.declared.ids.Gfid.{Gfid}
use Rattle.afr_object.specs.Tables.{Table, gfid_cmp}
use Rattle.afr_lines.specs.declared.line.Line.{Line}
use Rattle.afr_model.proofs.Rises.{AreAbove, Rises, rising}
use Rattle.afr_model.specs.Tables.{holds}
use Rattle.afr_plan.specs.declared.plan.Plan.{Plan}

less_cmp : (g k : Gfid) → g.0 < k.0 → gfid_cmp g k ≡ Less
less_cmp g k h = grind (arith, nat_tests, h)

above_all : (g : Gfid) (t : Table) → AreAbove g.0 t → AllByRecursion (λ y. gfid_cmp g y ≡ Less) (keys_of t)
above_all g [] h = tt
above_all g (x ∷ t) h = (less_cmp g x.0 h.0, above_all g t h.1)

strictly : (t : Table) → Rises t → IsStrictlySortedBy gfid_cmp (keys_of t)
unfolding IsStrictlySortedBy
strictly [] h = tt
strictly (x ∷ t) h = (above_all x.0 t h.0, strictly t h.1)

pub sorted : (p : Plan) (log : List Line) (b : ℕ) → IsStrictlySortedBy gfid_cmp (keys_of (holds p log b))
sorted p log b = strictly (holds p log b) (rising p log b)
