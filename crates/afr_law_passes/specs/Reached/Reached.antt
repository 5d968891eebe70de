-- What passes of quiet rounds leave of what names lead to from the root.
use Rattle.std.specs.Prelude.{◌≡◌, ℕ, zero, suc, ◌<◌, ◌≤◌, List, [], ◌∷◌, false, Some, length}
use Rattle.afr_base.specs.Bricks.{below}
use Rattle.afr_base.specs.declared.ids.BrickId.{BrickId}
use Rattle.afr_base.specs.declared.ids.Gfid.{Gfid}
use Rattle.afr_base.specs.declared.ids.Kind.{Kind}
use Rattle.afr_base.specs.declared.ids.Kind.TheVariants.{Names}
use Rattle.afr_base.specs.declared.ids.NameId.{NameId}
use Rattle.afr_base.specs.declared.ids.What.{What}
use Rattle.afr_object.specs.Tables.{root}
use Rattle.afr_lines.specs.Log.{EveryPrefix}
use Rattle.afr_lines.specs.declared.line.Line.{Line}
use Rattle.afr_plan.specs.declared.plan.Plan.{Plan}
use Rattle.afr_model.specs.Following.{Follows}
use Rattle.afr_model.specs.Honest.{Honest}
use Rattle.afr_model.specs.Replied.{Replied}
use Rattle.afr_model.specs.Splits.{IsSplit}
use Rattle.afr_model.specs.Tables.{entry_at, holds}
use Rattle.afr_law_quiet.specs.Rounds.Whole.{RoundsAreLow}
use Rattle.afr_law_passes.specs.Converged.{AreAll, AreRounds, IsConverged, IsEverywhereAs, IsKindOf}
use Rattle.afr_law.specs.Exactly.{IsLawfulExactly}

-- ---- passes
-- after the start come undisturbed rounds at all bricks, one right after the other
pub record IsPass (p : Plan) (start log : List Line) : Type 0 where
  pub bricks : List BrickId
  pub rounds : AreRounds p start bricks log
  pub all : AreAll p bricks

-- the log ends with so many passes, one right after the other
abbrev pub ArePasses : Plan → ℕ → List Line → Type 0
ArePasses p zero log = Unit {0}
ArePasses p (suc k) log = (start : List Line) × IsPass p start log × ArePasses p k start

-- ---- paths
-- on brick b the name leads from the directory to the object
abbrev pub IsNamed : Plan → List Line → ℕ → Gfid → NameId → Gfid → Type 0
IsNamed p log b dir name g = (what : What) × (entry_at dir name (holds p log b) ≡ Some (record { gfid = g; what = what }))

-- on brick b these names, the last one first, lead from the root to the object, through directories that aren't in split-brain
abbrev pub Leads : Plan → List Line → ℕ → List NameId → Gfid → Type 0
Leads p log b [] g = g ≡ root
Leads p log b (name ∷ path) g = (dir : Gfid) × Leads p log b path dir × (IsSplit p log (below p.shape.n) dir Names → ⊥) × IsNamed p log b dir name g

-- ---- what is left
-- where the log ends with one pass more than k, what at most so many names lead to on a brick is on every brick, as a file or as a directory; and what at most k names lead to has converged over the last pass
abbrev pub HasReached : Plan → List Line → Type 0
HasReached p log =
    (k : ℕ) (start : List Line) → IsPass p start log → ArePasses p k start
    → (b : ℕ) → b < p.shape.n → (path : List NameId) (g : Gfid) → Leads p log b path g → length path ≤ suc k
    → (what : What) × IsEverywhereAs p log g what × (length path ≤ k → (kind : Kind) → IsKindOf what kind → IsConverged p start log g kind)

-- so it is at every moment of a log that is the plan's, honest, lawful and replied
abbrev pub QuietPassesReach : Type 0
QuietPassesReach =
    (p : Plan) (log : List Line) → p.shape.n ≤ 5 → length p.clients ≤ 16 → length log ≤ 4000000
    → Follows false p log → Honest p log → IsLawfulExactly p log → Replied p log → RoundsAreLow p → EveryPrefix (HasReached p) log
