-- Rolling maintenance: where some brick is always spared, and a pass of quiet rounds comes before another one is, no object ends in split-brain.
use Rattle.std.specs.Prelude.{◌≡◌, ◌⊎◌, ℕ, ◌<◌, ◌≤◌, ◌++◌, true, false, List, [], ◌∷◌, length}
use Rattle.afr_base.specs.Bricks.{below, member}
use Rattle.afr_base.specs.Keeping.{keeps}
use Rattle.afr_base.specs.declared.ids.Gfid.{Gfid}
use Rattle.afr_base.specs.declared.ids.Kind.{Kind}
use Rattle.afr_base.specs.declared.ids.What.{What}
use Rattle.afr_lines.specs.Log.{EachLine, EveryPrefix}
use Rattle.afr_lines.specs.Work.{Work, work, is_killed}
use Rattle.afr_lines.specs.declared.line.Line.{Line}
use Rattle.afr_lines.specs.declared.line.Line.TheVariants.{Ask}
use Rattle.afr_lines.specs.declared.request.Request.TheVariants.{Post}
use Rattle.afr_plan.specs.declared.plan.Plan.{Plan}
use Rattle.afr_model.specs.Actors.{IsActor}
use Rattle.afr_model.specs.Blamed.{AreBlamed}
use Rattle.afr_model.specs.Following.{Follows}
use Rattle.afr_model.specs.Honest.{Honest}
use Rattle.afr_model.specs.Replied.{Replied}
use Rattle.afr_model.specs.Safe.{log_before}
use Rattle.afr_model.specs.Showing.{is_fault}
use Rattle.afr_model.specs.Splits.{IsSplit}
use Rattle.afr_model.specs.Sums.{has_object}
use Rattle.afr_law_tables.specs.Clear.{IsClear}
use Rattle.afr_law_quiet.specs.Rounds.Whole.{RoundsAreLow}
use Rattle.afr_law_passes.specs.Converged.{IsEverywhereAs, IsKindOf}
use Rattle.afr_law_passes.specs.Reached.Reached.{IsPass}
use Rattle.afr_law.specs.Exactly.{IsLawfulExactly}

-- ---- an epoch
-- brick d was reached and refused nothing, where the line asks it
abbrev pub IsUnfailedAt : ℕ → Line → Type 0
IsUnfailedAt d (Ask a b request told took) = b.0 ≡ d → is_fault told ≡ false
IsUnfailedAt d line = Unit {0}

-- in each of these lines
abbrev pub IsSpared : ℕ → List Line → Type 0
IsSpared d [] = Unit {0}
IsSpared d (line ∷ more) = IsUnfailedAt d line × IsSpared d more

-- since the start some brick that keeps all kinds was spared; whatever happens to the others, and whoever dies
pub record IsEpoch (p : Plan) (start log : List Line) : Type 0 where
  pub newer : List Line
  pub is : log ≡ newer ++ start
  pub brick : ℕ
  pub low : brick < p.shape.n
  pub full : (kind : Kind) → keeps p.shape kind brick ≡ true
  pub spared : IsSpared brick newer

-- ---- who is named
-- no line of the work was told a fault by brick d
abbrev pub FailsNowhere : ℕ → Work → Type 0
FailsNowhere d [] = Unit {0}
FailsNowhere d (x ∷ w) = IsUnfailedAt d x.0 × FailsNowhere d w

-- a post-op doesn't name a brick that had the object when its work began, and told that work no fault
abbrev pub NamesMissers : Plan → Line → List Line → Type 0
NamesMissers p (Ask a b (Post attempt g kind missed) told took) older = (d : ℕ) → d < p.shape.n → has_object p (log_before (work a.0 older) older) g d ≡ true → FailsNowhere d (work a.0 older) → member missed d ≡ false
NamesMissers p line older = Unit {0}

-- so it is with each line of an honest log whose accusations have their causes
abbrev pub ModelNamesMissers : Type 0
ModelNamesMissers = (p : Plan) (log : List Line) → Honest p log → AreBlamed p log → EachLine (NamesMissers p) log

-- ---- epoch after epoch
-- after the start came epochs, each with a pass of quiet rounds at its end
pub data HasRolled (p : Plan) (start : List Line) : List Line → Type 0 where
  Starts : HasRolled p start start
  Rolls : (was late log : List Line) → HasRolled p start was → IsEpoch p was late → IsPass p late log → HasRolled p start log

-- each actor is dead or between works
abbrev pub AreIdle : Plan → List Line → Type 0
AreIdle p log = (a : ℕ) → IsActor p a → (is_killed a log ≡ true) ⊎ (work a log ≡ [])

-- in each epoch, what every brick had and was clear at the start isn't in split-brain
abbrev pub NeverSplits : Plan → List Line → Type 0
NeverSplits p log =
    (start was : List Line) → AreIdle p start → HasRolled p start was → IsEpoch p was log
    → (g : Gfid) (what : What) (kind : Kind) → IsEverywhereAs p start g what → IsKindOf what kind → IsClear p start g kind → IsSplit p log (below p.shape.n) g kind → ⊥

-- so it is at every moment of a log that is the plan's, honest, lawful and replied, and whose accusations have their causes
abbrev pub RollingNeverSplits : Type 0
RollingNeverSplits =
    (p : Plan) (log : List Line) → p.shape.n ≤ 5 → length p.clients ≤ 16 → length log ≤ 4000000
    → Follows false p log → Honest p log → IsLawfulExactly p log → Replied p log → AreBlamed p log → RoundsAreLow p → EveryPrefix (NeverSplits p) log
