-- What the settled heals of an undisturbed round leave.
use Rattle.std.specs.Prelude.{◌≡◌, ℕ, ◌<◌, ◌≤◌, false, List, Some, length, slice_get}
use Rattle.afr_base.specs.declared.ids.BrickId.{BrickId}
use Rattle.afr_lines.specs.Log.{EachLine}
use Rattle.afr_lines.specs.Work.{ended, work}
use Rattle.afr_lines.specs.declared.line.Line.{Line}
use Rattle.afr_lines.specs.declared.line.Line.TheVariants.{End}
use Rattle.afr_plan.specs.declared.plan.Plan.{Plan}
use Rattle.afr_model.specs.Actors.{rounds_of}
use Rattle.afr_model.specs.Following.{Follows}
use Rattle.afr_model.specs.Healing.{heal_by}
use Rattle.afr_model.specs.Honest.{Honest}
use Rattle.afr_model.specs.Quiet.{IsQuiet}
use Rattle.afr_model.specs.Replied.{Replied}
use Rattle.afr_law_quiet.specs.Undisturbed.{EachHeal, EndsRepaired}
use Rattle.afr_law.specs.Exactly.{IsLawfulExactly}

-- each settled heal of the round of healer a, whose end comes next, leaves its object repaired to the round's end
abbrev pub IsRoundKept : Plan → ℕ → List Line → Type 0
IsRoundKept p a older = EachHeal (λ g kind said before. EndsRepaired p older g kind said (heal_by (work a before))) (work a older)

-- so is the round that a line ends, where nothing disturbed it
abbrev pub IsQuietKept : Plan → Line → List Line → Type 0
IsQuietKept p (End a said) older = 17 ≤ a.0 → (b : BrickId) → slice_get (rounds_of p a.0) (ended a.0 older) ≡ Some b → IsQuiet p a.0 older → IsRoundKept p a.0 older
IsQuietKept p line older = Unit {0}

-- so are all undisturbed rounds
abbrev pub QuietRoundsAreRepaired : Type 0
QuietRoundsAreRepaired =
    (p : Plan) (log : List Line) → p.shape.n ≤ 5 → 0 < p.shape.n → length log ≤ 4000000 → Follows false p log → Honest p log → IsLawfulExactly p log → Replied p log → EachLine (IsQuietKept p) log
