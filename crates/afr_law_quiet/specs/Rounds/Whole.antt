-- What a round does that nothing disturbs, as a law of logs.
use Rattle.std.specs.Prelude.{◌≡◌, ℕ, ◌<◌, ◌≤◌, false, List, Some, length, slice_get}
use Rattle.afr_base.specs.declared.ids.BrickId.{BrickId}
use Rattle.afr_lines.specs.declared.line.Line.{Line}
use Rattle.afr_plan.specs.declared.plan.Plan.{Plan}
use Rattle.afr_law.specs.Exactly.{IsLawfulExactly}
use Rattle.afr_model.specs.Actors.{rounds_of}
use Rattle.afr_model.specs.Following.{Follows}
use Rattle.afr_model.specs.Honest.{Honest}
use Rattle.afr_model.specs.Replied.{Replied}
use Rattle.afr_law_quiet.specs.Undisturbed.{AreQuietWhole}

-- each round is over a brick of the volume
abbrev pub RoundsAreLow : Plan → Type 0
RoundsAreLow p = (a k : ℕ) (b : BrickId) → slice_get (rounds_of p a) k ≡ Some b → b.0 < p.shape.n

-- so are all undisturbed rounds of a log that is the plan's, honest, lawful and replied; the plan has at most 16 clients, so that nobody is both client and healer
abbrev pub QuietRoundsAreWhole : Type 0
QuietRoundsAreWhole =
    (p : Plan) (log : List Line) → p.shape.n ≤ 5 → length p.clients ≤ 16 → length log ≤ 4000000
    → Follows false p log → Honest p log → IsLawfulExactly p log → Replied p log → RoundsAreLow p → AreQuietWhole p log
