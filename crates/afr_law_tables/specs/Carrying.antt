-- What a brick can carry out after a log.
use Rattle.std.specs.Prelude.{◌≡◌, ℕ, List, Some}
use Rattle.afr_object.specs.State.{CanApply, CanPost, CanPre, CanRepair, CanSettle, IsInOrder}
use Rattle.afr_lines.specs.Log.{change_at}
use Rattle.afr_lines.specs.declared.line.Line.{Line}
use Rattle.afr_lines.specs.declared.request.Request.{Request}
use Rattle.afr_lines.specs.declared.request.Request.TheVariants.{Apply, Mend, Post, Pre, Settle}
use Rattle.afr_model.specs.Tables.{carried, held_before, holds}
use Rattle.afr_object.specs.declared.change.Change.{Change}
use Rattle.afr_object.specs.declared.change.Repair.{Repair}
use Rattle.afr_plan.specs.declared.plan.Plan.{Plan}

-- a repair can be made with what its reads showed: a piece ends within the longest file, and attributes and names stand in order
abbrev pub CanMend : Plan → List Line → ℕ → Repair → Type 0
CanMend p log b repair = CanRepair repair (carried (held_before p log) log repair) (holds p log b) × IsInOrder (carried (held_before p log) log repair)

-- brick b can carry the request out after this log: numbers can rise and fall as it asks, and what is written ends within the longest file
abbrev pub CanCarry : Plan → List Line → ℕ → Request → Type 0
CanCarry p log b (Pre g kind) = CanPre kind g (holds p log b)
CanCarry p log b (Post attempt g kind missed) = CanPost kind g (holds p log b)
CanCarry p log b (Apply attempt) = (change : Change) → change_at attempt log ≡ Some change → CanApply change (holds p log b)
CanCarry p log b (Mend repair) = CanMend p log b repair
CanCarry p log b (Settle g kind less) = CanSettle kind less g (holds p log b)
CanCarry p log b request = Unit {0}
