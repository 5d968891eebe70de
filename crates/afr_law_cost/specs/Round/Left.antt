-- How many lines the machine of a heal, and a healer's round, have left at most.
use Rattle.std.specs.Prelude.{ℕ, ◌+◌, ◌*◌, ◌≤◌, List, [], ◌∷◌, drop, length}
use Rattle.afr_base.specs.declared.ids.Gfid.{Gfid}
use Rattle.afr_base.specs.declared.ids.Kind.{Kind}
use Rattle.afr_heal_round.specs.List.Round.{RoundProgress, heals_in}
use Rattle.afr_discipline.specs.Stands.{seen_as}
use Rattle.afr_law_cost.specs.Left.{Rooted, heal_cost, lines_left, taken}
use Rattle.afr_heal_round.specs.Rounding.{Rounding}
use Rattle.afr_heal_round.specs.declared.stage.RoundStage.{RoundStage}
use Rattle.afr_heal_round.specs.declared.stage.RoundStage.TheVariants.{Asking, Healing as At, Over}
use Rattle.afr_lines.specs.Told.{told_by}
use Rattle.afr_lines.specs.declared.answer.Answer.{Answer}
use Rattle.afr_lines.specs.declared.answer.Answer.TheVariants as answer
use Rattle.afr_lines.specs.declared.line.Next.{Next}
use Rattle.afr_lines.specs.declared.line.Next.TheVariants as line
use Rattle.afr_model_moves.specs.Keeps.{keeps_in}
use Rattle.afr_heal_machine.specs.Healing.{Healing}

-- the lines that a heal has left, its HealEnd among them
abbrev pub heal_left : Healing → ℕ
heal_left m = lines_left m.register.shape.n (keeps_in m.register.shape) (seen_as m.register) m.source.0 m.kind

-- it holds Work locks of an area alone
abbrev pub IsRooted : Healing → Type 0
IsRooted m = Rooted (seen_as m.register)

-- what these heals cost together
abbrev pub heals_cost : ℕ → List (Gfid × Kind) → ℕ
heals_cost n [] = 0
heals_cost n (heal ∷ heals) = heal_cost n heal.1 + heals_cost n heals

-- what the heals cost that were not given yet
abbrev pub due_left : ℕ → RoundProgress → ℕ
due_left n p = heals_cost n (drop p.given (heals_in p.list))

-- the most lines of a round over so many objects: the index, two heals of each object, and the end
abbrev pub object_cost : ℕ → ℕ
object_cost n = 51 * n + 21

abbrev pub objects_cost : ℕ → ℕ → ℕ
objects_cost n objects = objects * object_cost n

-- the lines that a round in this stage has left, where its index lists at most so many objects
abbrev pub left_in_stage : ℕ → ℕ → RoundProgress → RoundStage → ℕ
left_in_stage n objects p (Asking heals) = objects_cost n objects + 2
left_in_stage n objects p (At m) = heal_left m + due_left n p + 1
left_in_stage n objects p (Over refused) = 1

abbrev pub round_left : ℕ → Rounding → ℕ
round_left objects m = left_in_stage m.shape.n objects m.round m.stage

-- the heal that it is at holds Work locks of an area alone
abbrev pub AreRooted : RoundStage → Type 0
AreRooted (At m) = IsRooted m
AreRooted stage = Unit {0}

-- an index lists at most so many objects
abbrev pub Lists : ℕ → Answer → Type 0
Lists objects (answer.Index list) = length list ≤ objects
Lists objects other = Unit {0}

-- what a line takes away, by its answer
abbrev pub taken_by : Next → Answer → ℕ
taken_by (line.Ask b request) told = taken request (told_by told)
taken_by other told = 1
