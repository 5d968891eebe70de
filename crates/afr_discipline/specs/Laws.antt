-- What holds of each move and its note, for all registers at once.
use Rattle.std.specs.Prelude.{◌≡◌, ℕ, ◌≤◌}
use Rattle.afr_base.specs.declared.ids.Shape.{Shape}
use Rattle.afr_lines.specs.declared.answer.Told.{Told}
use Rattle.afr_model_moves.specs.Keeps.{keeps_in}
use Rattle.afr_model_moves.specs.Register.{Exact, untouched}
use Rattle.afr_discipline.specs.declared.register.Move.{Move}
use Rattle.afr_discipline.specs.declared.register.Register.{Register}
use Rattle.afr_discipline.specs.Inside.{may_move}
use Rattle.afr_discipline.specs.Moves.{IffTrue, MayMove, note_move}
use Rattle.afr_discipline.specs.Notes.{AsksBelow, noted}
use Rattle.afr_discipline.specs.Stands.{HasFive, Stands, no_lines, seen_as}

-- the test of a move is true exactly where the discipline allows the move
abbrev pub TestsDecide : Type 0
TestsDecide = (p : Register) (r : Exact) (step : Move) → p.shape.n ≤ 5 → Stands p r → IffTrue (may_move p.shape.n (keeps_in p.shape) (seen_as p) step) (MayMove p.shape.n (keeps_in p.shape) r step)

-- a register that stands for the lines stands, after a note, for one line more
abbrev pub NotesStand : Type 0
NotesStand = (p : Register) (r : Exact) (step : Move) (told : Told) (t : ℕ) → p.shape.n ≤ 5 → HasFive p → AsksBelow step → Stands p r → Stands (noted p step told t) (note_move p.shape.n (keeps_in p.shape) r step told t)

-- a note keeps the shape
abbrev pub ShapesKept : Type 0
ShapesKept = (p : Register) (step : Move) (told : Told) (t : ℕ) → (noted p step told t).shape ≡ p.shape

-- the register of no line stands for none
abbrev pub FreshStands : Type 0
FreshStands = (shape : Shape) → shape.n ≤ 5 → Stands (no_lines shape) untouched
