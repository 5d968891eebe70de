-- What the lines so far leave in the register of an actor, from the oldest on.
use Rattle.std.specs.Prelude.{ℕ, Bool, List, [], ◌∷◌, length, Some, if◌then◌else◌}
use Rattle.afr_base.specs.declared.ids.Kind.{Kind}
use Rattle.afr_lines.specs.Places.{opens, place_of}
use Rattle.afr_lines.specs.Work.{is_of}
use Rattle.afr_lines.specs.declared.line.Line.{Line}
use Rattle.afr_model_moves.specs.Discipline.{in_force, note}
use Rattle.afr_model_moves.specs.Register.{Exact, untouched}

-- the register of an actor after these lines, the newest first
abbrev pub register_by : ℕ → (ℕ → Kind → Bool) → ℕ → List Line → Exact
register_by n keeps a [] = untouched
register_by n keeps a (line ∷ older) = if is_of a line then note n keeps (in_force (opens (place_of a older) line) (register_by n keeps a older)) (length older) (Some line) else register_by n keeps a older
