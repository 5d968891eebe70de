-- The second law in the words of the model.
use Rattle.std.specs.Prelude.{◌≡◌, ℕ, ◌<◌, ◌≤◌, ◌==◌, ◌&&◌, ◌||◌, not, Bool, true, false, List, [], ◌∷◌, if◌then◌else◌}
use Rattle.afr_base.specs.declared.ids.Gfid.{Gfid}
use Rattle.afr_base.specs.declared.ids.Kind.{Kind}
use Rattle.afr_base.specs.Keeping.{keeps}
use Rattle.afr_object.specs.Tables.{object_of}
use Rattle.afr_lines.specs.Log.{EveryPrefix}
use Rattle.afr_lines.specs.Work.{is_of, is_killed}
use Rattle.afr_lines.specs.declared.line.Line.{Line}
use Rattle.afr_lines.specs.declared.line.Line.TheVariants.{Begin, HealBegin, End, HealEnd}
use Rattle.afr_plan.specs.declared.plan.Plan.{Plan}
use Rattle.afr_model.specs.Cells.{Cell, object_of_cell, kind_of_cell, value_of}
use Rattle.afr_model.specs.Honest.{Honest}
use Rattle.afr_base.specs.Kinds.{same_kind}
use Rattle.afr_lines.specs.Areas.{kind_for}
use Rattle.afr_law.specs.ModelLaw.{IsLawful}
use Rattle.afr_law_tables.specs.Clear.{IsClear}

-- where all numbers are 0, all bricks that keep such cells have the same value; an arbiter keeps no bytes
abbrev pub AreAlike : Plan → List Line → Type 0
AreAlike p log =
    (cell : Cell) → IsClear p log (object_of_cell cell) (kind_of_cell cell)
    → (b c : ℕ) → b < p.shape.n → c < p.shape.n → keeps p.shape (kind_of_cell cell) b ≡ true → keeps p.shape (kind_of_cell cell) c ≡ true → value_of p log b cell ≡ value_of p log c cell

-- at every moment of an honest and lawful log nothing diverges unrecorded
abbrev pub ModelNothingDiverges : Type 0
ModelNothingDiverges = (p : Plan) (log : List Line) → p.shape.n ≤ 5 → Honest p log → IsLawful p log → EveryPrefix (AreAlike p) log

-- ---- and where nobody is at work
-- whether a line begins an attempt, or a piece of a heal, on the object and kind
abbrev pub begins_on : Gfid → Kind → Line → Bool
begins_on g kind (Begin a change) = ((object_of change).0 == g.0) && same_kind (kind_for change) kind
begins_on g kind (HealBegin a h k) = (h.0 == g.0) && same_kind k kind
begins_on g kind line = false

-- whether a line ends a work or a heal
abbrev pub ends_one : Line → Bool
ends_one (End a reply) = true
ends_one (HealEnd a g kind reply) = true
ends_one line = false

-- whether an actor stands between such a beginning and the end that follows
abbrev pub stands_in : ℕ → Gfid → Kind → List Line → Bool
stands_in a g kind [] = false
stands_in a g kind (line ∷ older) = if is_of a line then not (ends_one line) && (begins_on g kind line || stands_in a g kind older) else stands_in a g kind older

-- all numbers are 0, and no actor that wasn't killed stands in a work or a heal on the object and kind
abbrev pub IsUnrecorded : Plan → List Line → Gfid → Kind → Type 0
IsUnrecorded p log g kind = IsClear p log g kind × ((a : ℕ) → is_killed a log ≡ false → stands_in a g kind log ≡ false)

-- the same law, of such moments alone
abbrev pub AreAlikeAtRest : Plan → List Line → Type 0
AreAlikeAtRest p log =
    (cell : Cell) → IsUnrecorded p log (object_of_cell cell) (kind_of_cell cell)
    → (b c : ℕ) → b < p.shape.n → c < p.shape.n → keeps p.shape (kind_of_cell cell) b ≡ true → keeps p.shape (kind_of_cell cell) c ≡ true → value_of p log b cell ≡ value_of p log c cell
