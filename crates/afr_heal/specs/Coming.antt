-- The next line of a heal, as its machine says it.
use Rattle.std.specs.Prelude.{ℕ, ◌<◌}
use Rattle.afr_base.specs.declared.ids.Kind.{Kind}
use Rattle.afr_discipline.specs.Stands.{views_of}
use Rattle.afr_discipline.specs.Turns.{marks_in}
use Rattle.afr_discipline.specs.declared.register.Register.{Register}
use Rattle.afr_heal.specs.Engine.{NextOfHeal, Ask, Begins, Ends}
use Rattle.afr_heal.specs.declared.coming.Coming.{Coming}
use Rattle.afr_heal.specs.declared.coming.Coming.TheVariants as coming
use Rattle.afr_lines.specs.declared.request.Request.{Request}

-- the line that the machine says, where the request that stands beside is this
abbrev pub comes : Coming → Request → NextOfHeal
comes (coming.Ask b) request = Ask b.0 request
comes coming.Begin request = Begins
comes coming.End request = Ends

-- the dirty number that a brick showed leaves room for the heal's own
abbrev pub HasRoom : Register → Kind → ℕ → Type 0
HasRoom register kind b = (marks_in kind (views_of register.seen b)).dirty < 4294967295

-- so it is at each brick
abbrev pub RoomEach : Register → Kind → Type 0
RoomEach register kind = (x : ℕ) → x < 5 → HasRoom register kind x
