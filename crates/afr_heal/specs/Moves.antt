-- What holds of each move of a heal, over the program's register.
use Rattle.std.specs.Prelude.{ℕ, ◌≡◌, ◌<◌, ◌≤◌, Bool, Some, true}
use Rattle.afr_base.specs.declared.ids.Gfid.{Gfid}
use Rattle.afr_base.specs.declared.ids.Kind.{Kind}
use Rattle.afr_base.specs.declared.ids.Shape.{Shape}
use Rattle.afr_discipline.specs.Inside.{may_move}
use Rattle.afr_discipline.specs.Notes.{noted}
use Rattle.afr_discipline.specs.Stands.{HasFive, Stands, no_lines, seen_as}
use Rattle.afr_discipline.specs.declared.register.Move.{Move}
use Rattle.afr_discipline.specs.declared.register.Register.{Register}
use Rattle.afr_heal.specs.Answers.{PicksOne, asked_for, fits, in_range}
use Rattle.afr_heal.specs.Carried.{AsksOf, BeginsOf, Heals, IsNamed, MovesOf, next_by, source_by}
use Rattle.afr_heal.specs.Engine.{Ask, Begins, next_of}
use Rattle.afr_heal.specs.Laws.{allows_next}
use Rattle.afr_heal.specs.Standing.{Standing}
use Rattle.afr_lines.specs.declared.answer.Told.{Told}
use Rattle.afr_lines.specs.declared.request.Area.{Area}
use Rattle.afr_lines.specs.declared.request.Request.{Request}
use Rattle.afr_model_moves.specs.Keeps.{keeps_in}
use Rattle.afr_model_moves.specs.Register.{Exact, area_kind}

-- an answer keeps the kind of the area and the lengths of the first views
abbrev pub StaysNamed : Type 0
StaysNamed = (n : ℕ) (keeps : ℕ → Kind → Bool) (r : Exact) (s : ℕ) (g : Gfid) (kind : Kind) → 0 < n → n ≤ 5 → Standing n keeps r s g kind → IsNamed kind r
    → (t b : ℕ) (request : Request) (told : Told) → next_of n keeps r s g kind ≡ Ask b request → fits request told ≡ true → in_range told ≡ true → IsNamed kind (asked_for n keeps r t b request told)

-- where the exact register stands for the lines of a heal, so does the one that the program's register gives
abbrev pub StandingCarried : Type 0
StandingCarried = (p : Register) (r : Exact) (s : ℕ) (g : Gfid) (kind : Kind) → Stands p r → Standing p.shape.n (keeps_in p.shape) r s g kind → Standing p.shape.n (keeps_in p.shape) (seen_as p) s g kind

-- the register of no line is that of any heal before its first line
abbrev pub HealsNew : Type 0
HealsNew = (shape : Shape) (s : ℕ) (g : Gfid) (kind : Kind) → 0 < shape.n → shape.n ≤ 5 → Heals (no_lines shape) s g kind

-- each next line is allowed, and a HealEnd names the kind of the area
abbrev pub HealsAllowed : Type 0
HealsAllowed = (p : Register) (s : ℕ) (g : Gfid) (kind : Kind) → Heals p s g kind → (allows_next p.shape.n (keeps_in p.shape) (seen_as p) g kind (next_by p s g kind) ≡ true) × ((a : Area) → p.area ≡ Some a → kind ≡ area_kind a)

-- the discipline's test of the next line's move is true
abbrev pub HealsMove : Type 0
HealsMove = (p : Register) (s : ℕ) (g : Gfid) (kind : Kind) → Heals p s g kind → (step : Move) → MovesOf g kind (next_by p s g kind) step → may_move p.shape.n (keeps_in p.shape) (seen_as p) step ≡ true

-- whatever is told, the machine keeps what it keeps; that the lists have five places comes from their types
abbrev pub HealsKept : Type 0
HealsKept =
    (pick : (ℕ → Bool) → ℕ) (p : Register) (s : ℕ) (g : Gfid) (kind : Kind) → PicksOne p.shape.n pick → Heals p s g kind
    → (step : Move) (told : Told) (t b : ℕ) (request : Request) → AsksOf step b request → next_by p s g kind ≡ Ask b request → fits request told ≡ true → in_range told ≡ true → HasFive (noted p step told t)
    → Heals (noted p step told t) (source_by pick p (noted p step told t) t b request told s) g kind

-- and so it does where a part begins
abbrev pub HealsBegun : Type 0
HealsBegun =
    (pick : (ℕ → Bool) → ℕ) (p : Register) (s : ℕ) (g : Gfid) (kind : Kind) → PicksOne p.shape.n pick → Heals p s g kind
    → (step : Move) (told : Told) (t : ℕ) → BeginsOf step g kind → next_by p s g kind ≡ Begins → HasFive (noted p step told t) → Heals (noted p step told t) s g kind
