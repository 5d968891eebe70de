-- A heal over the program's register: what its machine keeps.
use Rattle.std.specs.Prelude.{ℕ, ◌≡◌, ◌<◌, ◌≤◌, ◌^◌, Bool, Option, Some, nat_lt, true}
use Rattle.afr_base.specs.declared.ids.Gfid.{Gfid}
use Rattle.afr_base.specs.declared.ids.Kind.{Kind}
use Rattle.afr_discipline.specs.Stands.{HasFive, seen_as}
use Rattle.afr_discipline.specs.declared.register.Move.{Move}
use Rattle.afr_discipline.specs.declared.register.Register.{Register}
use Rattle.afr_heal.specs.Answers.{asked_for, source_after}
use Rattle.afr_heal.specs.Engine.{Ask, Begins, Ends, NextOfHeal, next_of}
use Rattle.afr_heal.specs.Standing.{Standing}
use Rattle.afr_lines.specs.declared.answer.Told.{Told}
use Rattle.afr_lines.specs.declared.request.Area.{Area}
use Rattle.afr_lines.specs.declared.request.Request.{Request}
use Rattle.afr_model_moves.specs.Keeps.{keeps_in}
use Rattle.afr_model_moves.specs.Register.{Exact, area_kind, len_of}
use Rattle.afr_object.specs.declared.entry.View.{View}
use Rattle.afr_discipline.specs.declared.register.Move.TheVariants as move

-- the area has the heal's kind, which its HealEnd names, and each first view's length lies below 2^63
pub record Named (kind : Kind) (area : Option Area) (views : ℕ → Option View) : Type 0 where
  pub named : (a : Area) → area ≡ Some a → kind ≡ area_kind a
  -- a piece lies below 2^63
  pub short : (x : ℕ) → nat_lt (len_of (views x)) (2 ^ 63) ≡ true

-- the same of a register
abbrev pub IsNamed : Kind → Exact → Type 0
IsNamed kind r = Named kind r.law.area r.first_views

-- what a heal's machine keeps of its register and its source
pub record Heals (p : Register) (s : ℕ) (g : Gfid) (kind : Kind) : Type 0 where
  pub some : 0 < p.shape.n
  pub few : p.shape.n ≤ 5
  pub five : HasFive p
  pub standing : Standing p.shape.n (keeps_in p.shape) (seen_as p) s g kind
  pub named : IsNamed kind (seen_as p)

-- the next line, by the program's register
abbrev pub next_by : Register → ℕ → Gfid → Kind → NextOfHeal
next_by p s g kind = next_of p.shape.n (keeps_in p.shape) (seen_as p) s g kind

-- the source that the machine has after an answer
abbrev pub source_by : ((ℕ → Bool) → ℕ) → Register → Register → ℕ → ℕ → Request → Told → ℕ → ℕ
source_by pick p new t b request told s = source_after p.shape.n (keeps_in p.shape) pick (asked_for p.shape.n (keeps_in p.shape) (seen_as p) t b request told) s

-- the move asks this
abbrev pub AsksOf : Move → ℕ → Request → Type 0
AsksOf (move.Ask b request) c q = (b.0 ≡ c) × (request.now ≡ q)
AsksOf step c q = ⊥

-- the move begins a part of a heal of this
abbrev pub BeginsOf : Move → Gfid → Kind → Type 0
BeginsOf (move.HealBegin g kind) h what = (g ≡ h) × (kind ≡ what)
BeginsOf step h what = ⊥

-- the move is that of the next line
abbrev pub MovesOf : Gfid → Kind → NextOfHeal → Move → Type 0
MovesOf g kind (Ask b request) step = AsksOf step b request
MovesOf g kind Begins step = BeginsOf step g kind
MovesOf g kind Ends (move.End ok) = Unit {0}
MovesOf g kind Ends step = ⊥
