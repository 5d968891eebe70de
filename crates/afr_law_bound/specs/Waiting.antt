-- The order in which Work locks are asked: rising objects, and on one object rising bricks.
use Rattle.std.specs.Prelude.{◌≡◌, ℕ, ◌<◌, Bool, true, ◌⊎◌, Option, Some}
use Rattle.afr_base.specs.declared.ids.Kind.{Kind}
use Rattle.afr_lines.specs.declared.line.Line.{Line}
use Rattle.afr_lines.specs.declared.answer.Told.TheVariants.{Held}
use Rattle.afr_lines.specs.declared.line.Line.TheVariants.{Ask, Event}
use Rattle.afr_lines.specs.declared.request.Area.{Area}
use Rattle.afr_lines.specs.declared.request.Request.TheVariants.{Lock}
use Rattle.afr_model_moves.specs.Discipline.{exact}
use Rattle.afr_model_moves.specs.Past.{Log}
use Rattle.afr_model_moves.specs.Rules.{Register, area_object}
use Rattle.afr_lines.specs.declared.lock.Domain.TheVariants.{Work}

-- by the register its actor holds a Work lock of this area at brick b
pub data Holds (r : Register) (b : ℕ) (area : Area) : Type 0 where
  First : r.area ≡ Some area → r.held b ≡ true → Holds r b area
  Second : r.second ≡ Some area → r.second_held b ≡ true → Holds r b area

-- the object is a lesser one, or it is the same and the brick a lower one
abbrev pub IsBelow : ℕ → ℕ → ℕ → ℕ → Type 0
IsBelow g b h c = (g < h) ⊎ ((g ≡ h) × (b < c))

-- a Work lock of this area at brick b is above each that the register holds
abbrev pub RisesTo : ℕ → Register → ℕ → Area → Type 0
RisesTo n r b area = (c : ℕ) (mine : Area) → c < n → Holds r c mine → IsBelow (area_object mine) c (area_object area) b

-- whom an actor waits for before t: it asked for a Work lock, above all that it holds, and another holds one of the same object there
pub record Waits (n : ℕ) (keeps : ℕ → Kind → Bool) (log : Log) (t a : ℕ) : Type 0 where
  pub b : ℕ
  pub area : Area
  pub below : b < n
  pub rises : RisesTo n (exact n keeps log t a).law b area
  pub owner : ℕ
  pub taken : Area
  pub holds : Holds (exact n keeps log t owner).law b taken
  pub same : area_object taken ≡ area_object area

-- a line that tells of nothing done: an event, or a Work lock that another holds
abbrev pub IsStill : Option Line → Type 0
IsStill (Some (Ask a b (Lock Work area) (Held owner) took)) = Unit {0}
IsStill (Some (Event event)) = Unit {0}
IsStill line = ⊥
