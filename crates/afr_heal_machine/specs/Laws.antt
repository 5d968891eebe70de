-- What holds of every heal, for those who prove over many of its lines.
use Rattle.std.specs.Prelude.{ℕ, ◌≡◌, ◌+◌, ◌^◌, ◌<◌, ◌≤◌, ◌⊎◌, Some, true}
use Rattle.afr_base.specs.declared.ids.BrickId.{BrickId}
use Rattle.afr_base.specs.declared.ids.Gfid.{Gfid}
use Rattle.afr_base.specs.declared.ids.Kind.{Kind}
use Rattle.afr_base.specs.declared.ids.Shape.{Shape}
use Rattle.afr_discipline.specs.Inside.{may_move}
use Rattle.afr_discipline.specs.Stands.{HasFive, no_lines, seen_as}
use Rattle.afr_discipline.specs.declared.register.Move.{Move}
use Rattle.afr_heal.specs.Carried.{MovesOf}
use Rattle.afr_heal.specs.Engine.{Ask, Begins}
use Rattle.afr_lines.specs.declared.answer.Answer.{Answer}
use Rattle.afr_lines.specs.declared.request.Area.{Area}
use Rattle.afr_lines.specs.declared.request.Request.{Request}
use Rattle.afr_lines.specs.declared.request.Request.TheVariants.{Lock}
use Rattle.afr_model_moves.specs.Keeps.{keeps_in}
use Rattle.afr_model_moves.specs.Register.{area_kind, span}
use Rattle.afr_model_moves.specs.Rules.{heal_area}
use Rattle.afr_lines.specs.declared.lock.Domain.TheVariants.{Heal}
use Rattle.afr_heal_machine.specs.Healing.{CanHear, Healing, IsHealing, answered, begun, coming, heal_from, register_after}
use Rattle.afr_heal_machine.specs.Source.{HasSource, IsCandidate, is_found}

-- the discipline allows each next line of a heal
abbrev pub HealAllowed : Type 0
HealAllowed = (m : Healing) → IsHealing m → (step : Move) → MovesOf m.gfid m.kind (coming m) step → may_move m.register.shape.n (keeps_in m.register.shape) (seen_as m.register) step ≡ true

-- a request goes to one of the volume's bricks, of which there are at most five
abbrev pub HealAsksLow : Type 0
HealAsksLow = (m : Healing) → IsHealing m → (b : ℕ) (request : Request) → coming m ≡ Ask b request → (b < m.register.shape.n) × (m.register.shape.n ≤ 5)

-- the bytes that are done leave room for one more piece
abbrev pub HealHasRoom : Type 0
HealHasRoom = (m : Healing) → IsHealing m → m.register.upto + span < 2 ^ 32

-- a heal begins with the register of no line
abbrev pub HealBeginsFresh : Type 0
HealBeginsFresh = (shape : Shape) (g : Gfid) (kind : Kind) → (heal_from shape g kind).register ≡ no_lines shape

-- the first line of a heal locks its object at brick 0, and after it the register is that of a heal
abbrev pub HealIsInside : Type 0
HealIsInside = (m : Healing) → IsHealing m → (coming m ≡ Ask 0 (Lock Heal (heal_area m.gfid.0))) ⊎ (m.register.inside ≡ true)

-- each list of the register has five places
abbrev pub HealKeepsFive : Type 0
HealKeepsFive = (m : Healing) → IsHealing m → HasFive m.register

-- a heal that begins is one
abbrev pub HealBegins : Type 0
HealBegins = (shape : Shape) (g : Gfid) (kind : Kind) → 0 < shape.n → shape.n ≤ 5 → IsHealing (heal_from shape g kind)

-- where the first looks end and the heal goes on, some copy may be the source
abbrev pub HealHasSource : Type 0
HealHasSource =
    (m : Healing) (b : ℕ) (request : Request) (answer : Answer) (at : ℕ) → IsHealing m → coming m ≡ Ask b request → CanHear (Ask b request) answer
    → is_found m.register.shape.n (seen_as (register_after m b request answer at)) ≡ true → HasSource m.kind (register_after m b request answer at)

-- whatever is answered, a heal keeps what it keeps; at the end of its first looks a copy that may be the source is chosen
abbrev pub HealStays : Type 0
HealStays =
    (m : Healing) (b : ℕ) (request : Request) (answer : Answer) (at : ℕ) (chosen : BrickId) → IsHealing m → coming m ≡ Ask b request → CanHear (Ask b request) answer
    → (is_found m.register.shape.n (seen_as (register_after m b request answer at)) ≡ true → IsCandidate (register_after m b request answer at) chosen.0) → IsHealing (answered m b request answer at chosen)

-- and so it does where a part begins
abbrev pub HealBegunStays : Type 0
HealBegunStays = (m : Healing) (at : ℕ) → IsHealing m → coming m ≡ Begins → IsHealing (begun at m)

-- the heal's kind is that of the area, which its end names
abbrev pub HealEndNamed : Type 0
HealEndNamed = (m : Healing) → IsHealing m → (a : Area) → m.register.area ≡ Some a → m.kind ≡ area_kind a
