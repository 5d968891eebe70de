-- Each line of a heal's machine and of a round that counts brings it nearer to its end.
use Rattle.std.specs.Prelude.{ℕ, ◌≡◌, ◌+◌, ◌*◌, ◌≤◌, Bool, true}
use Rattle.afr_base.specs.declared.ids.BrickId.{BrickId}
use Rattle.afr_base.specs.declared.ids.Gfid.{Gfid}
use Rattle.afr_base.specs.declared.ids.Kind.{Kind}
use Rattle.afr_base.specs.declared.ids.Shape.{Shape}
use Rattle.afr_discipline.specs.Stands.{seen_as}
use Rattle.afr_heal.specs.Engine.{Ask, Begins}
use Rattle.afr_law_cost.specs.Left.{heal_cost, taken}
use Rattle.afr_heal_round.specs.Rounding as round
use Rattle.afr_heal_round.specs.Rounding.{IsRounding, Rounding, healed, indexed, round_from}
use Rattle.afr_heal_round.specs.declared.stage.RoundStage.TheVariants.{Asking, Healing as At}
use Rattle.afr_lines.specs.Told.{told_by}
use Rattle.afr_lines.specs.declared.answer.Answer.{Answer}
use Rattle.afr_lines.specs.declared.request.Request.{Request}
use Rattle.afr_law_cost.specs.Round.Left.{AreRooted, IsRooted, Lists, heal_left, object_cost, round_left, taken_by}
use Rattle.afr_heal_machine.specs.Healing.{CanHear, Healing, IsHealing, answered, begun, coming, heal_from, register_after}
use Rattle.afr_heal_machine.specs.Source.{IsCandidate, is_found}

-- ---- a heal
-- a request and its answer
abbrev pub HealAsksNearer : Type 0
HealAsksNearer =
    (m : Healing) (b : ℕ) (request : Request) (answer : Answer) (at : ℕ) (chosen : BrickId) → IsHealing m → IsRooted m → coming m ≡ Ask b request → CanHear (Ask b request) answer
    → (is_found m.register.shape.n (seen_as (register_after m b request answer at)) ≡ true → IsCandidate (register_after m b request answer at) chosen.0)
    → heal_left (answered m b request answer at chosen) + taken request (told_by answer) ≤ heal_left m

-- it keeps its area
abbrev pub HealAsksRooted : Type 0
HealAsksRooted = (m : Healing) (b : ℕ) (request : Request) (answer : Answer) (at : ℕ) (chosen : BrickId) → IsHealing m → IsRooted m → coming m ≡ Ask b request → CanHear (Ask b request) answer → IsRooted (answered m b request answer at chosen)

-- a HealBegin line
abbrev pub HealBeginsNearer : Type 0
HealBeginsNearer = (m : Healing) (at : ℕ) → IsHealing m → IsRooted m → coming m ≡ Begins → (heal_left (begun at m) + 1 ≤ heal_left m) × IsRooted (begun at m)

-- the HealEnd is left
abbrev pub HealEndLeft : Type 0
HealEndLeft = (m : Healing) → IsHealing m → 1 ≤ heal_left m

-- at first its cost is left, and it holds nothing
abbrev pub HealCosts : Type 0
HealCosts = (shape : Shape) (g : Gfid) (kind : Kind) → (heal_left (heal_from shape g kind) ≤ heal_cost shape.n kind) × IsRooted (heal_from shape g kind)

-- ---- a round
-- at first two lines are left, and for each object that its index lists its cost
abbrev pub RoundCosts : Type 0
RoundCosts = (objects : ℕ) (shape : Shape) (heals : Bool) (b : BrickId) → round_left objects (round_from shape heals b) ≤ 2 + objects * object_cost shape.n

-- the index was answered
abbrev pub IndexNearer : Type 0
IndexNearer = (objects : ℕ) (m : Rounding) (heals : Bool) (answer : Answer) → m.stage ≡ Asking heals → Lists objects answer → (round_left objects (indexed heals answer m) + 1 ≤ round_left objects m) × AreRooted (indexed heals answer m).stage

-- the heal that it is at has fewer lines left
abbrev pub RoundFollows : Type 0
RoundFollows = (objects : ℕ) (m : Rounding) (before after : Healing) (c : ℕ) → m.stage ≡ At before → heal_left after + c ≤ heal_left before → round_left objects (record m { stage = At after }) + c ≤ round_left objects m

-- a HealEnd line
abbrev pub HealedNearer : Type 0
HealedNearer = (objects : ℕ) (m : Rounding) (heal : Healing) → m.stage ≡ At heal → 1 ≤ heal_left heal → (round_left objects (healed m) + 1 ≤ round_left objects m) × AreRooted (healed m).stage

-- ---- the same by what a round's machine does
-- a request was answered
abbrev pub RoundAsksNearer : Type 0
RoundAsksNearer =
    (objects : ℕ) (old new : Rounding) (answer : Answer) (at : ℕ) → IsRounding old → AreRooted old.stage → Lists objects answer → round.CanHear old answer → round.IsAnswered answer at old new
    → (round_left objects new + taken_by (round.next_of old) answer ≤ round_left objects old) × AreRooted new.stage

-- a HealBegin line was written
abbrev pub RoundBeginsNearer : Type 0
RoundBeginsNearer = (objects : ℕ) (old : Rounding) (at : ℕ) → IsRounding old → AreRooted old.stage → round.is_beginning (round.next_of old) ≡ true → (round_left objects (round.begun at old) + 1 ≤ round_left objects old) × AreRooted (round.begun at old).stage

-- a HealEnd line was written
abbrev pub RoundHealedNearer : Type 0
RoundHealedNearer = (objects : ℕ) (old : Rounding) → IsRounding old → round.is_ending (round.next_of old) ≡ true → (round_left objects (healed old) + 1 ≤ round_left objects old) × AreRooted (healed old).stage

-- the end is left
abbrev pub RoundEndLeft : Type 0
RoundEndLeft = (objects : ℕ) (m : Rounding) → 1 ≤ round_left objects m
