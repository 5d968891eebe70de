-- A round of a healer, step by step.
use Rattle.std.specs.Prelude.{ℕ, ◌≡◌, ◌<◌, ◌≤◌, Bool, true, false, [], ◌∷◌, Option, None, Some, if◌then◌else◌}
use Rattle.afr_base.specs.declared.ids.BrickId.{BrickId}
use Rattle.afr_base.specs.declared.ids.Gfid.{Gfid}
use Rattle.afr_base.specs.declared.ids.Kind.{Kind}
use Rattle.afr_base.specs.declared.ids.Shape.{Shape}
use Rattle.afr_base.specs.declared.ids.What.{What}
use Rattle.afr_heal_round.specs.List.Round.{RoundProgress, next_due, with_list, without_next}
use Rattle.afr_heal_round.specs.List.Round as round
use Rattle.afr_heal_round.specs.declared.coming.RoundComing.{RoundComing}
use Rattle.afr_heal_round.specs.declared.coming.RoundComing.TheVariants as coming_of
use Rattle.afr_heal_round.specs.declared.stage.RoundStage.{RoundStage}
use Rattle.afr_heal_round.specs.declared.stage.RoundStage.TheVariants.{Asking, Healing, Over}
use Rattle.afr_lines.specs.declared.answer.Answer.{Answer}
use Rattle.afr_lines.specs.declared.answer.Answer.TheVariants as answer
use Rattle.afr_lines.specs.declared.line.Next.{Next}
use Rattle.afr_lines.specs.declared.line.Next.TheVariants as next
use Rattle.afr_lines.specs.declared.reply.Good.TheVariants.{Done}
use Rattle.afr_lines.specs.declared.reply.HealReply.{HealReply}
use Rattle.afr_lines.specs.declared.reply.Reply.{Reply}
use Rattle.afr_lines.specs.declared.reply.Reply.TheVariants.{Failed, Ok}
use Rattle.afr_lines.specs.declared.request.Request.{Request}
use Rattle.afr_lines.specs.declared.request.Request.TheVariants.{Index}
use Rattle.afr_object.specs.declared.change.Load.{Load}
use Rattle.afr_object.specs.declared.change.Load.TheVariants.{Nothing}
use Rattle.afr_rule.specs.Choosing.{Calls}
use Rattle.afr_heal_machine.specs.Contents.{load_in}
use Rattle.afr_heal_machine.specs.Healing as heal
use Rattle.afr_heal_machine.specs.Healing.{Healing as Heal, IsHealing, coming, heal_from}

-- a round: its list and how far it is in it, and where it stands
pub record Rounding : Type 0 where
  pub shape : Shape
  pub round : RoundProgress
  pub stage : RoundStage

-- a round that begins asks for the index of its brick, and may heal what it lists
abbrev pub round_from : Shape → Bool → BrickId → Rounding
round_from shape heals b = record { shape = shape; round = round.begun b; stage = Asking heals }

-- ---- the next line
-- a round fails where its index was refused
abbrev pub reply_of : Bool → Reply
reply_of refused = if refused then Failed else Ok Done

abbrev pub next_at : BrickId → RoundStage → Next
next_at b (Asking heals) = next.Ask b Index
next_at b (Healing m) = heal.next_of m
next_at b (Over refused) = next.End (reply_of refused)

abbrev pub next_of : Rounding → Next
next_of m = next_at m.round.brick m.stage

-- the line is the one that the round says, where the request that stands beside is this
abbrev pub Comes : RoundComing → Request → Next → Type 0
Comes (coming_of.Ask b) request line = line ≡ next.Ask b request
Comes (coming_of.Begin g kind) request line = line ≡ next.HealBegin g kind
Comes (coming_of.HealEnd g kind) request line = (said : HealReply) × (line ≡ next.HealEnd g kind said)
Comes coming_of.End request line = (said : Reply) × (line ≡ next.End said)

-- the same of a heal's next line
abbrev pub HealComes : RoundComing → Request → Heal → Type 0
HealComes said request m = Comes said request (heal.next_of m)

-- the next line begins a part of a heal, or ends a heal
abbrev pub is_beginning : Next → Bool
is_beginning (next.HealBegin g kind) = true
is_beginning other = false

abbrev pub is_ending : Next → Bool
is_ending (next.HealEnd g kind said) = true
is_ending other = false

-- the heal that it is at
abbrev pub heal_at : RoundStage → Option Heal
heal_at (Healing m) = Some m
heal_at stage = None

-- what goes with the next request
abbrev pub CarriesAt : RoundStage → Load → Type 0
CarriesAt (Healing m) load = load_in m.contents load
CarriesAt stage load = load ≡ Nothing

abbrev pub CarriesNext : Rounding → Load → Type 0
CarriesNext m load = CarriesAt m.stage load

-- ---- what it keeps
-- the heal that it is at has its object and kind, and is of its volume
abbrev pub IsStaged : Shape → RoundStage → Type 0
IsStaged shape (Healing m) = IsHealing m × (m.register.shape ≡ shape)
IsStaged shape stage = Unit {0}

pub record IsRounding (m : Rounding) : Type 0 where
  pub few : m.shape.n ≤ 5
  pub within : m.round.brick.0 < m.shape.n
  pub staged : IsStaged m.shape m.stage

-- ---- what a line leaves
-- the heal that is due, from its beginning, or the end
abbrev pub stage_due : Shape → Option (Gfid × Kind) → RoundStage
stage_due shape (Some due) = Healing (heal_from shape due.0 due.1)
stage_due shape None = Over false

-- the next heal of the list begins, or the round is over
abbrev pub going_on : Shape → RoundProgress → Rounding
going_on shape r = record { shape = shape; round = without_next r; stage = stage_due shape (next_due r) }

-- a task: the heals of one item, in a round that asks for no index
abbrev pub task_from : Shape → Gfid × What → Rounding
task_from shape item = going_on shape (with_list (item ∷ []) (round.begun (record { 0 = 0 })))

-- a list was given: it is gone through, or the round is over
abbrev pub stage_given : Bool → Shape → RoundProgress → RoundStage
stage_given true shape r = stage_due shape (next_due r)
stage_given false shape r = Over false

abbrev pub round_given : Bool → RoundProgress → RoundProgress
round_given true r = without_next r
round_given false r = r

-- the index was answered: it gave its list, or it was refused
abbrev pub stage_indexed : Bool → Shape → Answer → RoundProgress → RoundStage
stage_indexed heals shape (answer.Index list) r = stage_given heals shape (with_list list r)
stage_indexed heals shape other r = Over true

abbrev pub round_indexed : Bool → Answer → RoundProgress → RoundProgress
round_indexed heals (answer.Index list) r = round_given heals (with_list list r)
round_indexed heals other r = r

abbrev pub indexed : Bool → Answer → Rounding → Rounding
indexed heals answer m = record { shape = m.shape; round = round_indexed heals answer m.round; stage = stage_indexed heals m.shape answer m.round }

-- an answer that a brick gives to the next line
abbrev pub CanHearAt : RoundStage → Answer → Type 0
CanHearAt (Asking heals) answer = Unit {0}
CanHearAt (Healing m) answer = heal.CanHear (coming m) answer
CanHearAt (Over refused) answer = ⊥

abbrev pub CanHear : Rounding → Answer → Type 0
CanHear m answer = CanHearAt m.stage answer

-- the request was answered
abbrev pub IsFedAt : {F : Type 0} → Calls F → F → Answer → ℕ → RoundStage → Rounding → Rounding → Type 0
IsFedAt calls choose answer at (Asking heals) old new = new ≡ indexed heals answer old
IsFedAt calls choose answer at (Healing m) old new = (after : Heal) × heal.IsFed calls choose answer at m after × (new ≡ record old { stage = Healing after })
IsFedAt calls choose answer at (Over refused) old new = ⊥

abbrev pub IsFed : {F : Type 0} → Calls F → F → Answer → ℕ → Rounding → Rounding → Type 0
IsFed calls choose answer at old new = IsFedAt calls choose answer at old.stage old new

-- the same, whatever rule it was
abbrev pub IsAnsweredAt : Answer → ℕ → RoundStage → Rounding → Rounding → Type 0
IsAnsweredAt answer at (Asking heals) old new = new ≡ indexed heals answer old
IsAnsweredAt answer at (Healing m) old new = (after : Heal) × heal.IsAnswered answer at m after × (new ≡ record old { stage = Healing after })
IsAnsweredAt answer at (Over refused) old new = ⊥

abbrev pub IsAnswered : Answer → ℕ → Rounding → Rounding → Type 0
IsAnswered answer at old new = IsAnsweredAt answer at old.stage old new

-- after a HealBegin line
abbrev pub begun_at : ℕ → RoundStage → RoundStage
begun_at at (Healing m) = Healing (heal.begun at m)
begun_at at stage = stage

abbrev pub begun : ℕ → Rounding → Rounding
begun at m = record m { stage = begun_at at m.stage }

-- after a HealEnd line
abbrev pub healed : Rounding → Rounding
healed m = going_on m.shape m.round

-- with the memory of the coming move
abbrev pub ready_at : RoundStage → RoundStage
ready_at (Healing m) = Healing (heal.made_ready m)
ready_at stage = stage

abbrev pub made_ready : Rounding → Rounding
made_ready m = record m { stage = ready_at m.stage }
