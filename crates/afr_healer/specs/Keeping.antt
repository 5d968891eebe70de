-- What a healer keeps: its round or its task stands for the lines of its present work.
use Rattle.std.specs.Prelude.{◌≡◌, ℕ, ◌+◌, ◌≤◌, Bool, true, false, List, [], ◌∷◌, Option, None, Some, slice_get}
use Rattle.afr_base.specs.declared.ids.BrickId.{BrickId}
use Rattle.afr_base.specs.declared.ids.Gfid.{Gfid}
use Rattle.afr_base.specs.declared.ids.Shape.{Shape}
use Rattle.afr_base.specs.declared.ids.What.{What}
use Rattle.afr_heal_round.specs.List.Round.{RoundProgress}
use Rattle.afr_discipline.specs.Stands.{no_lines}
use Rattle.afr_discipline.specs.declared.register.Register.{Register}
use Rattle.afr_law_heal.specs.Heard.Holds.{HoldsRead}
use Rattle.afr_law_heal.specs.HealTelling.{HealTells}
use Rattle.afr_heal_round.specs.Rounding.{IsRounding, Rounding}
use Rattle.afr_heal_round.specs.declared.stage.RoundStage.{RoundStage}
use Rattle.afr_heal_round.specs.declared.stage.RoundStage.TheVariants.{Asking, Healing, Over}
use Rattle.afr_lines.specs.Areas.{object_of_area}
use Rattle.afr_lines.specs.Places.{Between, Fresh, Indexed, Place, Within, place_of}
use Rattle.afr_lines.specs.Work.{Work, ended, is_killed, work}
use Rattle.afr_lines.specs.declared.line.Line.{Line}
use Rattle.afr_lines.specs.declared.request.Area.{Area}
use Rattle.afr_model.specs.Actors.{rounds_of}
use Rattle.afr_model.specs.HealReplies.{refuses_index}
use Rattle.afr_model.specs.Healing.{heal_by}
use Rattle.afr_model.specs.Crawl.{AreOfItem, IsGiven, crawler, given_by}
use Rattle.afr_model.specs.Rounds.{due_in, heals_ended, listed_by}
use Rattle.afr_model.specs.Safe.{log_before}
use Rattle.afr_model.specs.Showing.{has}
use Rattle.afr_plan.specs.declared.plan.Plan.{Plan}
use Rattle.afr_healer.specs.declared.healer.Healer.{Healer}
use Rattle.afr_heal_machine.specs.Healing.{Healing as Heal, IsHealing}
use Rattle.afr_server.specs.Serving.{Serving}
use Rattle.afr_servers.specs.Visiting.{AreInSession}
use Rattle.afr_servers.specs.declared.epochs.Epochs.{Epochs}
use Rattle.afr_law_next.specs.Turn.{Stood}
use Rattle.afr_discipline.specs.Free.{IsFree}

-- a healer between two rounds has written no line of the next
pub record IsBetweenRounds (a : ℕ) (log : List Line) (met : Bool) : Type 0 where
  pub unmet : met ≡ false
  pub fresh : place_of a log ≡ Fresh
  pub none : work a log ≡ []

-- ---- what the work is for
-- the heals of the list that its round is given, that list alone, or the heals of one item
pub data Duty : Type 0 where
  Rounds : Duty
  Crawls : Duty
  Task : Gfid × What → Duty

-- the list whose heals the work is at
abbrev pub list_of : Duty → Plan → Work → List (Gfid × What)
list_of Rounds p w = listed_by p w
list_of Crawls p w = []
list_of (Task item) p w = item ∷ []

-- the present work is for it: a round of the plan at this brick, or a task whose lines are of its item so far
abbrev pub IsOnDuty : Duty → Bool → Plan → ℕ → List Line → BrickId → Type 0
IsOnDuty Rounds crawl p a log b = (crawl ≡ false) × (slice_get (rounds_of p a) (ended a log) ≡ Some b)
IsOnDuty Crawls crawl p a log b = (crawl ≡ true) × (a ≡ crawler) × (slice_get (rounds_of p a) (ended a log) ≡ Some b)
IsOnDuty (Task item) crawl p a log b = (crawl ≡ true) × (18 ≤ a) × IsGiven p item (log_before (work a log) log) × AreOfItem item (work a log)

-- a round that asks for its index heals the list, or doesn't
abbrev pub AsksFor : Duty → Bool → Type 0
AsksFor Rounds heals = heals ≡ true
AsksFor Crawls heals = heals ≡ false
AsksFor (Task item) heals = ⊥

-- ---- where it stands
-- the next line may be the first of a heal: nothing was written yet, the index was asked for alone, or the last line ended a heal
abbrev pub IsBetweenHeals : Place → Type 0
IsBetweenHeals Within = ⊥
IsBetweenHeals place = Unit {0}

-- the index was asked for alone, or the last line ended a heal
abbrev pub IsAfterHeals : Place → Type 0
IsAfterHeals Indexed = Unit {0}
IsAfterHeals Between = Unit {0}
IsAfterHeals place = ⊥

-- the register of a heal stands for its lines; before the first it is that of no line
abbrev pub IsNotedHeal : Bool → Shape → ℕ → List Line → Register → Type 0
IsNotedHeal true shape a log r = (place_of a log ≡ Within) × Stood shape a log r
IsNotedHeal false shape a log r = IsBetweenHeals (place_of a log) × (r ≡ no_lines shape) × (heal_by (work a log) ≡ [])

-- the area that a heal locks is on its object
abbrev pub IsOnObject : Gfid → Register → Type 0
IsOnObject g r = (area : Area) → r.area ≡ Some area → object_of_area area ≡ g

-- a heal stands for its lines: it is the one that is due, they tell where it stands, and it holds what they read
pub record RunsHeal (duty : Duty) (p : Plan) (a : ℕ) (log : List Line) (met : Bool) (epochs : Epochs) (servers : List Serving) (h : Heal) : Type 0 where
  pub sound : IsHealing h
  pub shape : h.register.shape ≡ p.shape
  pub noted : IsNotedHeal met p.shape a log h.register
  pub sessions : AreInSession met a epochs servers
  pub due : due_in (list_of duty p (work a log)) (work a log) ≡ Some (h.gfid, h.kind)
  pub on : IsOnObject h.gfid h.register
  pub tells : HealTells h.register h.source.0 h.gfid h.kind h.outcome (heal_by (work a log))
  pub holds : HoldsRead p log h
  pub unrefused : has refuses_index (work a log) ≡ false

-- a crawler's round has the list that its index gave
abbrev pub KeepsList : Duty → Plan → Work → Option (List (Gfid × What)) → Type 0
KeepsList Crawls p w list = given_by p w ≡ list
KeepsList duty p w list = Unit {0}

-- no heal is left, or there was no list
pub record IsRoundOver (duty : Duty) (p : Plan) (a : ℕ) (log : List Line) (met refused : Bool) : Type 0 where
  pub unmet : met ≡ false
  pub place : IsAfterHeals (place_of a log)
  pub register : Register
  pub free : IsFree p.shape register
  pub stood : Stood p.shape a log register
  pub none_left : due_in (list_of duty p (work a log)) (work a log) ≡ None
  pub said : has refuses_index (work a log) ≡ refused

-- the list is the one whose heals the work is at
abbrev pub IsListed : Duty → Plan → Work → Option (List (Gfid × What)) → Type 0
IsListed Rounds p w None = listed_by p w ≡ []
IsListed Rounds p w (Some list) = listed_by p w ≡ list
IsListed Crawls p w list = ⊥
IsListed (Task item) p w list = list ≡ Some (item ∷ [])

-- where a round stands, and how many of its heals were given
abbrev pub StageStands : Duty → Plan → ℕ → List Line → Bool → Epochs → List Serving → RoundProgress → RoundStage → Type 0
StageStands duty p a log met epochs servers r (Asking heals) = IsBetweenRounds a log met × (r.list ≡ None) × AsksFor duty heals
StageStands duty p a log met epochs servers r (Healing h) = RunsHeal duty p a log met epochs servers h × IsListed duty p (work a log) r.list × (r.given ≡ heals_ended (work a log) + 1)
StageStands duty p a log met epochs servers r (Over refused) = IsRoundOver duty p a log met refused × KeepsList duty p (work a log) r.list

-- a round that has its index has written a line, and so has a task that is over
abbrev pub HasBegun : Duty → RoundStage → Work → Type 0
HasBegun duty (Asking heals) w = Unit {0}
HasBegun (Task item) (Healing h) w = Unit {0}
HasBegun duty stage [] = ⊥
HasBegun duty stage (x ∷ w) = Unit {0}

-- a round carries out the healer's present work
pub record CarriesRound (crawl : Bool) (p : Plan) (a : ℕ) (log : List Line) (met : Bool) (epochs : Epochs) (servers : List Serving) (m : Rounding) : Type 0 where
  pub duty : Duty
  pub present : IsOnDuty duty crawl p a log m.round.brick
  pub shape : m.shape ≡ p.shape
  pub sound : IsRounding m
  pub begun : HasBegun duty m.stage (work a log)
  pub stage : StageStands duty p a log met epochs servers m.round m.stage

-- what a healer is at stands for the lines of its present work
abbrev pub CarriesIts : Bool → Plan → ℕ → List Line → Bool → Epochs → List Serving → Option Rounding → Type 0
CarriesIts crawl p a log met epochs servers None = IsBetweenRounds a log met
CarriesIts crawl p a log met epochs servers (Some m) = CarriesRound crawl p a log met epochs servers m

-- a healer is what its lines say
pub record IsHealer (crawl : Bool) (p : Plan) (log : List Line) (a : ℕ) (servers : List Serving) (x : Healer) : Type 0 where
  pub ended_is : x.ended ≡ ended a log
  pub killed_is : x.killed ≡ is_killed a log
  pub carries : CarriesIts crawl p a log x.visit.met x.visit.epochs servers x.round
