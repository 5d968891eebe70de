-- The source that the rule picked for a healer's heal, and what a stored rule picks.
use Rattle.std.specs.Prelude.{◌≡◌, ℕ, ◌||◌, not, Bool, true, false, List, Option, None, Some, map, if◌then◌else◌}
use Rattle.afr_base.specs.declared.ids.Kind.{Kind}
use Rattle.afr_base.specs.declared.ids.Kind.TheVariants.{Names}
use Rattle.afr_discipline.specs.Stands.{heal_part_of, seen_as}
use Rattle.afr_discipline.specs.declared.register.Register.{Register}
use Rattle.afr_heal_round.specs.Rounding.{Rounding}
use Rattle.afr_heal_round.specs.declared.stage.RoundStage.{RoundStage}
use Rattle.afr_heal_round.specs.declared.stage.RoundStage.TheVariants.{Healing}
use Rattle.afr_model.specs.Chosen.{Picks}
use Rattle.afr_model_moves.specs.Keeps.{keeps_in}
use Rattle.afr_model_moves.specs.Register.{is_opening}
use Rattle.afr_model_moves.specs.Steps.{looks_over}
use Rattle.afr_healer.specs.declared.healer.Healer.{Healer}
use Rattle.afr_rule.specs.Choosing.{Calls, IsPick}
use Rattle.afr_rule.specs.declared.candidate.Candidate.{Candidate}
use Rattle.afr_heal_machine.specs.Healing.{Healing as Heal}
use Rattle.afr_heal_machine.specs.declared.outcome.HealOutcome.{HealOutcome}
use Rattle.afr_heal_machine.specs.declared.outcome.HealOutcome.TheVariants.{Busy, Short, Nothing, Split}

-- ---- the source of a healer
-- the first looks of a heal are over
abbrev pub has_looked : Register → Bool
has_looked p = not (is_opening (heal_part_of p.part)) || looks_over p.shape.n (keeps_in p.shape) (seen_as p) 0

-- its first locks and looks don't end a heal so
abbrev pub is_later : HealOutcome → Bool
is_later (Busy owner) = false
is_later Short = false
is_later Nothing = false
is_later Split = false
is_later outcome = true

-- a heal has a source once its first looks are over and didn't end it
abbrev pub has_chosen : Heal → Bool
has_chosen h = if h.register.broken then is_later h.outcome else has_looked h.register

-- what the rule picked for a heal of this kind: one of names asks no rule
abbrev pub picked_by : Kind → Bool → ℕ → Option ℕ
picked_by Names chosen s = None
picked_by kind chosen s = if chosen then Some s else None

abbrev pub source_in : RoundStage → Option ℕ
source_in (Healing h) = picked_by h.kind (has_chosen h) h.source.0
source_in stage = None

abbrev pub source_at : Option Rounding → Option ℕ
source_at None = None
source_at (Some m) = source_in m.stage

-- what the rule picked for the running heal of a healer; none before it was asked
abbrev pub picked_source : Healer → Option ℕ
picked_source x = source_at x.round

-- the same of each
abbrev pub sources_of : List Healer → List (Option ℕ)
sources_of healers = map picked_source healers

-- ---- what a stored rule picks
-- a candidate by its numbers
abbrev pub numbers_of : Candidate → ℕ × ℕ
numbers_of candidate = (candidate.brick.0, candidate.len)

-- the function answers this brick for these candidates
pub record IsPicked {F : Type 0} (calls : Calls F) (choose : F) (from : List (ℕ × ℕ)) (brick : ℕ) : Type 0 where
  pub candidates : List Candidate
  pub numbers : map numbers_of candidates ≡ from
  pub pick : IsPick calls choose candidates (record { 0 = brick })

abbrev pub picks_of : {F : Type 0} → Calls F → F → Picks
picks_of calls choose = IsPicked calls choose
