-- Which of the good copies is read: what the read rule is asked for, and what it answers.
use Rattle.std.specs.Prelude.{◌≡◌, ℕ, ◌<◌, ◌==◌, Bool, true, false, List, [], Option, Some, None, length, map, if◌then◌else◌}
use Rattle.std.specs.List.{list_any}
use Rattle.afr_base.specs.Bricks.{is_nothing}
use Rattle.afr_base.specs.declared.ids.BrickId.{BrickId}
use Rattle.afr_base.specs.declared.ids.Kind.{Kind}
use Rattle.afr_base.specs.declared.ids.Shape.{Shape}
use Rattle.afr_choice.specs.Verdict.{good_copies, verdict_of}
use Rattle.afr_choice.specs.declared.looked.Looked.{Looked}
use Rattle.afr_choice.specs.declared.verdict.Verdict.{Verdict}
use Rattle.afr_choice.specs.declared.verdict.Verdict.TheVariants.{Sources}
use Rattle.afr_rule.specs.Choosing.{Calls, IsPick}
use Rattle.afr_rule.specs.Copies.{copy_in}
use Rattle.afr_rule.specs.declared.candidate.Candidate.{Candidate}
use Rattle.afr_client_walk.specs.Looks.{left_to_look}
use Rattle.afr_client_walk.specs.declared.looks.Looks.{Looks}

-- ---- what it is asked for
-- the good copies, the lowest first
abbrev pub candidates_of : Shape → Looked → Kind → List Candidate
candidates_of shape looked kind = map (copy_in looked) (good_copies shape looked kind)

abbrev pub has_sources : Verdict → Bool
has_sources (Sources sources) = true
has_sources other = false

-- what the rule chooses from: the good copies where the verdict has sources, and else nothing
abbrev pub choices : Shape → Looked → Kind → List Candidate
choices shape looked kind = if has_sources (verdict_of shape looked kind) then candidates_of shape looked kind else []

-- the same once all bricks were looked at, and before that nothing
abbrev pub choices_after : Shape → Kind → Looks → List Candidate
choices_after shape kind s = if is_nothing (left_to_look shape.n s) then choices shape s.looked kind else []

-- ---- what it answers
-- the rule was asked where there is anything to choose from, and picked this brick of it
abbrev pub RuleAnswers : {F : Type 0} → Calls F → F → List Candidate → Option BrickId → Type 0
RuleAnswers calls choose from None = from ≡ []
RuleAnswers calls choose from (Some b) = IsPick calls choose from b

-- whether a brick's copy is one of these
abbrev pub offers : List Candidate → ℕ → Bool
offers from b = list_any (λ candidate. candidate.brick.0 == b) from

-- whatever rule it was: where there is anything to choose from, the brick is one of it
abbrev pub IsAmong : List Candidate → BrickId → Type 0
IsAmong from b = 0 < length from → offers from b.0 ≡ true

-- the brick that was picked; where the rule wasn't asked, nothing is read there
abbrev pub reader_of : Option BrickId → BrickId
reader_of None = record { 0 = 0 }
reader_of (Some b) = b
