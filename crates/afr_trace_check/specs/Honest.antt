-- What each line was told: what the brick's tables, locks and sessions at that moment give, where the numbers of a copy are sums over the log.
use Rattle.std.specs.Prelude.{◌≡◌, ℕ, suc, List, if◌then◌else◌}
use Rattle.afr_base.specs.declared.ids.ActorId.{ActorId}
use Rattle.afr_base.specs.declared.ids.Gfid.{Gfid}
use Rattle.afr_lines.specs.Log.{EachLine}
use Rattle.afr_lines.specs.declared.answer.Told.{Told}
use Rattle.afr_lines.specs.declared.answer.Told.TheVariants as told
use Rattle.afr_lines.specs.declared.line.Line.{Line}
use Rattle.afr_lines.specs.declared.line.Line.TheVariants.{Ask}
use Rattle.afr_lines.specs.declared.request.Request.{Request}
use Rattle.afr_lines.specs.declared.request.Request.TheVariants as request
use Rattle.afr_model.specs.Honest.{RequestOutcome, fault_in, is_live, over_session, requests_to, tells}
use Rattle.afr_model.specs.Sums.{has_object}
use Rattle.afr_model.specs.Tables.{holds}
use Rattle.afr_plan.specs.declared.plan.Plan.{Plan}
use Rattle.afr_trace_build.specs.Shown.{view_shown}

-- what a look at brick b is told
abbrev pub look_told : Plan → List Line → ℕ → Gfid → Told
look_told p older b g = if has_object p older g b then told.Seen (view_shown p older b g) else told.NoObject

-- what a request is told that is carried out; a look alone shows numbers
abbrev pub told_by_sums : Plan → ActorId → Request → ℕ → List Line → Told
told_by_sums p a (request.Look g) b older = look_told p older b g
told_by_sums p a asked b older = tells a asked b (holds p older b) older

-- what the brick's tables, locks and sessions, and the plan's faults, give for a request
abbrev pub outcome_by_sums : Plan → ActorId → ℕ → Request → Line → List Line → RequestOutcome
outcome_by_sums p a b asked line older = over_session (is_live p a b line older) (fault_in p.faults b (suc (requests_to b older))) (told_by_sums p a asked b older)

-- a line was told what its brick then gives
abbrev pub IsHonestBySums : Plan → Line → List Line → Type 0
IsHonestBySums p (Ask a b asked told took) older = (record { told = told; took = took }) ≡ outcome_by_sums p a b.0 asked (Ask a b asked told took) older
IsHonestBySums p line older = Unit {0}

-- each line of the log was told what its brick then gave
abbrev pub AreHonestBySums : Plan → List Line → Type 0
AreHonestBySums p log = EachLine (IsHonestBySums p) log
