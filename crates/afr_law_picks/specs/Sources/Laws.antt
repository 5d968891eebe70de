-- What each line of a healer makes of its source.
use Rattle.std.specs.Prelude.{false, List, ◌∷◌, length}
use Rattle.afr_base.specs.declared.ids.ActorId.{ActorId}
use Rattle.afr_heal_round.specs.Rounding.{IsFed}
use Rattle.afr_lines.specs.declared.line.Line.{Line}
use Rattle.afr_model.specs.Chosen.{SourcePicked}
use Rattle.afr_plan.specs.declared.plan.Plan.{Plan}
use Rattle.afr_healer.specs.Acting.{Stepped}
use Rattle.afr_healer.specs.Keeping.{IsHealer}
use Rattle.afr_healer.specs.Laws.{IsBeforeRound, IsMadeReady}
use Rattle.afr_healer.specs.declared.healer.Healer.{Healer}
use Rattle.afr_rule.specs.Choosing.{Calls}
use Rattle.afr_server.specs.Serving.{Serving}
use Rattle.afr_law_picks.specs.Sources.Chosen.{RunsFrom}
use Rattle.afr_law_picks.specs.Sources.Sources.{picked_source, picks_of}

-- a line of a healer keeps its running heal to its source, and a heal that it ends had one
pub record SourceKept {F : Type 0} (calls : Calls F) (choose : F) (p : Plan) (a : ActorId) (log : List Line) (line : Line) (y : Healer) : Type 0 where
  pub picked : SourcePicked (picks_of calls choose) p line log
  pub runs : RunsFrom (picks_of calls choose) p a.0 (line ∷ log) (picked_source y)

-- so it is with each line that asks this rule, where the healers don't crawl
abbrev pub LineKeepsSource : {F : Type 0} → Calls F → F → Type 0
LineKeepsSource calls choose =
    (p : Plan) (a : ActorId) (log : List Line) (servers new : List Serving) (x y : Healer) (line : Line)
    → IsBeforeRound false p a log servers → IsHealer false p log a.0 servers x → IsMadeReady x → Stepped (IsFed calls choose) a (length log) x y servers new line
    → RunsFrom (picks_of calls choose) p a.0 log (picked_source x) → SourceKept calls choose p a log line y
