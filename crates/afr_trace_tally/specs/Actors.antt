-- What is kept of one actor, and what it says of a log.
use Rattle.std.specs.Prelude.{◌≡◌, ℕ, ◌≤◌, List, length}
use Rattle.afr_lines.specs.Places.{place_of}
use Rattle.afr_lines.specs.Work.{ended, is_killed}
use Rattle.afr_lines.specs.declared.line.Line.{Line}
use Rattle.afr_model.specs.Sessions.{is_joined, is_linked}
use Rattle.afr_plan.specs.declared.plan.Plan.{Plan}
use Rattle.afr_trace_tally.specs.Flags.{flags}
use Rattle.afr_trace_tally.specs.Seen.{place_seen}
use Rattle.afr_trace_tally.specs.declared.actors.ActorTally.{ActorTally}

-- what is kept of actor a is what the log has made of it
pub record IsActorTally (p : Plan) (log : List Line) (a : ℕ) (t : ActorTally) : Type 0 where
  pub place : place_seen t.place ≡ place_of a log
  pub ended : t.ended ≡ ended a log
  pub few : t.ended ≤ length log
  pub killed : t.killed ≡ is_killed a log
  pub linked : t.linked ≡ flags (λ b. is_linked a b log)
  pub joined : t.joined ≡ flags (λ b. is_joined p a b log)
