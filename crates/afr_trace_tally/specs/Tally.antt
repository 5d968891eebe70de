-- What is kept of a log: each field is what the definitions make of the lines so far.
use Rattle.std.specs.Prelude.{◌≡◌, ℕ, ◌<◌, ◌≤◌, List, Some, length, map, reverse, slice_get}
use Rattle.afr_base.specs.Bricks.{member}
use Rattle.afr_lines.specs.Log.{from_oldest}
use Rattle.afr_lines.specs.Work.{events_made}
use Rattle.afr_lines.specs.declared.line.Line.{Line}
use Rattle.afr_lines.specs.declared.line.Line.TheVariants.{Ask}
use Rattle.afr_model.specs.Report.{started_bricks}
use Rattle.afr_plan.specs.declared.plan.Plan.{Plan}
use Rattle.afr_trace_tally.specs.Actors.{IsActorTally}
use Rattle.afr_trace_tally.specs.Bricks.{AreBricks}
use Rattle.afr_trace_tally.specs.Contents.{AreKept, all_shown, contents_seen}
use Rattle.afr_trace_tally.specs.Entries.{all_entries}
use Rattle.afr_trace_tally.specs.Flags.{flags}
use Rattle.afr_trace_tally.specs.declared.actors.ActorTally.{ActorTally}
use Rattle.afr_trace_tally.specs.declared.tally.Tally.{Tally}

-- twenty actors are kept, by their numbers; a volume has at most sixteen clients and three healers
pub record AreActors (p : Plan) (log : List Line) (actors : List ActorTally) : Type 0 where
  pub twenty : length actors ≡ 20
  pub each : (a : ℕ) (t : ActorTally) → slice_get actors a ≡ Some t → IsActorTally p log a t

-- a line that asks is of one of twenty actors, and asks one of five bricks
abbrev pub AsksKnown : Line → Type 0
AsksKnown (Ask a b request told took) = (a.0 < 20) × (b.0 < 5)
AsksKnown line = Unit {0}

-- so it is with each line of a log
abbrev pub AreKnown : List Line → Type 0
AreKnown log = (k : ℕ) (line : Line) → from_oldest k log ≡ Some line → AsksKnown line

-- what is kept is what the log has made
pub record IsTally (p : Plan) (log : List Line) (t : Tally) : Type 0 where
  pub bricks : AreBricks p log t.bricks.items
  pub actors : AreActors p log t.actors
  pub started : t.started ≡ flags (λ b. member (started_bricks p.shape.n log) b)
  pub events : t.events ≡ events_made log
  pub few_events : t.events ≤ length log
  pub shown : reverse (map contents_seen t.shown.items) ≡ all_shown p log
  pub kept : AreKept (map contents_seen t.shown.items)
  pub entries : reverse t.entries.items ≡ all_entries p log
  pub known : AreKnown log
