-- A given log is the plan's, though its actors may keep no other rule: each line is what the plan has for that moment.
use Rattle.std.specs.Prelude.{◌≡◌, ◌⊎◌, ℕ, ◌<◌, ◌≤◌, Bool, true, false, List, Some, length, slice_get}
use Rattle.afr_base.specs.declared.ids.BrickId.{BrickId}
use Rattle.afr_lines.specs.Log.{EachLine}
use Rattle.afr_lines.specs.Work.{Work, work, ended, is_killed}
use Rattle.afr_lines.specs.declared.line.Line.{Line}
use Rattle.afr_lines.specs.declared.line.Line.TheVariants.{Ask, Begin, HealBegin, End, HealEnd}
use Rattle.afr_lines.specs.declared.line.Line.TheVariants as line_of
use Rattle.afr_model.specs.Actors.{IsActor, rounds_of, script_of}
use Rattle.afr_model.specs.Following.{IsNextEvent, NoneDue}
use Rattle.afr_model.specs.Keeping.{KeepsTo}
use Rattle.afr_plan.specs.declared.command.Command.{Command}
use Rattle.afr_plan.specs.declared.command.Command.TheVariants as command
use Rattle.afr_plan.specs.declared.plan.Plan.{Plan}
use Rattle.afr_trace_follow.specs.Asked.{AsksThere}
use Rattle.afr_trace_follow.specs.Renaming.{KeepsToPaths}
use Rattle.afr_trace_follow.specs.Turns.{KeepsToTurns}

-- a line of a work carries out its command: one of a rename keeps to its two paths, any other to the path's names, each asked in a directory, and to the change
abbrev pub CarriesOut : Plan → Command → Line → ℕ → Work → Type 0
CarriesOut p (command.Rename from to) line at w = KeepsToPaths p from to line w
CarriesOut p c line at w = KeepsTo p c line at w × AsksThere p line w

-- a line begins or ends a heal
abbrev pub is_heal_line : Line → Bool
is_heal_line (HealBegin a g kind) = true
is_heal_line (HealEnd a g kind reply) = true
is_heal_line line = false

-- a line of a client's work goes with its command: it carries it out, or says nothing of it, as one that begins or ends a heal
abbrev pub GoesWith : Plan → Command → Line → ℕ → Work → Type 0
GoesWith p c line at w = (is_heal_line line ≡ true) ⊎ CarriesOut p c line at w

-- a line is of its actor's present command or round
pub data IsOfTask (p : Plan) (a : ℕ) (line : Line) (older : List Line) : Type 0 where
  OfCommand : (c : Command) → slice_get (script_of p a) (ended a older) ≡ Some c → GoesWith p c line (length older) (work a older) → IsOfTask p a line older
  OfRound : 17 ≤ a → (b : BrickId) → slice_get (rounds_of p a) (ended a older) ≡ Some b → KeepsToTurns p b line (work a older) → IsOfTask p a line older

-- an actor lives, and the line is of its present task
pub record HasTurn (p : Plan) (a : ℕ) (line : Line) (older : List Line) : Type 0 where
  pub actor : IsActor p a
  pub alive : is_killed a older ≡ false
  pub task : IsOfTask p a line older

-- a line is what the plan has for its moment
abbrev pub HasMoment : Plan → Line → List Line → Type 0
HasMoment p (Ask a b request told took) older = HasTurn p a.0 (Ask a b request told took) older × NoneDue p older
HasMoment p (Begin a change) older = HasTurn p a.0 (Begin a change) older × NoneDue p older
HasMoment p (HealBegin a g kind) older = HasTurn p a.0 (HealBegin a g kind) older × NoneDue p older
HasMoment p (End a reply) older = HasTurn p a.0 (End a reply) older × NoneDue p older
HasMoment p (HealEnd a g kind reply) older = HasTurn p a.0 (HealEnd a g kind reply) older × NoneDue p older
HasMoment p (line_of.Event event) older = IsNextEvent p event older

-- a line comes while the log has room, and is what the plan has for its moment
abbrev pub IsPlanned : Plan → Line → List Line → Type 0
IsPlanned p line older = (length older < p.turns) × HasMoment p line older

-- each line of the log is what the plan has for its moment
abbrev pub FollowsPlan : Plan → List Line → Type 0
FollowsPlan p log = EachLine (IsPlanned p) log
