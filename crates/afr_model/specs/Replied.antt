-- Every reply has its cause, and every line is about what its actor's command or round names.
use Rattle.std.specs.Prelude.{◌≡◌, ◌≤◌, List, Some, slice_get}
use Rattle.afr_base.specs.declared.ids.ActorId.{ActorId}
use Rattle.afr_lines.specs.Log.{EachLine}
use Rattle.afr_lines.specs.Work.{Work, work, ended}
use Rattle.afr_lines.specs.declared.line.Line.{Line}
use Rattle.afr_lines.specs.declared.line.Line.TheVariants.{Ask, Begin, HealBegin, End, HealEnd}
use Rattle.afr_lines.specs.declared.line.Line.TheVariants as line_of
use Rattle.afr_plan.specs.declared.command.Command.{Command}
use Rattle.afr_plan.specs.declared.command.Command.TheVariants as command
use Rattle.afr_plan.specs.declared.plan.Plan.{Plan}
use Rattle.afr_model.specs.Actors.{script_of}
use Rattle.afr_model.specs.Answered.{IsAbout}
use Rattle.afr_model.specs.HealReplies.{IsHealing}
use Rattle.afr_model.specs.Renamed.{IsOfRename}

-- a line is about what its command's words name; one of a rename is about what its two paths name
abbrev pub IsOf : Plan → Command → Line → Work → Type 0
IsOf p (command.Rename from to) line w = IsOfRename p from to line w
IsOf p c line w = IsAbout p c line w

-- what a line has to do with those before it, whatever its actor's present command or round is
pub record IsOfTask (p : Plan) (a : ActorId) (line : Line) (older : List Line) : Type 0 where
  pub command : (c : Command) → slice_get (script_of p a.0) (ended a.0 older) ≡ Some c → IsOf p c line (work a.0 older)
  pub round : 17 ≤ a.0 → IsHealing p.shape line (work a.0 older)

-- a line of an actor is of its task; an event is of nobody
abbrev pub IsReplied : Plan → Line → List Line → Type 0
IsReplied p (Ask a b request told took) older = IsOfTask p a (Ask a b request told took) older
IsReplied p (Begin a change) older = IsOfTask p a (Begin a change) older
IsReplied p (HealBegin a g kind) older = IsOfTask p a (HealBegin a g kind) older
IsReplied p (End a said) older = IsOfTask p a (End a said) older
IsReplied p (HealEnd a g kind said) older = IsOfTask p a (HealEnd a g kind said) older
IsReplied p (line_of.Event event) older = Unit {0}

-- so it is with every line of the log
abbrev pub Replied : Plan → List Line → Type 0
Replied p log = EachLine (IsReplied p) log
