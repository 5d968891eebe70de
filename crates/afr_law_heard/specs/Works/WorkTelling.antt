-- What the lines of a client's present work show of it, and what its bricks may tell.
use Rattle.std.specs.Prelude.{◌≡◌, ℕ, true, List}
use Rattle.afr_law_names.specs.Descent.Descent.{has_one_path}
use Rattle.afr_lines.specs.Work.{Work as Lines}
use Rattle.afr_lines.specs.declared.answer.Answer.{Answer}
use Rattle.afr_lines.specs.declared.line.Line.{Line}
use Rattle.afr_lines.specs.declared.request.Request.{Request}
use Rattle.afr_plan.specs.declared.command.Command.{Command}
use Rattle.afr_plan.specs.declared.plan.Plan.{Plan}
use Rattle.afr_law_client.specs.Read.Lines.{CanAnswer}
use Rattle.afr_law_client.specs.Read.ReadTelling.{ReadTells, command_of}
use Rattle.afr_law_client.specs.Write.WriteTelling.{CanHear, WriteTells}
use Rattle.afr_law_client.specs.Entry.EntryTelling as entry
use Rattle.afr_law_client.specs.Entry.EntryTelling.{EntryTells}
use Rattle.afr_law_client.specs.Rename.RenameTelling as rename
use Rattle.afr_law_client.specs.Rename.RenameTelling.{RenameTells}
use Rattle.afr_client.specs.declared.work.WorkMachine.{WorkMachine}
use Rattle.afr_client.specs.declared.work.WorkMachine.TheVariants.{Idle, Lookup, Write, Entry, Rename}

-- the lines of a work show where the machine of its command stands; a client that has no work has no command
abbrev pub WorkTells : Plan → Command → WorkMachine → Lines → Type 0
WorkTells p c Idle lines = ⊥
WorkTells p c (Lookup m) lines = (c ≡ command_of m.job m.walk.path) × ReadTells p m lines
WorkTells p c (Write m) lines = (has_one_path c ≡ true) × WriteTells p c m lines
WorkTells p c (Entry m) lines = EntryTells p c m lines
WorkTells p c (Rename m) lines = RenameTells p c m lines

-- what a brick may answer to the next request
abbrev pub WorkHears : WorkMachine → Plan → ℕ → Request → List Line → Answer → Type 0
WorkHears Idle p b request log heard = ⊥
WorkHears (Lookup m) p b request log heard = CanAnswer p b request log heard
WorkHears (Write m) p b request log heard = CanHear m.stage p m.walk.object b request log heard
WorkHears (Entry m) p b request log heard = entry.CanHear m.stage p m.walk.object b request log heard
WorkHears (Rename m) p b request log heard = rename.CanHear m.stage p m.paths b request log heard
