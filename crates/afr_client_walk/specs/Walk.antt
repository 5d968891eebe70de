-- Walking a path, name by name.
use Rattle.std.specs.Prelude.{◌≡◌, ℕ, ◌+◌, ◌<◌, ◌≤◌, ◌==◌, Bool, true, false, List, [], Option, Some, None, length, slice_index_or, if◌then◌else◌}
use Rattle.afr_base.specs.Bricks.{lowest, is_nothing}
use Rattle.afr_base.specs.declared.ids.BrickId.{BrickId}
use Rattle.afr_base.specs.declared.ids.Kind.TheVariants.{Names}
use Rattle.afr_base.specs.declared.ids.NameId.{NameId}
use Rattle.afr_base.specs.declared.ids.Shape.{Shape}
use Rattle.afr_object.specs.Tables.{is_dir, root_entry}
use Rattle.afr_object.specs.declared.entry.Entry.{Entry}
use Rattle.afr_object.specs.declared.entry.View.{View}
use Rattle.afr_choice.specs.Verdict.{verdict_of}
use Rattle.afr_choice.specs.declared.verdict.Verdict.{Verdict}
use Rattle.afr_choice.specs.declared.verdict.Verdict.TheVariants as verdict
use Rattle.afr_discipline.specs.Notes.{noted_ask}
use Rattle.afr_discipline.specs.Stands.{no_lines}
use Rattle.afr_lines.specs.Told.{told_by}
use Rattle.afr_lines.specs.declared.answer.Answer.{Answer}
use Rattle.afr_lines.specs.declared.answer.Answer.TheVariants as answer
use Rattle.afr_lines.specs.declared.answer.Told.{Told}
use Rattle.afr_lines.specs.declared.request.Request.{Request}
use Rattle.afr_lines.specs.declared.request.Request.TheVariants as request
use Rattle.afr_rule.specs.declared.candidate.Candidate.{Candidate}
use Rattle.afr_client_walk.specs.Choosing.{choices_after}
use Rattle.afr_discipline.specs.Free.{IsFree}
use Rattle.afr_client_walk.specs.Looks.{no_look, left_to_look, heard_look, IsLooks}
use Rattle.afr_client_walk.specs.declared.looks.Looks.{Looks}
use Rattle.afr_client_walk.specs.declared.stop.Stop.TheVariants as stop
use Rattle.afr_client_walk.specs.declared.walk.Walk.{Walk}
use Rattle.afr_client_walk.specs.declared.walk.WalkStep.{WalkStep}
use Rattle.afr_client_walk.specs.declared.walk.WalkStep.TheVariants.{Looking, Naming, Arrived, Stopped}

-- the step after so many of the names were read: a file has no names
abbrev pub step_at : ℕ → ℕ → Entry → WalkStep
step_at names read object = if read == names then Arrived else (if is_dir object.what then Looking no_look else Stopped stop.NotDir)

-- a walk that begins
abbrev pub walk_from : Shape → List NameId → Walk
walk_from shape path = record { shape = shape; path = path; read = 0; object = root_entry; step = step_at (length path) 0 root_entry; register = no_lines shape }

-- whether the walk goes on
abbrev pub is_walking : WalkStep → Bool
is_walking (Looking s) = true
is_walking (Naming b) = true
is_walking Arrived = false
is_walking (Stopped why) = false

-- the next name of the path
abbrev pub name_in : Walk → NameId
name_in w = slice_index_or w.path w.read (record { 0 = 0 })

-- what is asked next: a look at the next brick, or the next name of the copy that was chosen
abbrev pub next_at : WalkStep → Walk → BrickId × Request
next_at (Looking s) w = (record { 0 = lowest (left_to_look w.shape.n s) }, request.Look w.object.gfid)
next_at (Naming b) w = (b, request.ReadName w.object.gfid (name_in w))
next_at step w = (record { 0 = 0 }, request.Index)

-- whom a walk asks next, and for what
abbrev pub next_in : Walk → BrickId × Request
next_in w = next_at w.step w

-- the step after a verdict: the copy that was chosen of the sources is asked for the name
abbrev pub verdict_step : BrickId → Verdict → List (Option View) → WalkStep
verdict_step chosen verdict.Short views = Stopped stop.NoQuorum
verdict_step chosen verdict.Bare views = Stopped stop.FewCopies
verdict_step chosen verdict.Split views = Stopped (stop.SplitBrain views)
verdict_step chosen (verdict.Sources sources) views = Naming chosen

-- the step after a look: the verdict comes when all were asked
abbrev pub after_looks : BrickId → Shape → Looks → WalkStep
after_looks chosen shape s = if is_nothing (left_to_look shape.n s) then verdict_step chosen (verdict_of shape s.looked Names) s.looked.views else Looking s

-- what the rule is asked for at an answer: the good copies, where it ends the looks
abbrev pub choices_at : WalkStep → Answer → Walk → List Candidate
choices_at (Looking s) heard w = choices_after w.shape Names (heard_look w.shape.n (told_by heard) s)
choices_at step heard w = []

-- the same of a whole walk
abbrev pub choices_of : Answer → Walk → List Candidate
choices_of heard w = choices_at w.step heard w

-- a name was read, or not
abbrev pub named : Answer → Walk → Walk
named (answer.Entry (Some entry)) w = record w { read = w.read + 1; object = entry; step = step_at (length w.path) (w.read + 1) entry }
named (answer.Entry None) w = record w { step = Stopped stop.NoEntry }
named heard w = record w { step = Stopped stop.Failed }

-- the register notes a request and what was told
abbrev pub noted : BrickId × Request → Told → ℕ → Walk → Walk
noted asked told at w = record w { register = noted_ask w.register at asked.0.0 asked.1 told }

-- the walk after an answer, but for its register; this copy is read next, where there is one to choose
abbrev pub walked_at : BrickId → WalkStep → Answer → Walk → Walk
walked_at chosen (Looking s) heard w = record w { step = after_looks chosen w.shape (heard_look w.shape.n (told_by heard) s) }
walked_at chosen (Naming b) heard w = named heard w
walked_at chosen step heard w = w

-- a walk after an answer to what it asked
abbrev pub walked : BrickId → Answer → ℕ → Walk → Walk
walked chosen heard at w = walked_at chosen w.step heard (noted (next_in w) (told_by heard) at w)

-- somebody is left to ask
abbrev pub IsStep : ℕ → ℕ → ℕ → WalkStep → Type 0
IsStep n names read (Looking s) = IsLooks n s × (read < names)
IsStep n names read (Naming b) = (b.0 < n) × (read < names)
IsStep n names read Arrived = read ≡ names
IsStep n names read (Stopped why) = Unit {0}

-- what every walk keeps
pub record IsWalk (w : Walk) : Type 0 where
  pub few : w.shape.n ≤ 5
  pub some : 0 < w.shape.n
  pub within : w.read ≤ length w.path
  pub step : IsStep w.shape.n (length w.path) w.read w.step
  pub free : IsFree w.shape w.register
