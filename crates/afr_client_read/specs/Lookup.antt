-- A read, step by step.
use Rattle.std.specs.Prelude.{◌≡◌, ℕ, ◌<◌, ◌==◌, Bool, true, false, List, [], Option, if◌then◌else◌}
use Rattle.afr_base.specs.Bricks.{lowest, is_nothing}
use Rattle.afr_base.specs.declared.ids.BrickId.{BrickId}
use Rattle.afr_base.specs.declared.ids.NameId.{NameId}
use Rattle.afr_base.specs.declared.ids.Shape.{Shape}
use Rattle.afr_base.specs.declared.ids.What.{What}
use Rattle.afr_object.specs.Tables.{is_dir, is_file}
use Rattle.afr_object.specs.declared.entry.Entry.{Entry}
use Rattle.afr_choice.specs.Verdict.{verdict_of}
use Rattle.afr_choice.specs.declared.looked.Looked.{Looked}
use Rattle.afr_choice.specs.declared.verdict.Verdict.{Verdict}
use Rattle.afr_choice.specs.declared.verdict.Verdict.TheVariants as verdict
use Rattle.afr_lines.specs.Told.{told_by}
use Rattle.afr_lines.specs.declared.answer.Answer.{Answer}
use Rattle.afr_lines.specs.declared.line.Heard.{Heard}
use Rattle.afr_lines.specs.declared.line.Heard.TheVariants as heard
use Rattle.afr_lines.specs.declared.line.Next.{Next}
use Rattle.afr_lines.specs.declared.line.Next.TheVariants as next
use Rattle.afr_lines.specs.declared.reply.Good.TheVariants as good
use Rattle.afr_lines.specs.declared.reply.Reply.TheVariants as reply
use Rattle.afr_lines.specs.declared.request.Request.{Request}
use Rattle.afr_lines.specs.declared.request.Request.TheVariants as request
use Rattle.afr_rule.specs.Choosing.{Calls}
use Rattle.afr_rule.specs.declared.candidate.Candidate.{Candidate}
pub use Rattle.afr_choice.specs.Looks.{len_in}
pub use Rattle.afr_rule.specs.Copies.{len_at}
use Rattle.afr_client_walk.specs.Choosing.{IsAmong, RuleAnswers, choices_after, reader_of}
use Rattle.afr_client_walk.specs.Looks.{no_look, left_to_look, heard_look, IsLooks}
use Rattle.afr_client_walk.specs.Stops.{reply_of}
use Rattle.afr_client_walk.specs.Walk as walks
use Rattle.afr_client_walk.specs.Walk.{walk_from, next_in, noted, walked, is_walking, IsWalk}
use Rattle.afr_client_walk.specs.declared.looks.Looks.{Looks}
use Rattle.afr_client_walk.specs.declared.walk.Walk.{Walk}
use Rattle.afr_client_walk.specs.declared.walk.WalkStep.{WalkStep}
use Rattle.afr_client_walk.specs.declared.walk.WalkStep.TheVariants as walking
use Rattle.afr_client_read.specs.Job.{kind_of, request_of, reply_to}
use Rattle.afr_client_read.specs.declared.job.Wanted.TheVariants as content
use Rattle.afr_client_read.specs.declared.job.LookupJob.{LookupJob}
use Rattle.afr_client_read.specs.declared.job.LookupJob.TheVariants.{Read, GetAttr, Ls, Stat}
use Rattle.afr_client_read.specs.declared.stage.LookupStage.{LookupStage}
use Rattle.afr_client_read.specs.declared.stage.LookupStage.TheVariants.{Walking, Looking, Reading, Ending}

-- a read: its path on the way, what is to be read, and where it stands
pub record Lookup : Type 0 where
  pub walk : Walk
  pub job : LookupJob
  pub stage : LookupStage

-- the copies of what was found are looked at; a directory has no bytes, and a file no names
abbrev pub at_object : LookupJob → What → LookupStage
at_object (Read at len) what = if is_dir what then Ending reply.IsDir else Looking no_look
at_object Ls what = if is_file what then Ending reply.NotDir else Looking no_look
at_object other what = Looking no_look

-- where a step of the walk leaves the read
abbrev pub after_step : WalkStep → LookupJob → Walk → LookupStage
after_step (walking.Looking s) job w = Walking
after_step (walking.Naming b) job w = Walking
after_step walking.Arrived job w = at_object job w.object.what
after_step (walking.Stopped why) job w = Ending (reply_of why)

-- where the walk leaves it
abbrev pub after_walk : LookupJob → Walk → LookupStage
after_walk job w = after_step w.step job w

-- a read that begins
abbrev pub lookup_from : Shape → List NameId → LookupJob → Lookup
lookup_from shape path job = record { walk = walk_from shape path; job = job; stage = after_walk job (walk_from shape path) }

-- whom a read asks, and for what
abbrev pub asked_at : LookupStage → Walk → BrickId × Request
asked_at Walking w = next_in w
asked_at (Looking s) w = (record { 0 = lowest (left_to_look w.shape.n s) }, request.Look w.object.gfid)
asked_at (Reading b of) w = (b, request_of w.object.gfid of)
asked_at (Ending said) w = (record { 0 = 0 }, request.Index)

-- the next line of a read
abbrev pub next_at : LookupStage → Walk → Next
next_at (Ending said) w = next.End said
next_at stage w = next.Ask (asked_at stage w).0 (asked_at stage w).1

-- what a lookup does next
abbrev pub next_of : Lookup → Next
next_of m = next_at m.stage m.walk

-- whether the next line is a request
abbrev pub is_asking : LookupStage → Bool
is_asking (Ending said) = false
is_asking stage = true

-- a read of no bytes and a stat end at once, each other one asks the copy
abbrev pub from_copy : LookupJob → Entry → Looked → BrickId → LookupStage
from_copy (Read at len) object looked b = if len == 0 then Ending (reply.Ok (good.Bytes [])) else Reading b (content.Bytes at len)
from_copy (GetAttr key) object looked b = Reading b (content.Value key)
from_copy Ls object looked b = Reading b content.Names
from_copy Stat object looked b = Ending (reply.Ok (good.Stat object (len_at b.0 looked)))

-- what the verdict on the object's copies makes of the read: the one that was chosen of the good ones is read
abbrev pub object_judged : BrickId → LookupJob → Entry → Verdict → Looked → LookupStage
object_judged chosen job object verdict.Short looked = Ending reply.NoQuorum
object_judged chosen job object verdict.Bare looked = Ending reply.FewCopies
object_judged chosen job object verdict.Split looked = Ending (reply.SplitBrain looked.views)
object_judged chosen job object (verdict.Sources sources) looked = from_copy job object looked chosen

-- the stage after a look: the verdict comes when all were asked
abbrev pub object_looked : BrickId → Shape → LookupJob → Entry → Looks → LookupStage
object_looked chosen shape job object s = if is_nothing (left_to_look shape.n s) then object_judged chosen job object (verdict_of shape s.looked (kind_of job object.what)) s.looked else Looking s

-- what the rule is asked for at an answer: the good copies of what is looked at, where it ends the looks
abbrev pub choices_at : LookupStage → Answer → LookupJob → Walk → List Candidate
choices_at Walking a job w = walks.choices_of a w
choices_at (Looking s) a job w = choices_after w.shape (kind_of job w.object.what) (heard_look w.shape.n (told_by a) s)
choices_at stage a job w = []

-- the same of a whole read
abbrev pub choices_of : Answer → Lookup → List Candidate
choices_of a m = choices_at m.stage a m.job m.walk

-- an answer moves the walk, or is noted in its register; this copy is read next, where there is one to choose
abbrev pub walk_after : BrickId → LookupStage → Answer → ℕ → Walk → Walk
walk_after chosen Walking a at w = walked chosen a at w
walk_after chosen (Looking s) a at w = noted (asked_at (Looking s) w) (told_by a) at w
walk_after chosen (Reading b of) a at w = noted (asked_at (Reading b of) w) (told_by a) at w
walk_after chosen (Ending said) a at w = w

-- the stage after an answer, by the walk that it has moved
abbrev pub stage_after : BrickId → LookupStage → Answer → LookupJob → Walk → LookupStage
stage_after chosen Walking a job w = after_walk job w
stage_after chosen (Looking s) a job w = object_looked chosen w.shape job w.object (heard_look w.shape.n (told_by a) s)
stage_after chosen (Reading b of) a job w = Ending (reply_to a)
stage_after chosen (Ending said) a job w = Ending said

-- the read after an answer at this position
abbrev pub answered : BrickId → Answer → ℕ → Lookup → Lookup
answered chosen a at m = record { walk = walk_after chosen m.stage a at m.walk; job = m.job; stage = stage_after chosen m.stage a m.job (walk_after chosen m.stage a at m.walk) }

-- the read after its line was written and answered
abbrev pub heard_by : BrickId → Heard → Lookup → Lookup
heard_by chosen (heard.Answer a at) m = answered chosen a at m
heard_by chosen (heard.Begun at) m = m

-- what the rule is asked for by what is heard
abbrev pub choices_heard : Heard → Lookup → List Candidate
choices_heard (heard.Answer a at) m = choices_of a m
choices_heard (heard.Begun at) m = []

-- the read has heard this: the rule was asked where there was anything to choose from, and its copy is the one that is read
pub record IsFed {F : Type 0} (calls : Calls F) (choose : F) (of : Heard) (old new : Lookup) : Type 0 where
  pub picked : Option BrickId
  pub answers : RuleAnswers calls choose (choices_heard of old) picked
  pub value : new ≡ heard_by (reader_of picked) of old

-- the same, whatever rule it was: the copy that is read is one of those
pub record IsAnswered (of : Heard) (old new : Lookup) : Type 0 where
  pub chosen : BrickId
  pub among : IsAmong (choices_heard of old) chosen
  pub value : new ≡ heard_by chosen of old

-- somebody is left to ask
abbrev pub IsStage : ℕ → WalkStep → LookupStage → Type 0
IsStage n step Walking = is_walking step ≡ true
IsStage n step (Looking s) = IsLooks n s
IsStage n step (Reading b of) = b.0 < n
IsStage n step (Ending said) = Unit {0}

-- what every read keeps
pub record IsLookup (walk : Walk) (stage : LookupStage) : Type 0 where
  pub sound : IsWalk walk
  pub ready : IsStage walk.shape.n walk.step stage
