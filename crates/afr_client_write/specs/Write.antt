-- A write, step by step.
use Rattle.std.specs.Prelude.{◌≡◌, ℕ, ◌&&◌, Bool, true, false, List, [], Option, if◌then◌else◌}
use Rattle.afr_base.specs.declared.ids.BrickId.{BrickId}
use Rattle.afr_base.specs.declared.ids.NameId.{NameId}
use Rattle.afr_base.specs.declared.ids.Shape.{Shape}
use Rattle.afr_object.specs.Tables.{is_dir, object_of}
use Rattle.afr_object.specs.declared.change.Load.{Load}
use Rattle.afr_object.specs.declared.change.Load.TheVariants as load
use Rattle.afr_object.specs.declared.entry.Entry.{Entry}
use Rattle.afr_lines.specs.Told.{told_by}
use Rattle.afr_lines.specs.declared.answer.Answer.{Answer}
use Rattle.afr_lines.specs.declared.line.Heard.{Heard}
use Rattle.afr_lines.specs.declared.line.Heard.TheVariants as heard
use Rattle.afr_lines.specs.declared.line.Next.{Next}
use Rattle.afr_lines.specs.declared.line.Next.TheVariants as next
use Rattle.afr_lines.specs.declared.reply.Good.TheVariants as good
use Rattle.afr_lines.specs.declared.reply.Reply.TheVariants as reply
use Rattle.afr_discipline.specs.declared.register.Register.{Register}
use Rattle.afr_rule.specs.Choosing.{Calls}
use Rattle.afr_rule.specs.declared.candidate.Candidate.{Candidate}
use Rattle.afr_client_walk.specs.Choosing.{IsAmong, RuleAnswers, reader_of}
use Rattle.afr_client_walk.specs.Stops.{reply_of}
use Rattle.afr_client_walk.specs.Walk as walks
use Rattle.afr_client_walk.specs.Walk.{walk_from, next_in, walked, is_walking, IsWalk}
use Rattle.afr_client_walk.specs.declared.walk.Walk.{Walk}
use Rattle.afr_client_walk.specs.declared.walk.WalkStep.{WalkStep}
use Rattle.afr_client_walk.specs.declared.walk.WalkStep.TheVariants as walking
use Rattle.afr_client_transaction.specs.Made.{attempted}
use Rattle.afr_client_transaction.specs.Progress as transaction
use Rattle.afr_client_transaction.specs.Progress.{TransactionProgress, CarriesAt, is_beginning, starting, told_to}
use Rattle.afr_client_transaction.specs.Sound.{Sound}
use Rattle.afr_client_write.specs.Job.{IsJob, change_of, is_empty, is_of_bytes, is_too_large}
use Rattle.afr_client_write.specs.declared.job.WriteJob.{WriteJob}
use Rattle.afr_client_write.specs.declared.stage.WriteStage.{WriteStage}
use Rattle.afr_client_write.specs.declared.stage.WriteStage.TheVariants.{Walking, Changing, Ending}

-- a write: its path on the way, and where it stands
pub record Write : Type 0 where
  pub walk : Walk
  pub stage : WriteStage

-- the object is found: a directory has no bytes, a write of none is done, and all else begins its transaction
abbrev pub at_object : Entry → Register → WriteJob → WriteStage
at_object object register job =
    if is_of_bytes job && is_dir object.what then Ending reply.IsDir
    else (if is_empty job then Ending (reply.Ok good.Done) else Changing (starting (change_of object.gfid job) register))

-- where a step of the walk leaves the write
abbrev pub after_step : WalkStep → WriteJob → Walk → WriteStage
after_step (walking.Looking s) job w = Walking job
after_step (walking.Naming b) job w = Walking job
after_step walking.Arrived job w = at_object w.object w.register job
after_step (walking.Stopped why) job w = Ending (reply_of why)

-- where the walk leaves it
abbrev pub after_walk : WriteJob → Walk → WriteStage
after_walk job w = after_step w.step job w

-- what is too large ends before anything is asked
abbrev pub first_stage : WriteJob → Walk → WriteStage
first_stage job w = if is_too_large job then Ending reply.TooLarge else after_walk job w

-- a write that begins
abbrev pub write_from : Shape → List NameId → WriteJob → Write
write_from shape path job = record { walk = walk_from shape path; stage = first_stage job (walk_from shape path) }

-- the next line, if it is written at this position
abbrev pub next_at : ℕ → WriteStage → Walk → Next
next_at at (Walking job) w = next.Ask (next_in w).0 (next_in w).1
next_at at (Changing t) w = transaction.next_at t.stage at t
next_at at (Ending said) w = next.End said

-- what a write does next
abbrev pub next_of : ℕ → Write → Next
next_of at m = next_at at m.stage m.walk

-- whether the next line is the end
abbrev pub is_over : WriteStage → Bool
is_over (Walking job) = false
is_over (Changing t) = transaction.is_over t.stage t
is_over (Ending said) = true

-- what the lines so far show
abbrev pub register_at : WriteStage → Walk → Register
register_at (Changing t) w = t.register
register_at stage w = w.register

-- the same of a whole write
abbrev pub register_of : Write → Register
register_of m = register_at m.stage m.walk

-- the contents that go with the next request
abbrev pub CarriesNext : WriteStage → Load → Type 0
CarriesNext (Changing t) carried = CarriesAt t.stage carried (attempted t)
CarriesNext stage carried = carried ≡ load.Nothing

-- the transaction's attempt has its number, where it begins
abbrev pub begun_in : ℕ → TransactionProgress → TransactionProgress
begun_in at t = if is_beginning t.stage then transaction.begun at t else t

-- what the rule is asked for at an answer: the good copies of a directory on the way, where it ends the looks
abbrev pub choices_at : WriteStage → Answer → Walk → List Candidate
choices_at (Walking job) a w = walks.choices_of a w
choices_at stage a w = []

-- an answer moves the walk, while there is one; this copy is read next, where there is one to choose
abbrev pub walk_after : BrickId → WriteStage → Answer → ℕ → Walk → Walk
walk_after chosen (Walking job) a at w = walked chosen a at w
walk_after chosen stage a at w = w

-- the stage after an answer, by the walk that it has moved
abbrev pub stage_after : WriteStage → Answer → ℕ → Walk → WriteStage
stage_after (Walking job) a at w = after_walk job w
stage_after (Changing t) a at w = Changing (told_to (told_by a) at t)
stage_after (Ending said) a at w = Ending said

-- the write after an answer at this position
abbrev pub answered : BrickId → Answer → ℕ → Write → Write
answered chosen a at m = record { walk = walk_after chosen m.stage a at m.walk; stage = stage_after m.stage a at (walk_after chosen m.stage a at m.walk) }

-- the stage after a Begin line
abbrev pub stage_begun : WriteStage → ℕ → WriteStage
stage_begun (Changing t) at = Changing (begun_in at t)
stage_begun stage at = stage

-- the write after its line was written and answered
abbrev pub heard_by : BrickId → Heard → Write → Write
heard_by chosen (heard.Answer a at) m = answered chosen a at m
heard_by chosen (heard.Begun at) m = record m { stage = stage_begun m.stage at }

-- what the rule is asked for by what is heard
abbrev pub choices_heard : Heard → Write → List Candidate
choices_heard (heard.Answer a at) m = choices_at m.stage a m.walk
choices_heard (heard.Begun at) m = []

-- the write has heard this: the rule was asked where there was anything to choose from, and its copy is the one that is read
pub record IsFed {F : Type 0} (calls : Calls F) (choose : F) (of : Heard) (old new : Write) : Type 0 where
  pub picked : Option BrickId
  pub answers : RuleAnswers calls choose (choices_heard of old) picked
  pub value : new ≡ heard_by (reader_of picked) of old

-- the same, whatever rule it was: the copy that is read is one of those
pub record IsAnswered (of : Heard) (old new : Write) : Type 0 where
  pub chosen : BrickId
  pub among : IsAmong (choices_heard of old) chosen
  pub value : new ≡ heard_by chosen of old

-- the path is on its way with a job that fits, or the transaction is sound and changes what the path has led to
abbrev pub IsStage : Walk → WriteStage → Type 0
IsStage w (Walking job) = (is_walking w.step ≡ true) × IsJob job
IsStage w (Changing t) = Sound t × (object_of t.change ≡ w.object.gfid)
IsStage w (Ending said) = Unit {0}

-- what every write keeps
pub record IsWrite (walk : Walk) (stage : WriteStage) : Type 0 where
  pub sound : IsWalk walk
  pub ready : IsStage walk stage
