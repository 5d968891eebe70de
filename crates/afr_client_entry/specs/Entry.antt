-- A command on a name of a directory, step by step.
use Rattle.std.specs.Prelude.{◌≡◌, ℕ, Bool, true, false, List, [], Option, Some, None, if◌then◌else◌}
use Rattle.afr_base.specs.Bricks.{member}
use Rattle.afr_base.specs.declared.ids.BrickId.{BrickId}
use Rattle.afr_base.specs.declared.ids.Gfid.{Gfid}
use Rattle.afr_base.specs.declared.ids.Kind.TheVariants.{Names}
use Rattle.afr_base.specs.declared.ids.NameId.{NameId}
use Rattle.afr_base.specs.declared.ids.Shape.{Shape}
use Rattle.afr_object.specs.Tables.{is_dir}
use Rattle.afr_object.specs.declared.change.Load.{Load}
use Rattle.afr_object.specs.declared.change.Load.TheVariants as load
use Rattle.afr_object.specs.declared.entry.Entry.{Entry}
use Rattle.afr_choice.specs.Verdict.{good_copies}
use Rattle.afr_lines.specs.Told.{told_by}
use Rattle.afr_lines.specs.declared.answer.Answer.{Answer}
use Rattle.afr_lines.specs.declared.answer.Told.{Told}
use Rattle.afr_lines.specs.declared.line.Heard.{Heard}
use Rattle.afr_lines.specs.declared.line.Heard.TheVariants as heard
use Rattle.afr_lines.specs.declared.line.Next.{Next}
use Rattle.afr_lines.specs.declared.line.Next.TheVariants as next
use Rattle.afr_lines.specs.declared.reply.Reply.TheVariants as reply
use Rattle.afr_lines.specs.declared.request.Request.{Request}
use Rattle.afr_lines.specs.declared.request.Request.TheVariants as request
use Rattle.afr_discipline.specs.declared.register.Register.{Register}
use Rattle.afr_rule.specs.Choosing.{Calls}
use Rattle.afr_rule.specs.declared.candidate.Candidate.{Candidate}
use Rattle.afr_client_walk.specs.Choosing.{IsAmong, RuleAnswers, candidates_of, reader_of}
use Rattle.afr_client_walk.specs.Stops.{reply_of}
use Rattle.afr_client_walk.specs.Walk as walks
use Rattle.afr_client_walk.specs.Walk.{walk_from, next_in, walked, is_walking, IsWalk}
use Rattle.afr_client_walk.specs.declared.walk.Walk.{Walk}
use Rattle.afr_client_walk.specs.declared.walk.WalkStep.{WalkStep}
use Rattle.afr_client_walk.specs.declared.walk.WalkStep.TheVariants as walking
use Rattle.afr_client_transaction.specs.Between.{given_up, noted_read}
use Rattle.afr_client_transaction.specs.Made.{attempted}
use Rattle.afr_client_transaction.specs.Progress as transaction
use Rattle.afr_client_transaction.specs.Progress.{TransactionProgress, CarriesAt, begun, fed, is_beginning, starting, told_to}
use Rattle.afr_client_transaction.specs.Sound.{Sound}
use Rattle.afr_client_transaction.specs.declared.stage.Stage.{Stage}
use Rattle.afr_client_transaction.specs.declared.stage.Stage.TheVariants.{Locking, Looking, Preparing, Applying, Posting, Closing}
use Rattle.afr_client_entry.specs.Removals.Removal as removal
use Rattle.afr_client_entry.specs.Removals.Removal.{Removing, removing}
use Rattle.afr_client_entry.specs.Removals.Sound as removal_sound
use Rattle.afr_client_entry.specs.Job.{change_of, child_by, name_of, reply_to, ruled_out}
use Rattle.afr_client_entry.specs.declared.job.EntryJob.{EntryJob}
use Rattle.afr_client_entry.specs.declared.job.EntryJob.TheVariants.{Rmdir}
use Rattle.afr_client_entry.specs.declared.refusal.Refusal.{Refusal}
use Rattle.afr_client_entry.specs.declared.stage.EntryStage.{EntryStage}
use Rattle.afr_client_entry.specs.declared.stage.EntryStage.TheVariants.{Walking, Changing, Removes, Ending}
use Rattle.afr_client_entry.specs.declared.stage.Found.{Found}
use Rattle.afr_client_entry.specs.declared.stage.Found.TheVariants.{Unread, Fits, Refused}

-- a command: the path to its directory on the way, what it does with a name there, and where it stands
pub record Entering : Type 0 where
  pub walk : Walk
  pub job : EntryJob
  pub stage : EntryStage

-- ---- how it begins
-- the path has led somewhere: only a directory has names
abbrev pub at_directory : Entry → Register → EntryJob → EntryStage
at_directory dir register job = if is_dir dir.what then Changing (starting (change_of dir.gfid job) register) (Unread (record { 0 = 0 })) else Ending reply.NotDir

-- where a step of the walk leaves the command
abbrev pub after_step : WalkStep → EntryJob → Walk → EntryStage
after_step (walking.Looking s) job w = Walking
after_step (walking.Naming b) job w = Walking
after_step walking.Arrived job w = at_directory w.object w.register job
after_step (walking.Stopped why) job w = Ending (reply_of why)

-- where the walk leaves it
abbrev pub after_walk : EntryJob → Walk → EntryStage
after_walk job w = after_step w.step job w

-- a command that begins
abbrev pub entry_from : Shape → List NameId → EntryJob → Entering
entry_from shape path job = record { walk = walk_from shape path; job = job; stage = after_walk job (walk_from shape path) }

-- ---- what it asks
-- the request for the name
abbrev pub reads_name : EntryJob → Walk → Request
reads_name job w = request.ReadName w.object.gfid (name_of job)

-- the next line under the locks: the name is read before the attempt, at the copy that was chosen, and a refusal is said once no lock is left
abbrev pub next_under : Found → ℕ → EntryJob → Walk → TransactionProgress → Next
next_under (Unread b) at job w t = if is_beginning t.stage then next.Ask b (reads_name job w) else transaction.next_at t.stage at t
next_under Fits at job w t = transaction.next_at t.stage at t
next_under (Refused why) at job w t = if transaction.is_over t.stage t then next.End (reply_to why) else transaction.next_at t.stage at t

-- the next line, if it is written at this position
abbrev pub next_at : ℕ → EntryStage → EntryJob → Walk → Next
next_at at Walking job w = next.Ask (next_in w).0 (next_in w).1
next_at at (Changing t found) job w = next_under found at job w t
next_at at (Removes m) job w = removal.next_at m.stage m
next_at at (Ending said) job w = next.End said

-- what a command does next
abbrev pub next_of : ℕ → Entering → Next
next_of at m = next_at at m.stage m.job m.walk

-- whether the next line is the end
abbrev pub is_over : EntryStage → Bool
is_over Walking = false
is_over (Changing t found) = transaction.is_over t.stage t
is_over (Removes m) = removal.is_over m.stage m
is_over (Ending said) = true

-- what the lines so far show
abbrev pub register_at : EntryStage → Walk → Register
register_at (Changing t found) w = t.register
register_at (Removes m) w = m.register
register_at stage w = w.register

-- the same of a whole command
abbrev pub register_of : Entering → Register
register_of m = register_at m.stage m.walk

-- the contents that go with the next request
abbrev pub CarriesNext : EntryStage → Load → Type 0
CarriesNext (Changing t found) carried = CarriesAt t.stage carried (attempted t)
CarriesNext (Removes m) carried = removal.CarriesAt m.stage carried m.change
CarriesNext stage carried = carried ≡ load.Nothing

-- ---- what it makes of an answer
-- the name was told: nothing rules the change out, or this does
abbrev pub found_by : Option Refusal → Found
found_by None = Fits
found_by (Some why) = Refused why

-- a change that is ruled out is given up
abbrev pub settled : Option Refusal → TransactionProgress → TransactionProgress
settled None t = t
settled (Some why) t = given_up t

-- the register notes the read of the name
abbrev pub name_noted : BrickId → EntryJob → Walk → Told → ℕ → TransactionProgress → TransactionProgress
name_noted b job w told at t = noted_read b.0 (reads_name job w) told at t

-- the transaction after an answer
abbrev pub progress_after : Found → Answer → ℕ → EntryJob → Walk → TransactionProgress → TransactionProgress
progress_after (Unread b) a at job w t = if is_beginning t.stage then settled (ruled_out job a) (name_noted b job w (told_by a) at t) else fed t.stage (told_by a) at t
progress_after found a at job w t = told_to (told_by a) at t

-- what the name was found to be, after an answer; as long as it isn't read, this copy is the one to ask
abbrev pub found_after : BrickId → Found → Answer → EntryJob → Stage → Found
found_after chosen (Unread b) a job stage = if is_beginning stage then found_by (ruled_out job a) else Unread chosen
found_after chosen found a job stage = found

-- the directory that the name was found to lead to, where it is to be removed
abbrev pub child_after : Found → Answer → EntryJob → Stage → Option Gfid
child_after (Unread b) a job stage = if is_beginning stage then child_by job a else None
child_after found a job stage = None

-- the change goes on, or a removal goes on to the directory itself
abbrev pub or_removes : Option Gfid → TransactionProgress → Found → EntryStage
or_removes None t found = Changing t found
or_removes (Some child) t found = Removes (removing t.change t.register child)

-- a removal has its answer, where it has asked
abbrev pub removal_after : BrickId → Answer → ℕ → Removing → Removing
removal_after chosen a at m = if removal.is_beginning m.stage then m else removal.answered chosen m.stage a at m

-- ---- what the rule is asked for
-- the good copies of the directory, where the looks under the locks are over
abbrev pub offered : TransactionProgress → List Candidate
offered t = if is_beginning t.stage then candidates_of t.register.shape t.register.looked Names else []

-- so it is by the answer that ends them, before the name is read
abbrev pub choices_under : Found → Answer → ℕ → TransactionProgress → List Candidate
choices_under (Unread b) a at t = if is_beginning t.stage then [] else offered (fed t.stage (told_by a) at t)
choices_under found a at t = []

-- and the good copies of the directory that is removed
abbrev pub choices_removing : Answer → ℕ → Removing → List Candidate
choices_removing a at m = if removal.is_beginning m.stage then [] else removal.choices_at m.stage a at m

-- what the rule is asked for at an answer
abbrev pub choices_at : EntryStage → Answer → ℕ → Walk → List Candidate
choices_at Walking a at w = walks.choices_of a w
choices_at (Changing t found) a at w = choices_under found a at t
choices_at (Removes m) a at w = choices_removing a at m
choices_at (Ending said) a at w = []

-- ---- what follows
-- an answer moves the walk, while there is one; this copy is read next, where there is one to choose
abbrev pub walk_after : BrickId → EntryStage → Answer → ℕ → Walk → Walk
walk_after chosen Walking a at w = walked chosen a at w
walk_after chosen stage a at w = w

-- the stage after an answer, by the walk that it has moved
abbrev pub stage_after : BrickId → EntryStage → Answer → ℕ → EntryJob → Walk → EntryStage
stage_after chosen Walking a at job w = after_walk job w
stage_after chosen (Changing t found) a at job w = or_removes (child_after found a job t.stage) (progress_after found a at job w t) (found_after chosen found a job t.stage)
stage_after chosen (Removes m) a at job w = Removes (removal_after chosen a at m)
stage_after chosen (Ending said) a at job w = Ending said

-- the command after an answer at this position
abbrev pub answered : BrickId → Answer → ℕ → Entering → Entering
answered chosen a at m = record { walk = walk_after chosen m.stage a at m.walk; job = m.job; stage = stage_after chosen m.stage a at m.job (walk_after chosen m.stage a at m.walk) }

-- the transaction's attempt has its number; before the name is read it has none
abbrev pub progress_begun : Found → ℕ → TransactionProgress → TransactionProgress
progress_begun (Unread b) at t = t
progress_begun found at t = if is_beginning t.stage then begun at t else t

-- and the attempt of a removal
abbrev pub removal_begun : ℕ → Removing → Removing
removal_begun at m = if removal.is_beginning m.stage then removal.begun at m else m

-- the stage after a Begin line
abbrev pub stage_begun : EntryStage → ℕ → EntryStage
stage_begun (Changing t found) at = Changing (progress_begun found at t) found
stage_begun (Removes m) at = Removes (removal_begun at m)
stage_begun stage at = stage

-- the command after its line was written and answered
abbrev pub heard_by : BrickId → Heard → Entering → Entering
heard_by chosen (heard.Answer a at) m = answered chosen a at m
heard_by chosen (heard.Begun at) m = record m { stage = stage_begun m.stage at }

-- what the rule is asked for by what is heard
abbrev pub choices_heard : Heard → Entering → List Candidate
choices_heard (heard.Answer a at) m = choices_at m.stage a at m.walk
choices_heard (heard.Begun at) m = []

-- the command has heard this: the rule was asked where there was anything to choose from, and its copy is the one that is read
pub record IsFed {F : Type 0} (calls : Calls F) (choose : F) (of : Heard) (old new : Entering) : Type 0 where
  pub picked : Option BrickId
  pub answers : RuleAnswers calls choose (choices_heard of old) picked
  pub value : new ≡ heard_by (reader_of picked) of old

-- the same, whatever rule it was: the copy that is read is one of those
pub record IsAnswered (of : Heard) (old new : Entering) : Type 0 where
  pub chosen : BrickId
  pub among : IsAmong (choices_heard of old) chosen
  pub value : new ≡ heard_by chosen of old

-- ---- what it keeps
-- the name is read between the looks and the attempt, and what it rules out is never begun
abbrev pub fits_stage : Found → Stage → Bool
fits_stage (Unread b) Preparing = false
fits_stage (Unread b) Applying = false
fits_stage (Unread b) Posting = false
fits_stage (Unread b) stage = true
fits_stage Fits Locking = false
fits_stage Fits Looking = false
fits_stage Fits stage = true
fits_stage (Refused why) Closing = true
fits_stage (Refused why) stage = false

-- a removal of a directory never goes on as the transaction that has locked its name
abbrev pub fits_job : Found → EntryJob → Bool
fits_job Fits (Rmdir name) = false
fits_job found job = true

-- once the looks are over, the copy to ask for the name is a good one
abbrev pub HasReader : TransactionProgress → Found → Type 0
HasReader t (Unread b) = is_beginning t.stage ≡ true → member (good_copies t.register.shape t.register.looked Names) b.0 ≡ true
HasReader t found = Unit {0}

-- a sound transaction of the job's change of the directory that the path has led to
pub record IsChanging (w : Walk) (job : EntryJob) (t : TransactionProgress) (found : Found) : Type 0 where
  pub sound : Sound t
  pub of_job : t.change ≡ change_of w.object.gfid job
  pub in_turn : fits_stage found t.stage ≡ true
  pub fits : fits_job found job ≡ true
  pub reads : HasReader t found

-- a sound removal with the job's change
pub record IsRemoving (w : Walk) (job : EntryJob) (m : Removing) : Type 0 where
  pub sound : removal_sound.Sound m
  pub of_job : m.change ≡ change_of w.object.gfid job

-- the name was told to lead to a directory that is to be removed
pub record IsToRemove (w : Walk) (job : EntryJob) (t : TransactionProgress) : Type 0 where
  pub sound : Sound t
  pub of_job : t.change ≡ change_of w.object.gfid job
  pub beginning : is_beginning t.stage ≡ true
  pub removes : removal_sound.IsRemoval t.change

-- the path is on its way, or the name is locked, read and changed in this order
abbrev pub IsStage : Walk → EntryJob → EntryStage → Type 0
IsStage w job Walking = is_walking w.step ≡ true
IsStage w job (Changing t found) = IsChanging w job t found
IsStage w job (Removes m) = IsRemoving w job m
IsStage w job (Ending said) = Unit {0}

-- what every command on a name keeps
pub record IsEntry (walk : Walk) (job : EntryJob) (stage : EntryStage) : Type 0 where
  pub sound : IsWalk walk
  pub ready : IsStage walk job stage
