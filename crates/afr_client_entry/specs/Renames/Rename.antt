-- A rename, step by step.
use Rattle.std.specs.Prelude.{◌≡◌, ℕ, ◌&&◌, not, Bool, true, false, List, [], Option, if◌then◌else◌}
use Rattle.afr_base.specs.declared.ids.BrickId.{BrickId}
use Rattle.afr_base.specs.declared.ids.NameId.{NameId}
use Rattle.afr_base.specs.declared.ids.Shape.{Shape}
use Rattle.afr_object.specs.Tables.{is_dir}
use Rattle.afr_object.specs.declared.change.Load.{Load}
use Rattle.afr_object.specs.declared.change.Load.TheVariants as load
use Rattle.afr_lines.specs.Told.{told_by}
use Rattle.afr_lines.specs.declared.answer.Answer.{Answer}
use Rattle.afr_lines.specs.declared.answer.Told.{Told}
use Rattle.afr_lines.specs.declared.line.Heard.{Heard}
use Rattle.afr_lines.specs.declared.line.Heard.TheVariants as heard
use Rattle.afr_lines.specs.declared.line.Next.{Next}
use Rattle.afr_lines.specs.declared.line.Next.TheVariants as next
use Rattle.afr_lines.specs.declared.reply.Reply.TheVariants as reply
use Rattle.afr_discipline.specs.Stands.{no_lines}
use Rattle.afr_discipline.specs.declared.register.Register.{Register}
use Rattle.afr_rule.specs.Choosing.{Calls}
use Rattle.afr_rule.specs.declared.candidate.Candidate.{Candidate}
use Rattle.afr_client_walk.specs.Choosing.{IsAmong, RuleAnswers, reader_of}
use Rattle.afr_client_walk.specs.Stops.{reply_of}
use Rattle.afr_client_walk.specs.Walk as walks
use Rattle.afr_client_walk.specs.Walk.{next_in, is_walking}
use Rattle.afr_client_walk.specs.declared.walk.WalkStep.{WalkStep}
use Rattle.afr_client_walk.specs.declared.walk.WalkStep.TheVariants as walking
use Rattle.afr_client_transaction.specs.Made.{attempted}
use Rattle.afr_client_transaction.specs.Outcome.{outcome_of}
use Rattle.afr_client_transaction.specs.Progress as transaction
use Rattle.afr_client_transaction.specs.Progress.{TransactionProgress, CarriesAt, fed, starting}
use Rattle.afr_client_transaction.specs.declared.stage.Stage.TheVariants.{Locking}
use Rattle.afr_client_transaction.specs.Again.Again.{IsPlain}
use Rattle.afr_client_entry.specs.Entry.{progress_begun}
use Rattle.afr_client_entry.specs.declared.stage.Found.{Found}
use Rattle.afr_client_entry.specs.declared.stage.Found.TheVariants.{Unread}
use Rattle.afr_client_entry.specs.Renames.Against.{against_new, against_old, half_reply, is_acknowledged}
use Rattle.afr_client_entry.specs.Renames.Paths.{IsPaths, first_walked, found_in, making_of, paths_from, reads_new, reads_old, removal_of, second_walked}
use Rattle.afr_client_entry.specs.Renames.Under.{IsUnder, choices_under, found_after, next_under, progress_after}
use Rattle.afr_client_entry.specs.declared.renaming.paths.Paths.{Paths}
use Rattle.afr_client_entry.specs.declared.renaming.stage.RenameStage.{RenameStage}
use Rattle.afr_client_entry.specs.declared.renaming.stage.RenameStage.TheVariants.{Finding, Walking, Making, Removing, Ending}

-- a rename: its paths, and where it stands
pub record Renaming : Type 0 where
  pub paths : Paths
  pub stage : RenameStage

-- a rename that begins
abbrev pub rename_from : Shape → List NameId → List NameId → Renaming
rename_from shape from to = record { paths = paths_from shape from to; stage = Finding }

-- ---- where the walks leave it
-- no copy was chosen yet
abbrev pub unread : Found
unread = Unread (record { 0 = 0 })

-- the second path has led somewhere: only a directory has names
abbrev pub at_directory : Paths → RenameStage
at_directory x = if is_dir x.second.object.what then Making (starting (making_of x x.second.object.gfid) x.second.register) unread else Ending reply.NotDir

-- where a step of the second walk leaves it
abbrev pub second_left : WalkStep → Paths → RenameStage
second_left (walking.Looking s) x = Walking
second_left (walking.Naming b) x = Walking
second_left walking.Arrived x = at_directory x
second_left (walking.Stopped why) x = Ending (reply_of why)

-- the same by the walk itself
abbrev pub after_second : Paths → RenameStage
after_second x = second_left x.second.step x

-- where a step of the first walk leaves it: a directory isn't renamed
abbrev pub first_left : WalkStep → Paths → RenameStage
first_left (walking.Looking s) x = Finding
first_left (walking.Naming b) x = Finding
first_left walking.Arrived x = if is_dir x.first.object.what then Ending reply.IsDir else after_second x
first_left (walking.Stopped why) x = Ending (reply_of why)

-- the same by the walk itself
abbrev pub after_first : Paths → RenameStage
after_first x = first_left x.first.step x

-- ---- the turn from one transaction to the other
-- the new name stands and its locks are released
abbrev pub is_done : TransactionProgress → Bool
is_done t = transaction.is_over t.stage t && is_acknowledged (outcome_of t.change t.register)

-- the second transaction before its first lock goes on with the register that the first one has left
abbrev pub turned : Paths → TransactionProgress → TransactionProgress
turned x t = starting (removal_of x) t.register

-- it asks for this lock as a transaction of a new work does
abbrev pub turned_anew : Paths → TransactionProgress → TransactionProgress
turned_anew x t = starting (removal_of x) (no_lines t.register.shape)

-- the lock was told this
abbrev pub second_begun : Told → ℕ → Paths → TransactionProgress → RenameStage
second_begun told at x t = Removing (fed Locking told at (turned x t)) unread

-- ---- what it asks
-- the next line of the first transaction, or the lock with which the second one begins
abbrev pub making_next : Found → ℕ → Paths → TransactionProgress → Next
making_next found at x t = if is_done t then transaction.next_at Locking at (turned x t) else next_under found at (reads_new x) t

-- the next line of the second one; where it isn't acknowledged the rename stays half
abbrev pub removing_next : Found → ℕ → Paths → TransactionProgress → Next
removing_next found at x t = if transaction.is_over t.stage t then next.End (half_reply (outcome_of t.change t.register)) else next_under found at (reads_old x) t

-- the next line, if it is written at this position
abbrev pub next_at : ℕ → RenameStage → Paths → Next
next_at at Finding x = next.Ask (next_in x.first).0 (next_in x.first).1
next_at at Walking x = next.Ask (next_in x.second).0 (next_in x.second).1
next_at at (Making t found) x = making_next found at x t
next_at at (Removing t found) x = removing_next found at x t
next_at at (Ending said) x = next.End said

-- the same of a whole rename
abbrev pub next_of : ℕ → Renaming → Next
next_of at m = next_at at m.stage m.paths

-- whether the next line is the end
abbrev pub is_over : RenameStage → Bool
is_over Finding = false
is_over Walking = false
is_over (Making t found) = transaction.is_over t.stage t && not (is_done t)
is_over (Removing t found) = transaction.is_over t.stage t
is_over (Ending said) = true

-- what the lines so far show
abbrev pub register_at : RenameStage → Paths → Register
register_at Finding x = x.first.register
register_at (Making t found) x = t.register
register_at (Removing t found) x = t.register
register_at stage x = x.second.register

-- the same of a whole rename
abbrev pub register_of : Renaming → Register
register_of m = register_at m.stage m.paths

-- the contents that go with the next request
abbrev pub CarriesNext : RenameStage → Load → Type 0
CarriesNext (Making t found) carried = CarriesAt t.stage carried (attempted t)
CarriesNext (Removing t found) carried = CarriesAt t.stage carried (attempted t)
CarriesNext stage carried = carried ≡ load.Nothing

-- ---- what it makes of an answer
-- what the rule is asked for at an answer
abbrev pub choices_at : RenameStage → Answer → ℕ → Paths → List Candidate
choices_at Finding a at x = walks.choices_of a x.first
choices_at Walking a at x = walks.choices_of a x.second
choices_at (Making t found) a at x = if is_done t then [] else choices_under found (told_by a) at t
choices_at (Removing t found) a at x = choices_under found (told_by a) at t
choices_at (Ending said) a at x = []

-- the paths after an answer; this copy is read next, where there is one to choose
abbrev pub paths_after : BrickId → RenameStage → Answer → ℕ → Paths → Paths
paths_after chosen Finding a at x = first_walked chosen a at x
paths_after chosen Walking a at x = second_walked chosen a at x
paths_after chosen stage a at x = x

-- the first transaction after an answer
abbrev pub making_after : BrickId → Found → Answer → ℕ → Paths → TransactionProgress → RenameStage
making_after chosen found a at x t = Making (progress_after found (against_new a) (reads_new x) (told_by a) at t) (found_after chosen found (against_new a) t.stage)

-- the second one
abbrev pub removing_after : BrickId → Found → Answer → ℕ → Paths → TransactionProgress → RenameStage
removing_after chosen found a at x t =
    Removing (progress_after found (against_old x.first.object.gfid a) (reads_old x) (told_by a) at t) (found_after chosen found (against_old x.first.object.gfid a) t.stage)

-- the stage after an answer, by the paths that it has led on
abbrev pub stage_after : BrickId → RenameStage → Answer → ℕ → Paths → RenameStage
stage_after chosen Finding a at x = after_first x
stage_after chosen Walking a at x = after_second x
stage_after chosen (Making t found) a at x = if is_done t then second_begun (told_by a) at x t else making_after chosen found a at x t
stage_after chosen (Removing t found) a at x = removing_after chosen found a at x t
stage_after chosen (Ending said) a at x = Ending said

-- the rename after an answer at this position
abbrev pub answered : BrickId → Answer → ℕ → Renaming → Renaming
answered chosen a at m = (let x = paths_after chosen m.stage a at m.paths in record { paths = x; stage = stage_after chosen m.stage a at x })

-- the stage after a Begin line
abbrev pub stage_begun : RenameStage → ℕ → RenameStage
stage_begun (Making t found) at = Making (progress_begun found at t) found
stage_begun (Removing t found) at = Removing (progress_begun found at t) found
stage_begun stage at = stage

-- the rename after its line was written and answered
abbrev pub heard_by : BrickId → Heard → Renaming → Renaming
heard_by chosen (heard.Answer a at) m = answered chosen a at m
heard_by chosen (heard.Begun at) m = record m { stage = stage_begun m.stage at }

-- what the rule is asked for by what is heard
abbrev pub choices_heard : Heard → Renaming → List Candidate
choices_heard (heard.Answer a at) m = choices_at m.stage a at m.paths
choices_heard (heard.Begun at) m = []

-- the rename has heard this: the rule was asked where there was anything to choose from, and its copy is the one that is read
pub record IsFed {F : Type 0} (calls : Calls F) (choose : F) (of : Heard) (old new : Renaming) : Type 0 where
  pub picked : Option BrickId
  pub answers : RuleAnswers calls choose (choices_heard of old) picked
  pub value : new ≡ heard_by (reader_of picked) of old

-- the same, whatever rule it was: the copy that is read is one of those
pub record IsAnswered (of : Heard) (old new : Renaming) : Type 0 where
  pub chosen : BrickId
  pub among : IsAmong (choices_heard of old) chosen
  pub value : new ≡ heard_by chosen of old

-- ---- what it keeps
-- the making of the new name, of which nothing was ever noted of a heal
pub record IsMaking (x : Paths) (t : TransactionProgress) (found : Found) : Type 0 where
  pub found_file : found_in x ≡ true
  pub under : IsUnder (making_of x x.second.object.gfid) t found
  pub plain : IsPlain t.register

-- the removal of the old name
pub record IsRemoving (x : Paths) (t : TransactionProgress) (found : Found) : Type 0 where
  pub found_file : found_in x ≡ true
  pub under : IsUnder (removal_of x) t found

-- the first path is on its way, or the second one, or a name is locked, read and changed
abbrev pub IsSound : Paths → RenameStage → Type 0
IsSound x Finding = is_walking x.first.step ≡ true
IsSound x Walking = (is_walking x.second.step ≡ true) × (found_in x ≡ true)
IsSound x (Making t found) = IsMaking x t found
IsSound x (Removing t found) = IsRemoving x t found
IsSound x (Ending said) = Unit {0}

-- what every rename keeps
pub record IsRename (x : Paths) (stage : RenameStage) : Type 0 where
  pub paths : IsPaths x
  pub sound : IsSound x stage
