-- A work asks the bricks of each of its locks in rising order, whatever they answer.
use Rattle.std.proofs.Common.{◌≡◌, ℕ, ◌&&◌, Bool, true, false, inl, inr, refl, sym, ◌∙◌, subst, ap, List, [], Option, Some, None, true≢false}
use Rattle.std.specs.Prelude.{if◌then◌else◌}
use Rattle.afr_client_transaction.proofs.Again.AgainLemmas.{rests}
use Rattle.afr_client_transaction.proofs.Again.FollowsLemmas.{again_sound}
use Rattle.afr_client_transaction.specs.Again.Again.{opened}
use Rattle.afr_base.specs.Bricks.{lowest}
use Rattle.afr_base.specs.declared.ids.BrickId.{BrickId}
use Rattle.afr_base.specs.declared.ids.Gfid.{Gfid}
use Rattle.afr_base.specs.declared.ids.Shape.{Shape}
use Rattle.afr_discipline.specs.declared.register.Register.{Register}
use Rattle.afr_client_entry.specs.Entry as entry
use Rattle.afr_client_entry.specs.Entry.{Entering}
use Rattle.afr_client_entry.specs.Job.{child_by, ruled_out}
use Rattle.afr_client_entry.specs.Job as on_name
use Rattle.afr_client_entry.specs.declared.job.EntryJob.{EntryJob}
use Rattle.afr_client_entry.specs.declared.job.EntryJob.TheVariants as name
use Rattle.afr_client_entry.specs.declared.refusal.Refusal.{Refusal}
use Rattle.afr_client_entry.specs.declared.stage.EntryStage.TheVariants as entering
use Rattle.afr_client_entry.specs.declared.stage.EntryStage.{EntryStage}
use Rattle.afr_client_entry.specs.declared.stage.Found.TheVariants as found_of
use Rattle.afr_client_entry.specs.declared.stage.Found.{Found}
use Rattle.afr_client_write.specs.Job as write_jobs
use Rattle.afr_client_write.specs.Write as write
use Rattle.afr_client_write.specs.declared.job.WriteJob.TheVariants as write_job
use Rattle.afr_client_write.specs.declared.job.WriteJob.{WriteJob}
use Rattle.afr_client_write.specs.declared.stage.WriteStage.TheVariants as writing
use Rattle.afr_client_write.specs.declared.stage.WriteStage.{WriteStage}
use Rattle.afr_lines.specs.Told.{told_by}
use Rattle.afr_lines.specs.declared.answer.Answer.{Answer}
use Rattle.afr_lines.specs.declared.answer.Told.{Told}
use Rattle.afr_lines.specs.declared.reply.Good.TheVariants as good
use Rattle.afr_lines.specs.declared.reply.Reply.TheVariants as reply
use Rattle.afr_lines.specs.declared.request.Request.{Request}
use Rattle.afr_object.specs.Tables.{is_dir}
use Rattle.afr_law_pace.proofs.Order.{Rises, starts_queued, stays_queued}
use Rattle.afr_law_pace.specs.Left.{IsQueued as Queued}
use Rattle.afr_plan.specs.declared.command.Command.TheVariants as command
use Rattle.afr_client_entry.proofs.Removals.KeptLemmas.{asking_of as removal_asking}
use Rattle.afr_client_entry.specs.Removals.Removal as removal
use Rattle.afr_client_entry.specs.Removals.Removal.{Removing}
use Rattle.afr_client_entry.specs.Removals.Sound as removing
use Rattle.afr_law_order.proofs.Asking.{starts_queued as removal_starts, stays_queued as removal_stays}
use Rattle.afr_law_order.proofs.Rows.{keeps_row, none_rises}
use Rattle.afr_law_order.specs.Queue as removal_queue
use Rattle.afr_client_entry.proofs.Renames.RenameLemmas.{done_is, over_not_done}
use Rattle.afr_client_entry.specs.Renames.Against.{against_new, against_old}
use Rattle.afr_client_entry.specs.Renames.Paths.{first_walked, front, last, making_of, reads_new, reads_old, removal_of, second_walked}
use Rattle.afr_client_entry.specs.Renames.Rename as rename
use Rattle.afr_client_entry.specs.Renames.Rename.{IsMaking, Renaming, is_done, turned}
use Rattle.afr_client_entry.specs.Renames.Under.{progress_after}
use Rattle.afr_client_entry.specs.declared.renaming.paths.Paths.{Paths}
use Rattle.afr_client_entry.specs.declared.renaming.stage.RenameStage.TheVariants as renaming
use Rattle.afr_client_entry.specs.declared.renaming.stage.RenameStage.{RenameStage}
use Rattle.afr_client_transaction.proofs.Kept.{answers_line, asking_of, sound_first, stays_sound}
use Rattle.afr_client_transaction.proofs.ReadLemmas.{kept_read}
use Rattle.afr_client_transaction.specs.Between.{noted_read}
use Rattle.afr_client_transaction.specs.Progress as transaction
use Rattle.afr_client_transaction.specs.Progress.{TransactionProgress, answered, begun, fed, is_beginning, left, request_at, starting}
use Rattle.afr_client_transaction.specs.Sound.{IsAsking, Sound}
use Rattle.afr_client_transaction.specs.declared.stage.Stage.TheVariants.{Applying, Beginning, Closing, Locking, Looking, Posting, Preparing}
use Rattle.afr_client_transaction.specs.declared.stage.Stage.{Stage}
use Rattle.afr_client_walk.proofs.WalkLemmas.{is_walked}
use Rattle.afr_client_walk.specs.Choosing.{IsAmong}
use Rattle.afr_discipline.specs.Free.{IsFree}
use Rattle.afr_client_walk.specs.Walk.{walk_from, walked}
use Rattle.afr_client_walk.specs.declared.walk.Walk.{Walk}
use Rattle.afr_client_walk.specs.declared.walk.WalkStep.TheVariants as walking
use Rattle.afr_client_walk.specs.declared.walk.WalkStep.{WalkStep}
use Rattle.afr_law_order.specs.Work.Queue.{IsQueuedEntry, IsQueuedRename, IsQueuedWrite, WorkBeginsQueued, WorkBegunQueued, WorkStaysQueued}
use Rattle.afr_client.proofs.WorkLemmas.{asks_more}
use Rattle.afr_client.specs.declared.work.WorkMachine.TheVariants.{Entry, Idle, Lookup, Rename, Write}

-- ---- the path has led somewhere
-- no lock is held on the way
free_row : (shape : Shape) (r : Register) → IsFree shape r → Rises r.held
free_row shape r f = subst (λ (s : List ℕ). Rises s) (sym (none f)) none_rises
  where
    none : IsFree shape r → r.held ≡ []
    none (inl e) = ap (λ (x : Register). x.held) e
    none (inr e) = ap (λ (x : Register). x.held) e

write_led : (job : WriteJob) (w : Walk) → IsQueuedWrite (write.after_walk job w)
write_led job w = go w.step
  where
    here : (x y : Bool) → IsQueuedWrite (if x then writing.Ending reply.IsDir else (if y then writing.Ending (reply.Ok good.Done) else writing.Changing (starting (write_jobs.change_of w.object.gfid job) w.register)))
    here true y = tt
    here false true = tt
    here false false = starts_queued (write_jobs.change_of w.object.gfid job) w.register

    go : (step : WalkStep) → IsQueuedWrite (write.after_step step job w)
    go (walking.Looking s) = tt
    go (walking.Naming b) = tt
    go walking.Arrived = here (write_jobs.is_of_bytes job && is_dir w.object.what) (write_jobs.is_empty job)
    go (walking.Stopped why) = tt

entry_led : (job : EntryJob) (w : Walk) → Rises w.register.held → IsQueuedEntry (entry.after_walk job w)
entry_led job w row = go w.step
  where
    here : (x : Bool) → IsQueuedEntry (if x then entering.Changing (starting (on_name.change_of w.object.gfid job) w.register) (found_of.Unread (record { 0 = 0 })) else entering.Ending reply.NotDir)
    here true = (starts_queued (on_name.change_of w.object.gfid job) w.register, row)
    here false = tt

    go : (step : WalkStep) → IsQueuedEntry (entry.after_step step job w)
    go (walking.Looking s) = tt
    go (walking.Naming b) = tt
    go walking.Arrived = here (is_dir w.object.what)
    go (walking.Stopped why) = tt

second_led : (x : Paths) → IsQueuedRename (rename.after_second x)
second_led x = go x.second.step
  where
    here : (d : Bool) → IsQueuedRename (if d then renaming.Making (starting (making_of x x.second.object.gfid) x.second.register) rename.unread else renaming.Ending reply.NotDir)
    here true = starts_queued (making_of x x.second.object.gfid) x.second.register
    here false = tt

    go : (step : WalkStep) → IsQueuedRename (rename.second_left step x)
    go (walking.Looking s) = tt
    go (walking.Naming b) = tt
    go walking.Arrived = here (is_dir x.second.object.what)
    go (walking.Stopped why) = tt

first_led : (x : Paths) → IsQueuedRename (rename.after_first x)
first_led x = go x.first.step
  where
    here : (d : Bool) → IsQueuedRename (if d then renaming.Ending reply.IsDir else rename.after_second x)
    here true = tt
    here false = second_led x

    go : (step : WalkStep) → IsQueuedRename (rename.first_left step x)
    go (walking.Looking s) = tt
    go (walking.Naming b) = tt
    go walking.Arrived = here (is_dir x.first.object.what)
    go (walking.Stopped why) = tt

-- ---- a work begins
write_begins : (w : Walk) (job : WriteJob) → IsQueuedWrite (write.first_stage job w)
write_begins w job = go (write_jobs.is_too_large job)
  where
    go : (large : Bool) → IsQueuedWrite (if large then writing.Ending reply.TooLarge else write.after_walk job w)
    go true = tt
    go false = write_led job w

pub work_begins : WorkBeginsQueued
work_begins shape (command.Write path at bytes) = write_begins (walk_from shape path) (write_job.Write at bytes)
work_begins shape (command.Cut path len) = write_begins (walk_from shape path) (write_job.Cut len)
work_begins shape (command.SetAttr path key value) = write_begins (walk_from shape path) (write_job.SetAttr key value)
work_begins shape (command.Read path at len) = tt
work_begins shape (command.GetAttr path key) = tt
work_begins shape (command.Ls path) = tt
work_begins shape (command.Stat path) = tt
work_begins shape (command.Create path) = entry_led (name.Create (last path)) (walk_from shape (front path)) none_rises
work_begins shape (command.Mkdir path) = entry_led (name.Mkdir (last path)) (walk_from shape (front path)) none_rises
work_begins shape (command.Unlink path) = entry_led (name.Unlink (last path)) (walk_from shape (front path)) none_rises
work_begins shape (command.Rmdir path) = entry_led (name.Rmdir (last path)) (walk_from shape (front path)) none_rises
work_begins shape (command.Rename from to) = tt

-- ---- a transaction
abbrev IsNow : TransactionProgress → Type 0
IsNow t = Queued t.stage t

abbrev HasRow : TransactionProgress → Type 0
HasRow t = Rises t.register.held

-- what each answer to a transaction keeps is kept by what it hears
told_keeps : (P : TransactionProgress → Type 0) (t : TransactionProgress) → Sound t → transaction.is_over t.stage t ≡ false → (told : Told) (at : ℕ) → (IsAsking t.stage t → P (answered t.stage told at t)) → is_beginning t.stage ≡ false → P (fed t.stage told at t)
told_keeps P t s more told at h e =
    let away : t.stage ≡ Beginning → ⊥ = λ k. true≢false (sym (ap (λ (x : Stage). is_beginning x) k) ∙ e) in
    subst P (answers_line t.stage told at t away) (h (asking_of t.stage t s.ready more away))

told_now : (t : TransactionProgress) → Sound t → IsNow t → transaction.is_over t.stage t ≡ false → (told : Told) (at : ℕ) → is_beginning t.stage ≡ false → IsNow (fed t.stage told at t)
told_now t s q more told at = told_keeps IsNow t s more told at (λ asks. stays_queued t s asks q told at)

told_row : (t : TransactionProgress) → Sound t → HasRow t → transaction.is_over t.stage t ≡ false → (told : Told) (at : ℕ) → is_beginning t.stage ≡ false → HasRow (fed t.stage told at t)
told_row t s row more told at = told_keeps HasRow t s more told at (λ asks. keeps_row t.register at (lowest (left t.stage t)) (request_at t.stage t) told row)

-- where it has no lock to ask for, it is in order
begins_now : (stage : Stage) (t : TransactionProgress) → is_beginning stage ≡ true → Queued stage t
begins_now Beginning t e = tt
begins_now Locking t e = absurd (cc e)
begins_now Looking t e = absurd (cc e)
begins_now Preparing t e = absurd (cc e)
begins_now Applying t e = absurd (cc e)
begins_now Posting t e = absurd (cc e)
begins_now Closing t e = absurd (cc e)

-- ---- a write
write_told : (m : write.Write) → write.IsWrite m.walk m.stage → IsQueuedWrite m.stage → write.is_over m.stage ≡ false → (chosen : BrickId) (a : Answer) (at : ℕ) → IsQueuedWrite (write.answered chosen a at m).stage
write_told m k q more chosen a at = go m.stage k.ready q more
  where
    go : (stage : WriteStage) → write.IsStage m.walk stage → IsQueuedWrite stage → write.is_over stage ≡ false → IsQueuedWrite (write.stage_after stage a at (write.walk_after chosen stage a at m.walk))
    go (writing.Walking job) i q more = write_led job (walked chosen a at m.walk)
    go (writing.Changing t) i q more = told (is_beginning t.stage) refl
      where
        told : (e : Bool) → is_beginning t.stage ≡ e → IsNow (if e then t else fed t.stage (told_by a) at t)
        told true e = q
        told false e = told_now t i.0 q more (told_by a) at e
    go (writing.Ending said) i q more = tt

write_begun : (stage : WriteStage) → IsQueuedWrite stage → (at : ℕ) → IsQueuedWrite (write.stage_begun stage at)
write_begun (writing.Walking job) q at = tt
write_begun (writing.Changing t) q at = go (is_beginning t.stage)
  where
    go : (e : Bool) → IsNow (if e then begun at t else t)
    go true = tt
    go false = q
write_begun (writing.Ending said) q at = tt

-- ---- a command on a name
module _ (w : Walk) (job : EntryJob) (t : TransactionProgress) (sound : Sound t) (row : HasRow t) (a : Answer) (at : ℕ) where
  -- the name was told
  abbrev noted : BrickId → TransactionProgress
  noted b = entry.name_noted b job w (told_by a) at t

  noted_row : (b : BrickId) → HasRow (noted b)
  noted_row b = keeps_row t.register at b.0 (entry.reads_name job w) (told_by a) row

  named : (b : BrickId) → is_beginning t.stage ≡ true → (why : Option Refusal) (child : Option Gfid) (found : Found) → IsQueuedEntry (entry.or_removes child (entry.settled why (noted b)) found)
  named b e None None found = (begins_now t.stage (noted b) e, noted_row b)
  named b e (Some why) None found = (tt, noted_row b)
  named b e None (Some g) found = removal_starts (noted b).change (noted b).register g (noted_row b) (kept_read t sound e b.0 (entry.reads_name job w) refl (told_by a) at).base.none_second
  named b e (Some why) (Some g) found = removal_starts (noted b).change (noted b).register g (noted_row b) (kept_read t sound e b.0 (entry.reads_name job w) refl (told_by a) at).base.none_second

  module _ (q : IsNow t) (more : transaction.is_over t.stage t ≡ false) (chosen : BrickId) where
    answered_now : is_beginning t.stage ≡ false → IsNow (fed t.stage (told_by a) at t) × HasRow (fed t.stage (told_by a) at t)
    answered_now e = (told_now t sound q more (told_by a) at e, told_row t sound row more (told_by a) at e)

    told_to : (e : Bool) → is_beginning t.stage ≡ e → IsNow (if e then t else fed t.stage (told_by a) at t) × HasRow (if e then t else fed t.stage (told_by a) at t)
    told_to true e = (q, row)
    told_to false e = answered_now e

    unread : (b : BrickId) (e : Bool) → is_beginning t.stage ≡ e
        → IsQueuedEntry (entry.or_removes (if e then child_by job a else None) (if e then entry.settled (ruled_out job a) (noted b) else fed t.stage (told_by a) at t) (if e then entry.found_by (ruled_out job a) else found_of.Unread chosen))
    unread b true e = named b e (ruled_out job a) (child_by job a) (entry.found_by (ruled_out job a))
    unread b false e = answered_now e

    changing : (found : Found) → IsQueuedEntry (entry.stage_after chosen (entering.Changing t found) a at job w)
    changing (found_of.Unread b) = unread b (is_beginning t.stage) refl
    changing found_of.Fits = told_to (is_beginning t.stage) refl
    changing (found_of.Refused why) = told_to (is_beginning t.stage) refl

removal_told : (m : Removing) → removing.Sound m → removal_queue.IsQueued m.stage m → removal.is_over m.stage m ≡ false → (chosen : BrickId) (a : Answer) (at : ℕ) → IsQueuedEntry (entering.Removes (entry.removal_after chosen a at m))
removal_told m s q more chosen a at = go (removal.is_beginning m.stage) refl
  where
    go : (e : Bool) → removal.is_beginning m.stage ≡ e → IsQueuedEntry (entering.Removes (if e then m else removal.answered chosen m.stage a at m))
    go true e = q
    go false e = removal_stays m s (removal_asking m.stage m s.ready more e) q chosen a at

entry_told : (m : Entering) → entry.IsEntry m.walk m.job m.stage → IsQueuedEntry m.stage → entry.is_over m.stage ≡ false → (chosen : BrickId) (a : Answer) (at : ℕ) → IsAmong (entry.choices_at m.stage a at m.walk) chosen
    → IsQueuedEntry (entry.answered chosen a at m).stage
entry_told m k q more chosen a at among = go m.stage k.ready q more among
  where
    go : (stage : EntryStage) → entry.IsStage m.walk m.job stage → IsQueuedEntry stage → entry.is_over stage ≡ false → IsAmong (entry.choices_at stage a at m.walk) chosen
        → IsQueuedEntry (entry.stage_after chosen stage a at m.job (entry.walk_after chosen stage a at m.walk))
    go entering.Walking i q more among = (let new = is_walked chosen a at m.walk k.sound i among in entry_led m.job (walked chosen a at m.walk) (free_row (walked chosen a at m.walk).shape (walked chosen a at m.walk).register new.free))
    go (entering.Changing t found) i q more among = changing m.walk m.job t i.sound q.1 a at q.0 more chosen found
    go (entering.Removes y) i q more among = removal_told y i.sound q more chosen a at
    go (entering.Ending said) i q more among = tt

entry_begun : (stage : EntryStage) → IsQueuedEntry stage → (at : ℕ) → IsQueuedEntry (entry.stage_begun stage at)
entry_begun entering.Walking q at = tt
entry_begun (entering.Changing t found) q at = by_name found
  where
    go : (e : Bool) → IsNow (if e then begun at t else t) × HasRow (if e then begun at t else t)
    go true = (tt, q.1)
    go false = q

    by_name : (found : Found) → IsQueuedEntry (entering.Changing (entry.progress_begun found at t) found)
    by_name (found_of.Unread b) = q
    by_name found_of.Fits = go (is_beginning t.stage)
    by_name (found_of.Refused why) = go (is_beginning t.stage)
entry_begun (entering.Removes y) q at = go (removal.is_beginning y.stage)
  where
    go : (e : Bool) → IsQueuedEntry (entering.Removes (if e then removal.begun at y else y))
    go true = tt
    go false = q
entry_begun (entering.Ending said) q at = tt

-- ---- a rename
-- the second transaction begins as one of a new work
turned_now : (x : Paths) (t : TransactionProgress) (found : Found) → IsMaking x t found → is_done t ≡ true → (told : Told) (at : ℕ) → IsNow (fed Locking told at (turned x t))
turned_now x t found k e told at =
    let d = done_is t k.under.sound e in
    let first = starting (removal_of x) (opened t.register.shape) in
    let f = again_sound rests stays_sound t (removal_of x) told at k.under.sound k.plain d.2 d.0 (record { valid = refl; kind = refl }) in
    subst IsNow (sym f.alike)
    (told_now first (sound_first (opened t.register.shape) (removal_of x) (inr refl) k.under.sound.base.few d.2 (record { valid = refl; kind = refl })) (starts_queued (removal_of x) (opened t.register.shape)) refl told at refl)

-- one of its transactions, with the read of its name
under_now : (found : Found) (why : Option Refusal) (asked : Request) (told : Told) (at : ℕ) (t : TransactionProgress) → Sound t → IsNow t → transaction.is_over t.stage t ≡ false → IsNow (progress_after found why asked told at t)
under_now found why asked told at t s q more = go found
  where
    read : (b : BrickId) (why : Option Refusal) → is_beginning t.stage ≡ true → IsNow (entry.settled why (noted_read b.0 asked told at t))
    read b None e = begins_now t.stage (noted_read b.0 asked told at t) e
    read b (Some why) e = tt

    unread : (b : BrickId) (e : Bool) → is_beginning t.stage ≡ e → IsNow (if e then entry.settled why (noted_read b.0 asked told at t) else fed t.stage told at t)
    unread b true e = read b why e
    unread b false e = told_now t s q more told at e

    told_to : (e : Bool) → is_beginning t.stage ≡ e → IsNow (if e then t else fed t.stage told at t)
    told_to true e = q
    told_to false e = told_now t s q more told at e

    go : (found : Found) → IsNow (progress_after found why asked told at t)
    go (found_of.Unread b) = unread b (is_beginning t.stage) refl
    go found_of.Fits = told_to (is_beginning t.stage) refl
    go (found_of.Refused why) = told_to (is_beginning t.stage) refl

rename_told : (m : Renaming) → rename.IsRename m.paths m.stage → IsQueuedRename m.stage → rename.is_over m.stage ≡ false → (chosen : BrickId) (a : Answer) (at : ℕ) → IsQueuedRename (rename.answered chosen a at m).stage
rename_told m k q more chosen a at = go m.stage k.sound q more
  where
    making : (t : TransactionProgress) (found : Found) → IsMaking m.paths t found → IsNow t → rename.is_over (renaming.Making t found) ≡ false → (d : Bool) → is_done t ≡ d
        → IsQueuedRename (if d then rename.second_begun (told_by a) at m.paths t else rename.making_after chosen found a at m.paths t)
    making t found i q more true e = turned_now m.paths t found i e (told_by a) at
    making t found i q more false e = under_now found (against_new a) (reads_new m.paths) (told_by a) at t i.under.sound q (over_not_done (transaction.is_over t.stage t) (is_done t) more e)

    go : (stage : RenameStage) → rename.IsSound m.paths stage → IsQueuedRename stage → rename.is_over stage ≡ false → IsQueuedRename (rename.stage_after chosen stage a at (rename.paths_after chosen stage a at m.paths))
    go renaming.Finding i q more = first_led (first_walked chosen a at m.paths)
    go renaming.Walking i q more = second_led (second_walked chosen a at m.paths)
    go (renaming.Making t found) i q more = making t found i q more (is_done t) refl
    go (renaming.Removing t found) i q more = under_now found (against_old m.paths.first.object.gfid a) (reads_old m.paths) (told_by a) at t i.under.sound q more
    go (renaming.Ending said) i q more = tt

-- the attempt of one of its transactions
under_begun : (found : Found) (t : TransactionProgress) → IsNow t → (at : ℕ) → IsNow (entry.progress_begun found at t)
under_begun found t q at = by_name found
  where
    go : (e : Bool) → IsNow (if e then begun at t else t)
    go true = tt
    go false = q

    by_name : (found : Found) → IsNow (entry.progress_begun found at t)
    by_name (found_of.Unread b) = q
    by_name found_of.Fits = go (is_beginning t.stage)
    by_name (found_of.Refused why) = go (is_beginning t.stage)

rename_begun : (stage : RenameStage) → IsQueuedRename stage → (at : ℕ) → IsQueuedRename (rename.stage_begun stage at)
rename_begun renaming.Finding q at = tt
rename_begun renaming.Walking q at = tt
rename_begun (renaming.Making t found) q at = under_begun found t q at
rename_begun (renaming.Removing t found) q at = under_begun found t q at
rename_begun (renaming.Ending said) q at = tt

-- ---- the laws
pub work_stays : WorkStaysQueued
work_stays Idle k q at b asked is chosen a among = tt
work_stays (Lookup m) k q at b asked is chosen a among = tt
work_stays (Write m) k q at b asked is chosen a among = write_told m k q (asks_more (Write m) at b asked is) chosen a at
work_stays (Entry m) k q at b asked is chosen a among = entry_told m k q (asks_more (Entry m) at b asked is) chosen a at among
work_stays (Rename m) k q at b asked is chosen a among = rename_told m k q (asks_more (Rename m) at b asked is) chosen a at

pub work_begun : WorkBegunQueued
work_begun Idle k q at change is chosen = tt
work_begun (Lookup m) k q at change is chosen = tt
work_begun (Write m) k q at change is chosen = write_begun m.stage q at
work_begun (Entry m) k q at change is chosen = entry_begun m.stage q at
work_begun (Rename m) k q at change is chosen = rename_begun m.stage q at
