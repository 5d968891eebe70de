-- What a command on a name, a removal and a rename do next: they ask somebody, begin an attempt, or end.
use Rattle.std.proofs.Common.{◌≡◌, ℕ, ◌&&◌, not, Bool, true, false, refl, ap, ◌∙◌, if◌then◌else◌}
use Rattle.afr_base.specs.Bricks.{is_nothing}
use Rattle.afr_base.specs.declared.ids.BrickId.{BrickId}
use Rattle.afr_object.specs.declared.change.Change.{Change}
use Rattle.afr_lines.specs.declared.line.Next.TheVariants as next
use Rattle.afr_lines.specs.declared.reply.Reply.{Reply}
use Rattle.afr_lines.specs.declared.request.Request.{Request}
use Rattle.afr_discipline.specs.Free.{is_ask}
use Rattle.afr_client_walk.specs.declared.walk.Walk.{Walk}
use Rattle.afr_client_transaction.specs.Outcome.{outcome_of}
use Rattle.afr_client_transaction.specs.Progress as progress
use Rattle.afr_client_transaction.specs.Progress.{TransactionProgress, is_beginning}
use Rattle.afr_client_transaction.specs.declared.stage.Stage.{Stage}
use Rattle.afr_client_transaction.specs.declared.stage.Stage.TheVariants.{Closing, Locking}
use Rattle.afr_client_transaction.proofs.Kept.{asks_or_begins, more_left as transaction_more, over_at}
use Rattle.afr_client_transaction.proofs.ReadLemmas.{begins_at}
use Rattle.afr_client_entry.specs.Removals.Removal as removal
use Rattle.afr_client_entry.specs.Removals.Removal.{Removing}
use Rattle.afr_client_entry.specs.declared.removing.stage.RemovalStage.{RemovalStage}
use Rattle.afr_client_entry.specs.declared.removing.stage.RemovalStage.TheVariants as removing
use Rattle.afr_client_entry.specs.Entry as entry
use Rattle.afr_client_entry.specs.Entry.{reads_name}
use Rattle.afr_client_entry.specs.Job.{reply_to}
use Rattle.afr_client_entry.specs.declared.job.EntryJob.{EntryJob}
use Rattle.afr_client_entry.specs.declared.refusal.Refusal.{Refusal}
use Rattle.afr_client_entry.specs.declared.stage.EntryStage.{EntryStage}
use Rattle.afr_client_entry.specs.declared.stage.EntryStage.TheVariants as entering
use Rattle.afr_client_entry.specs.declared.stage.Found.{Found}
use Rattle.afr_client_entry.specs.declared.stage.Found.TheVariants.{Unread, Fits, Refused}
use Rattle.afr_client_entry.specs.Renames.Against.{half_reply}
use Rattle.afr_client_entry.specs.Renames.Paths.{reads_new, reads_old}
use Rattle.afr_client_entry.specs.Renames.Rename as rename
use Rattle.afr_client_entry.specs.Renames.Rename.{is_done, making_next, removing_next, turned}
use Rattle.afr_client_entry.specs.Renames.Under.{next_under}
use Rattle.afr_client_entry.specs.declared.renaming.paths.Paths.{Paths}
use Rattle.afr_client_entry.specs.declared.renaming.stage.RenameStage.{RenameStage}
use Rattle.afr_client_entry.specs.declared.renaming.stage.RenameStage.TheVariants as renaming

-- ---- under the locks of a name
-- a command asks there as a rename does
pub same_under : (found : Found) (j : EntryJob) (w : Walk) (t : TransactionProgress) (at : ℕ) → next_under found at (reads_name j w) t ≡ entry.next_under found at j w t
same_under (Unread b) j w t at = refl
same_under Fits j w t at = refl
same_under (Refused why) j w t at = refl

-- where a transaction is to begin its attempt, more is left
beginning_more : (stage : Stage) (t : TransactionProgress) → is_beginning stage ≡ true → progress.is_over stage t ≡ false
beginning_more Closing t e = absurd (cc e)
beginning_more stage t e = refl

-- so is it where the next line is a request or a Begin line
pub under_more : (found : Found) (asked : Request) (t : TransactionProgress) (at : ℕ) → asks_or_begins (next_under found at asked t) ≡ true → progress.is_over t.stage t ≡ false
under_more (Unread b) asked t at e = go (is_beginning t.stage) refl e
  where
    go : (begins : Bool) → is_beginning t.stage ≡ begins → asks_or_begins (if begins then next.Ask b asked else progress.next_at t.stage at t) ≡ true → progress.is_over t.stage t ≡ false
    go true f e = beginning_more t.stage t f
    go false f e = transaction_more t.stage t at e
under_more Fits asked t at e = transaction_more t.stage t at e
under_more (Refused why) asked t at e = go (progress.is_over t.stage t) e
  where
    go : (over : Bool) → asks_or_begins (if over then next.End (reply_to why) else progress.next_at t.stage at t) ≡ true → over ≡ false
    go true e = absurd (cc e)
    go false e = refl

-- before the name is read nothing is begun: where nobody is asked, no lock is left
pub unread_over : (b : BrickId) (asked : Request) (t : TransactionProgress) (at : ℕ) → is_ask (next_under (Unread b) at asked t) ≡ false → progress.is_over t.stage t ≡ true
unread_over b asked t at none = go (is_beginning t.stage) refl none
  where
    go : (begins : Bool) → is_beginning t.stage ≡ begins → is_ask (if begins then next.Ask b asked else progress.next_at t.stage at t) ≡ false → progress.is_over t.stage t ≡ true
    go true f none = absurd (cc none)
    go false f none = over_at t.stage at t (λ h. cc (f, ap is_beginning h)) none

-- once it is read, what the transaction begins is begun
pub read_begins : (found : Found) (asked : Request) (t : TransactionProgress) (at : ℕ) (change : Change) → ((b : BrickId) → found ≡ Unread b → ⊥) → progress.next_at t.stage at t ≡ next.Begin change → next_under found at asked t ≡ next.Begin change
read_begins (Unread b) asked t at change read e = absurd (read b refl)
read_begins Fits asked t at change read e = e
read_begins (Refused why) asked t at change read e = go (progress.is_over t.stage t) (transaction_more t.stage t at (ap asks_or_begins e))
  where
    go : (over : Bool) → over ≡ false → (if over then next.End (reply_to why) else progress.next_at t.stage at t) ≡ next.Begin change
    go true f = absurd (cc f)
    go false f = e

pub read_over : (found : Found) (asked : Request) (t : TransactionProgress) (at : ℕ) → ((b : BrickId) → found ≡ Unread b → ⊥) → (is_ask (progress.next_at t.stage at t) ≡ false → progress.is_over t.stage t ≡ true)
    → is_ask (next_under found at asked t) ≡ false → progress.is_over t.stage t ≡ true
read_over (Unread b) asked t at read over none = absurd (read b refl)
read_over Fits asked t at read over none = over none
read_over (Refused why) asked t at read over none = go (progress.is_over t.stage t) over none
  where
    go : (x : Bool) → (is_ask (progress.next_at t.stage at t) ≡ false → x ≡ true) → is_ask (if x then next.End (reply_to why) else progress.next_at t.stage at t) ≡ false → x ≡ true
    go true over none = refl
    go false over none = over none

-- where nothing rules the change out, what the transaction ends with is said
pub fitting_ends : (found : Found) (asked : Request) (t : TransactionProgress) (at : ℕ) (said : Reply) → ((why : Refusal) → found ≡ Refused why → ⊥) → progress.next_at t.stage at t ≡ next.End said → next_under found at asked t ≡ next.End said
fitting_ends (Unread b) asked t at said fits e = go (is_beginning t.stage) refl
  where
    go : (begins : Bool) → is_beginning t.stage ≡ begins → (if begins then next.Ask b asked else progress.next_at t.stage at t) ≡ next.End said
    go true f = absurd (cc (ap (λ (stage : Stage). progress.next_at stage at t) (begins_at t.stage f), e))
    go false f = e
fitting_ends Fits asked t at said fits e = e
fitting_ends (Refused why) asked t at said fits e = absurd (fits why refl)

-- and else the refusal
pub refused_ends : (why : Refusal) (asked : Request) (t : TransactionProgress) (at : ℕ) → progress.is_over t.stage t ≡ true → next_under (Refused why) at asked t ≡ next.End (reply_to why)
refused_ends why asked t at over = go (progress.is_over t.stage t) over
  where
    go : (x : Bool) → x ≡ true → (if x then next.End (reply_to why) else progress.next_at t.stage at t) ≡ next.End (reply_to why)
    go true f = refl
    go false f = absurd (cc f)

-- ---- a removal
pub removal_more : (stage : RemovalStage) (m : Removing) → asks_or_begins (removal.next_at stage m) ≡ true → removal.is_over stage m ≡ false
removal_more (removing.Closing why) m e = go (is_nothing (removal.left (removing.Closing why) m)) e
  where
    go : (over : Bool) → asks_or_begins (if over then next.End (removal.reply_of why m.register) else removal.asks (removing.Closing why) m) ≡ true → over ≡ false
    go true e = absurd (cc e)
    go false e = refl
removal_more stage m e = refl

pub removal_over : (stage : RemovalStage) (m : Removing) → (stage ≡ removing.Beginning → ⊥) → is_ask (removal.next_at stage m) ≡ false → removal.is_over stage m ≡ true
removal_over removing.Beginning m away none = absurd (away refl)
removal_over (removing.Closing why) m away none = go (is_nothing (removal.left (removing.Closing why) m)) none
  where
    go : (over : Bool) → is_ask (if over then next.End (removal.reply_of why m.register) else removal.asks (removing.Closing why) m) ≡ false → over ≡ true
    go true none = refl
    go false none = absurd (cc none)
removal_over stage m away none = absurd (cc none)

-- ---- a command on a name
-- where the next line is a request or a Begin line, more is left than the end
pub more_left : (stage : EntryStage) (j : EntryJob) (w : Walk) (at : ℕ) → asks_or_begins (entry.next_at at stage j w) ≡ true → entry.is_over stage ≡ false
more_left entering.Walking j w at e = refl
more_left (entering.Changing t found) j w at e = under_more found (reads_name j w) t at (ap asks_or_begins (same_under found j w t at) ∙ e)
more_left (entering.Removes m) j w at e = removal_more m.stage m e
more_left (entering.Ending said) j w at e = absurd (cc e)

-- ---- a rename
-- its first transaction, once it is done, is followed by the second
not_done : (over done : Bool) → (done ≡ false → over ≡ false) → (over && not done) ≡ false
not_done true true h = refl
not_done true false h = h refl
not_done false done h = refl

pub rename_more : (stage : RenameStage) (x : Paths) (at : ℕ) → asks_or_begins (rename.next_at at stage x) ≡ true → rename.is_over stage ≡ false
rename_more renaming.Finding x at e = refl
rename_more renaming.Walking x at e = refl
rename_more (renaming.Making t found) x at e = not_done (progress.is_over t.stage t) (is_done t) (go (is_done t) e)
  where
    go : (done : Bool) → asks_or_begins (if done then progress.next_at Locking at (turned x t) else next_under found at (reads_new x) t) ≡ true → done ≡ false → progress.is_over t.stage t ≡ false
    go true e f = absurd (cc f)
    go false e f = under_more found (reads_new x) t at e
rename_more (renaming.Removing t found) x at e = go (progress.is_over t.stage t) e
  where
    go : (over : Bool) → asks_or_begins (if over then next.End (half_reply (outcome_of t.change t.register)) else next_under found at (reads_old x) t) ≡ true → over ≡ false
    go true e = absurd (cc e)
    go false e = refl
rename_more (renaming.Ending said) x at e = absurd (cc e)

-- so the second one's first line is a request
pub turn_is_ask : (x : Paths) (t : TransactionProgress) (found : Found) (at : ℕ) → is_done t ≡ true → is_ask (making_next found at x t) ≡ true
turn_is_ask x t found at e = go (is_done t) e
  where
    go : (done : Bool) → done ≡ true → is_ask (if done then progress.next_at Locking at (turned x t) else next_under found at (reads_new x) t) ≡ true
    go true f = refl
    go false f = absurd (cc f)

-- until then the first one's line comes
pub making_is : (x : Paths) (t : TransactionProgress) (found : Found) (at : ℕ) → is_done t ≡ false → making_next found at x t ≡ next_under found at (reads_new x) t
making_is x t found at e = go (is_done t) e
  where
    go : (done : Bool) → done ≡ false → (if done then progress.next_at Locking at (turned x t) else next_under found at (reads_new x) t) ≡ next_under found at (reads_new x) t
    go true f = absurd (cc f)
    go false f = refl

pub making_over : (over done : Bool) → done ≡ false → over ≡ true → (over && not done) ≡ true
making_over over done e f = rw (e, f) refl

pub making_more : (over done : Bool) → over ≡ false → (over && not done) ≡ false
making_more over done e = rw e refl

-- and the second one's, until it is over
pub removing_is : (x : Paths) (t : TransactionProgress) (found : Found) (at : ℕ) → progress.is_over t.stage t ≡ false → removing_next found at x t ≡ next_under found at (reads_old x) t
removing_is x t found at e = go (progress.is_over t.stage t) e
  where
    go : (over : Bool) → over ≡ false → (if over then next.End (half_reply (outcome_of t.change t.register)) else next_under found at (reads_old x) t) ≡ next_under found at (reads_old x) t
    go true f = absurd (cc f)
    go false f = refl

pub removing_begins : (x : Paths) (t : TransactionProgress) (found : Found) (at : ℕ) (change : Change) → next_under found at (reads_old x) t ≡ next.Begin change → removing_next found at x t ≡ next.Begin change
removing_begins x t found at change e = removing_is x t found at (under_more found (reads_old x) t at (ap asks_or_begins e)) ∙ e

pub removing_over : (x : Paths) (t : TransactionProgress) (found : Found) (at : ℕ) → (is_ask (next_under found at (reads_old x) t) ≡ false → progress.is_over t.stage t ≡ true)
    → is_ask (removing_next found at x t) ≡ false → progress.is_over t.stage t ≡ true
removing_over x t found at over none = go (progress.is_over t.stage t) over none
  where
    go : (y : Bool) → (is_ask (next_under found at (reads_old x) t) ≡ false → y ≡ true) → is_ask (if y then next.End (half_reply (outcome_of t.change t.register)) else next_under found at (reads_old x) t) ≡ false → y ≡ true
    go true over none = refl
    go false over none = over none

pub removing_ends : (x : Paths) (t : TransactionProgress) (found : Found) (at : ℕ) → progress.is_over t.stage t ≡ true → removing_next found at x t ≡ next.End (half_reply (outcome_of t.change t.register))
removing_ends x t found at e = go (progress.is_over t.stage t) e
  where
    go : (over : Bool) → over ≡ true → (if over then next.End (half_reply (outcome_of t.change t.register)) else next_under found at (reads_old x) t) ≡ next.End (half_reply (outcome_of t.change t.register))
    go true f = refl
    go false f = absurd (cc f)
