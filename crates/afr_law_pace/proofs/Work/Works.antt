-- Each line of a work takes what it counts in the log, and the work of a command begins within its cost.
use Rattle.std.proofs.Common.{◌≡◌, ℕ, ◌+◌, ◌*◌, ◌-◌, ◌≤◌, suc, Bool, true, false, refl, ◌∙◌, subst, arith, List, length, take}
use Rattle.std.specs.Prelude.{if◌then◌else◌}
use Rattle.std.proofs.Math.Nat.{mul-le-mul_right, suc-mul}
use Rattle.std.proofs.lemmas.List.{length-take}
use Rattle.afr_base.specs.Bricks.{is_nothing}
use Rattle.afr_base.specs.declared.ids.ActorId.{ActorId}
use Rattle.afr_base.specs.declared.ids.BrickId.{BrickId}
use Rattle.afr_base.specs.declared.ids.NameId.{NameId}
use Rattle.afr_law_bound.specs.Ends.Cost.{counted}
use Rattle.afr_client_entry.specs.Entry as entry
use Rattle.afr_client_entry.specs.Entry.{Entering}
use Rattle.afr_client_entry.specs.Job.{reply_to}
use Rattle.afr_client_entry.specs.declared.refusal.Refusal.{Refusal}
use Rattle.afr_client_entry.specs.declared.job.EntryJob.TheVariants as name
use Rattle.afr_client_entry.specs.declared.stage.EntryStage.TheVariants as entering
use Rattle.afr_client_entry.specs.declared.stage.EntryStage.{EntryStage}
use Rattle.afr_client_entry.specs.declared.stage.Found.TheVariants as found_of
use Rattle.afr_client_entry.specs.declared.stage.Found.{Found}
use Rattle.afr_law_pace.proofs.Entry.Entries.{entry_begins, entry_end, entry_starts}
use Rattle.afr_law_pace.specs.Entry.Entries.{AsksEntry, AsksUnder, BeginsEntry, BeginsUnder, EntryComesNearer, FitsEntry, entry_again, entry_left, whole_entry}
use Rattle.afr_client_read.specs.Lookup as lookup
use Rattle.afr_client_read.specs.declared.job.LookupJob.TheVariants as read_job
use Rattle.afr_client_read.specs.declared.stage.LookupStage.TheVariants as looking
use Rattle.afr_client_read.specs.declared.stage.LookupStage.{LookupStage}
use Rattle.afr_client_write.specs.Write as write
use Rattle.afr_client_write.specs.declared.job.WriteJob.TheVariants as write_job
use Rattle.afr_client_write.specs.declared.stage.WriteStage.TheVariants as writing
use Rattle.afr_client_write.specs.declared.stage.WriteStage.{WriteStage}
use Rattle.afr_lines.specs.Areas.{area_for}
use Rattle.afr_lines.specs.Told.{told_by}
use Rattle.afr_lines.specs.declared.answer.Answer.{Answer}
use Rattle.afr_lines.specs.declared.line.Heard.TheVariants as heard
use Rattle.afr_lines.specs.declared.line.Line.TheVariants.{Ask}
use Rattle.afr_lines.specs.declared.line.Next.TheVariants as next
use Rattle.afr_lines.specs.declared.request.Request.TheVariants as request
use Rattle.afr_lines.specs.declared.request.Request.{Request}
use Rattle.afr_model_moves.specs.Note.{is_held}
use Rattle.afr_object.specs.declared.change.Change.{Change}
use Rattle.afr_law_pace.proofs.Lookups.{read_end, read_nearer, read_starts}
use Rattle.afr_law_pace.proofs.Nearer.{step_of}
use Rattle.afr_law_pace.proofs.Writes.{write_begins, write_end, write_nearer, write_starts}
use Rattle.afr_law_pace.specs.Left.{FitsAnUnlock, asks_again}
use Rattle.afr_law_pace.specs.Lookups.{read_left}
use Rattle.afr_law_pace.specs.Writes.{Asks, FitsWrite, again_at, whole_change, write_left}
use Rattle.afr_plan.specs.declared.command.Command.TheVariants as command
use Rattle.afr_lines.specs.declared.lock.Domain.TheVariants.{Work}
use Rattle.afr_client_entry.specs.Removals.Removal as removal
use Rattle.afr_client_entry.specs.Removals.Removal.{Removing}
use Rattle.afr_client_entry.specs.declared.removing.stage.RemovalStage.TheVariants as removes
use Rattle.afr_client_entry.specs.declared.removing.stage.RemovalStage.{RemovalStage}
use Rattle.afr_client_transaction.specs.Outcome.{outcome_of, reply_of}
use Rattle.afr_client_transaction.specs.Progress as transaction
use Rattle.afr_client_transaction.specs.Progress.{TransactionProgress}
use Rattle.afr_client_transaction.specs.Sound.{Ready, Sound}
use Rattle.afr_client_transaction.specs.declared.stage.Stage.TheVariants.{Applying, Beginning, Closing, Locking, Looking, Posting, Preparing}
use Rattle.afr_client_transaction.specs.declared.stage.Stage.{Stage}
use Rattle.afr_client_walk.specs.Choosing.{IsAmong}
use Rattle.afr_law_pace.proofs.Work.Asking.{AskedAt, asked_at, by_stage, counts_one, lock_counts, removal_asked_at}
use Rattle.afr_law_pace.specs.Work.Left.{FitsUnlock, WorkBeginsNearer, WorkComesNearer, WorkKeepsEnd, WorkStartsWithin, work_left}
use Rattle.afr_client_entry.specs.Renames.Against.{half_reply}
use Rattle.afr_client_entry.specs.Renames.Paths.{front, last, reads_new, reads_old, removal_of}
use Rattle.afr_client_entry.specs.Renames.Rename as rename
use Rattle.afr_client_entry.specs.Renames.Rename.{Renaming, turned}
use Rattle.afr_client_entry.specs.Renames.Under.{next_under}
use Rattle.afr_client_entry.specs.declared.renaming.paths.Paths.{Paths}
use Rattle.afr_client_entry.specs.declared.renaming.stage.RenameStage.TheVariants as renaming
use Rattle.afr_client_entry.specs.declared.renaming.stage.RenameStage.{RenameStage}
use Rattle.afr_law_pace.specs.Rename.Renames.{AsksMaking, AsksRename, BeginsRename, FitsRename, RenameBeginsNearer, RenameComesNearer, RenameKeepsEnd, RenameStartsWithin, rename_again, rename_left}
use Rattle.afr_client.proofs.WorkLemmas.{same_under}
use Rattle.afr_client.specs.Begin.{work_from}
use Rattle.afr_client.specs.declared.work.WorkMachine.TheVariants.{Entry, Idle, Lookup, Rename, Write}

-- what a line takes and what it counts
within : (l t c m : ℕ) → l + t ≤ m → c ≤ t → l + c ≤ m
within l t c m h k = omega (arith, h, k)

-- ---- an answer
module _ (b : BrickId) (asked : Request) (chosen : BrickId) (a : Answer) (at : ℕ) (fits : FitsUnlock asked (told_by a)) (x : ActorId) (took : Bool) where
  abbrev count_of : ℕ
  count_of = counted (Ask x b asked (told_by a) took)

  -- a read
  by_read : (m : lookup.Lookup) → lookup.IsLookup m.walk m.stage → lookup.next_of m ≡ next.Ask b asked → read_left (lookup.answered chosen a at m) + count_of ≤ read_left m
  by_read m k is = within (read_left (lookup.answered chosen a at m)) 1 count_of (read_left m) (read_nearer m k (go m.stage is) chosen a at) (counts_one (Ask x b asked (told_by a) took))
    where
      go : (stage : LookupStage) → lookup.next_at stage m.walk ≡ next.Ask b asked → lookup.is_asking stage ≡ true
      go (looking.Ending said) k = absurd (cc k)
      go looking.Walking k = refl
      go (looking.Looking s) k = refl
      go (looking.Reading c of) k = refl

  -- a write
  record WriteAsked (stage : WriteStage) : Type 0 where
    pub asks : Asks stage
    pub fitting : FitsWrite stage (told_by a)
    pub counts : count_of ≤ step_of (again_at stage (told_by a))

  by_write : (m : write.Write) → write.IsWrite m.walk m.stage → write.next_of at m ≡ next.Ask b asked → (choice : IsAmong (write.choices_heard (heard.Answer a at) m) chosen) → write_left (write.heard_by chosen (heard.Answer a at) m) + count_of ≤ write_left m
  by_write m k is choice =
      let w = go m.stage k.ready is in
      within (write_left (write.heard_by chosen (heard.Answer a at) m)) (step_of (again_at m.stage (told_by a))) count_of (write_left m) (write_nearer m k w.asks chosen a at choice w.fitting) w.counts
    where
      go : (stage : WriteStage) → write.IsStage m.walk stage → write.next_at at stage m.walk ≡ next.Ask b asked → WriteAsked stage
      go (writing.Walking job) i e = record { asks = tt; fitting = tt; counts = counts_one (Ask x b asked (told_by a) took) }
      go (writing.Changing t) i e = (let w = asked_at x b (told_by a) took t i.0 at asked e fits in record { asks = w.asking; fitting = w.fits; counts = w.counts_at })
      go (writing.Ending said) i e = absurd (cc e)

  -- under the locks of a name it is read, or the transaction asks
  record UnderAsked (found : Found) (stage : Stage) (t : TransactionProgress) : Type 0 where
    pub asks : AsksUnder found stage t
    pub fitting : FitsAnUnlock stage (told_by a)
    pub counts : count_of ≤ step_of (asks_again stage (told_by a))

  from : (found : Found) (stage : Stage) (t : TransactionProgress) → AsksUnder found stage t → AskedAt x b (told_by a) took stage t asked → UnderAsked found stage t
  from found stage t asks w = record { asks = asks; fitting = w.fits; counts = w.counts_at }

  unread : (read : Request) (c : BrickId) (t : TransactionProgress) (stage : Stage) → Ready stage t → (if transaction.is_beginning stage then next.Ask c read else transaction.next_at stage at t) ≡ next.Ask b asked → UnderAsked (found_of.Unread c) stage t
  unread read c t Beginning ready e = record { asks = tt; fitting = tt; counts = counts_one (Ask x b asked (told_by a) took) }
  unread read c t Locking ready e = (let w = by_stage x b (told_by a) took Locking t at asked ready e fits in from (found_of.Unread c) Locking t w.asking w)
  unread read c t Looking ready e = (let w = by_stage x b (told_by a) took Looking t at asked ready e fits in from (found_of.Unread c) Looking t w.asking w)
  unread read c t Preparing ready e = (let w = by_stage x b (told_by a) took Preparing t at asked ready e fits in from (found_of.Unread c) Preparing t w.asking w)
  unread read c t Applying ready e = (let w = by_stage x b (told_by a) took Applying t at asked ready e fits in from (found_of.Unread c) Applying t w.asking w)
  unread read c t Posting ready e = (let w = by_stage x b (told_by a) took Posting t at asked ready e fits in from (found_of.Unread c) Posting t w.asking w)
  unread read c t Closing ready e = (let w = by_stage x b (told_by a) took Closing t at asked ready e fits in from (found_of.Unread c) Closing t w.asking w)

  refused : (o : Bool) (why : Refusal) (t : TransactionProgress) → Sound t → (if o then next.End (reply_to why) else transaction.next_at t.stage at t) ≡ next.Ask b asked → UnderAsked (found_of.Refused why) t.stage t
  refused true why t sound e = absurd (cc e)
  refused false why t sound e = (let w = asked_at x b (told_by a) took t sound at asked e fits in from (found_of.Refused why) t.stage t w.asking w)

  under : (read : Request) (found : Found) (t : TransactionProgress) → Sound t → next_under found at read t ≡ next.Ask b asked → UnderAsked found t.stage t
  under read (found_of.Unread c) t sound e = unread read c t t.stage sound.ready e
  under read found_of.Fits t sound e = (let w = asked_at x b (told_by a) took t sound at asked e fits in from found_of.Fits t.stage t w.asking w)
  under read (found_of.Refused why) t sound e = refused (transaction.is_over t.stage t) why t sound e

  -- a command on a name
  record EntryAsked (stage : EntryStage) : Type 0 where
    pub asks : AsksEntry stage
    pub fitting : FitsEntry stage (told_by a)
    pub counts : count_of ≤ step_of (entry_again stage (told_by a))

  by_entry : EntryComesNearer → (m : Entering) → entry.IsEntry m.walk m.job m.stage → entry.next_of at m ≡ next.Ask b asked → (choice : IsAmong (entry.choices_heard (heard.Answer a at) m) chosen) → entry_left (entry.heard_by chosen (heard.Answer a at) m) + count_of ≤ entry_left m
  by_entry nearer m k is choice =
      let w = go m.stage k.ready is in
      within (entry_left (entry.heard_by chosen (heard.Answer a at) m)) (step_of (entry_again m.stage (told_by a))) count_of (entry_left m) (nearer m k w.asks chosen a at choice w.fitting) w.counts
    where
      go : (stage : EntryStage) → entry.IsStage m.walk m.job stage → entry.next_at at stage m.job m.walk ≡ next.Ask b asked → EntryAsked stage
      go entering.Walking i e = record { asks = tt; fitting = tt; counts = counts_one (Ask x b asked (told_by a) took) }
      go (entering.Changing t found) i e = (let w = under (entry.reads_name m.job m.walk) found t i.sound (same_under found m.job m.walk t at ∙ e) in record { asks = w.asks; fitting = w.fitting; counts = w.counts })
      go (entering.Removes y) i e = (let w = removal_asked_at x b (told_by a) took y i.sound asked e fits in record { asks = w.asking; fitting = w.fits; counts = w.counts_at })
      go (entering.Ending said) i e = absurd (cc e)

  -- a rename
  record RenameAsked (stage : RenameStage) : Type 0 where
    pub asks : AsksRename stage
    pub fitting : FitsRename stage (told_by a)
    pub counts : count_of ≤ step_of (rename_again stage (told_by a))

  -- its making, by whether it is done
  record MakingAsked (done : Bool) (found : Found) (t : TransactionProgress) : Type 0 where
    pub asks : AsksMaking done found t
    pub fitting : FitsAnUnlock (if done then Locking else t.stage) (told_by a)
    pub counts : count_of ≤ step_of (asks_again (if done then Locking else t.stage) (told_by a))

  making : (y : Paths) (done : Bool) (found : Found) (t : TransactionProgress) → Sound t → (if done then transaction.next_at Locking at (turned y t) else next_under found at (reads_new y) t) ≡ next.Ask b asked → MakingAsked done found t
  making y true found t sound e = (let k : request.Lock Work (area_for (removal_of y)) ≡ asked = cc e in record {
    asks = tt;
    fitting = tt;
    counts = subst (λ (q : Request). counted (Ask x b q (told_by a) took) ≤ step_of (is_held (told_by a))) k (lock_counts x b (told_by a) took (area_for (removal_of y)));
  })
  making y false found t sound e = (let w = under (reads_new y) found t sound e in record { asks = w.asks; fitting = w.fitting; counts = w.counts })

  removing : (y : Paths) (over : Bool) (found : Found) (t : TransactionProgress) → Sound t → (if over then next.End (half_reply (outcome_of t.change t.register)) else next_under found at (reads_old y) t) ≡ next.Ask b asked → UnderAsked found t.stage t
  removing y true found t sound e = absurd (cc e)
  removing y false found t sound e = under (reads_old y) found t sound e

  by_rename : RenameComesNearer → (m : Renaming) → rename.IsRename m.paths m.stage → rename.next_of at m ≡ next.Ask b asked → (choice : IsAmong (rename.choices_heard (heard.Answer a at) m) chosen) → rename_left (rename.heard_by chosen (heard.Answer a at) m) + count_of ≤ rename_left m
  by_rename nearer m k is choice =
      let w = go m.stage k.sound is in
      within (rename_left (rename.heard_by chosen (heard.Answer a at) m)) (step_of (rename_again m.stage (told_by a))) count_of (rename_left m) (nearer m k w.asks chosen a at choice w.fitting) w.counts
    where
      go : (stage : RenameStage) → rename.IsSound m.paths stage → rename.next_at at stage m.paths ≡ next.Ask b asked → RenameAsked stage
      go renaming.Finding i e = record { asks = tt; fitting = tt; counts = counts_one (Ask x b asked (told_by a) took) }
      go renaming.Walking i e = record { asks = tt; fitting = tt; counts = counts_one (Ask x b asked (told_by a) took) }
      go (renaming.Making t found) i e = (let w = making m.paths (rename.is_done t) found t i.under.sound e in record { asks = w.asks; fitting = w.fitting; counts = w.counts })
      go (renaming.Removing t found) i e = (let w = removing m.paths (transaction.is_over t.stage t) found t i.under.sound e in record { asks = w.asks; fitting = w.fitting; counts = w.counts })
      go (renaming.Ending said) i e = absurd (cc e)

pub work_nearer : EntryComesNearer → RenameComesNearer → WorkComesNearer
work_nearer nearer comes Idle k at b asked is chosen a choice fits x took = absurd (cc is)
work_nearer nearer comes (Lookup m) k at b asked is chosen a choice fits x took = by_read b asked chosen a at fits x took m k is
work_nearer nearer comes (Write m) k at b asked is chosen a choice fits x took = by_write b asked chosen a at fits x took m k is choice
work_nearer nearer comes (Entry m) k at b asked is chosen a choice fits x took = by_entry b asked chosen a at fits x took nearer m k is choice
work_nearer nearer comes (Rename m) k at b asked is chosen a choice fits x took = by_rename b asked chosen a at fits x took comes m k is choice

-- ---- a Begin line
begins_at : (stage : Stage) (t : TransactionProgress) (at : ℕ) (change : Change) → transaction.next_at stage at t ≡ next.Begin change → stage ≡ Beginning
begins_at Locking t at change e = absurd (cc e)
begins_at Looking t at change e = absurd (cc e)
begins_at Beginning t at change e = refl
begins_at Preparing t at change e = absurd (cc e)
begins_at Applying t at change e = absurd (cc e)
begins_at Posting t at change e = absurd (cc e)
begins_at Closing t at change e = go (is_nothing t.register.held) e
  where
    go : (f : Bool) → (if f then next.End (reply_of t.change t.register) else transaction.asks Closing t) ≡ next.Begin change → Closing ≡ Beginning
    go true k = absurd (cc k)
    go false k = absurd (cc k)

removal_begins_at : (stage : RemovalStage) (m : Removing) (change : Change) → removal.next_at stage m ≡ next.Begin change → stage ≡ removes.Beginning
removal_begins_at removes.Locking m change e = absurd (cc e)
removal_begins_at removes.Looking m change e = absurd (cc e)
removal_begins_at removes.Listing m change e = absurd (cc e)
removal_begins_at removes.Beginning m change e = refl
removal_begins_at removes.Preparing m change e = absurd (cc e)
removal_begins_at removes.Applying m change e = absurd (cc e)
removal_begins_at removes.Posting m change e = absurd (cc e)
removal_begins_at (removes.Closing why) m change e = go (removal.is_over (removes.Closing why) m) e
  where
    go : (f : Bool) → (if f then next.End (removal.reply_of why m.register) else removal.asks (removes.Closing why) m) ≡ next.Begin change → removes.Closing why ≡ removes.Beginning
    go true k = absurd (cc k)
    go false k = absurd (cc k)

module _ (at : ℕ) (change : Change) (chosen : BrickId) where
  read_begin : (m : lookup.Lookup) → lookup.next_of m ≡ next.Begin change → ⊥
  read_begin m is = go m.stage is
    where
      go : (stage : LookupStage) → lookup.next_at stage m.walk ≡ next.Begin change → ⊥
      go (looking.Ending said) k = cc k
      go looking.Walking k = cc k
      go (looking.Looking s) k = cc k
      go (looking.Reading c of) k = cc k

  write_begin : (m : write.Write) → write.next_of at m ≡ next.Begin change → write_left (write.heard_by chosen (heard.Begun at) m) + 1 ≤ write_left m
  write_begin m is = go m.stage refl is
    where
      go : (stage : WriteStage) → m.stage ≡ stage → write.next_at at stage m.walk ≡ next.Begin change → write_left (write.heard_by chosen (heard.Begun at) m) + 1 ≤ write_left m
      go (writing.Walking job) same e = absurd (cc e)
      go (writing.Changing t) same e = write_begins m t same (begins_at t.stage t at change e) chosen at
      go (writing.Ending said) same e = absurd (cc e)

  unread_begin : (read : Request) (c : BrickId) (t : TransactionProgress) (stage : Stage) → (if transaction.is_beginning stage then next.Ask c read else transaction.next_at stage at t) ≡ next.Begin change → ⊥
  unread_begin read c t Beginning e = cc e
  unread_begin read c t Locking e = cc e
  unread_begin read c t Looking e = cc e
  unread_begin read c t Preparing e = cc e
  unread_begin read c t Applying e = cc e
  unread_begin read c t Posting e = cc e
  unread_begin read c t Closing e = (let k = begins_at Closing t at change e in cc k)

  refused_begin : (o : Bool) (why : Refusal) (t : TransactionProgress) → (if o then next.End (reply_to why) else transaction.next_at t.stage at t) ≡ next.Begin change → t.stage ≡ Beginning
  refused_begin true why t e = absurd (cc e)
  refused_begin false why t e = begins_at t.stage t at change e

  under_begin : (read : Request) (found : Found) (t : TransactionProgress) → next_under found at read t ≡ next.Begin change → BeginsUnder found t.stage
  under_begin read (found_of.Unread c) t e = unread_begin read c t t.stage e
  under_begin read found_of.Fits t e = begins_at t.stage t at change e
  under_begin read (found_of.Refused why) t e = refused_begin (transaction.is_over t.stage t) why t e

  entry_begin : (m : Entering) → entry.next_of at m ≡ next.Begin change → BeginsEntry m.stage
  entry_begin m is = go m.stage is
    where
      go : (stage : EntryStage) → entry.next_at at stage m.job m.walk ≡ next.Begin change → BeginsEntry stage
      go entering.Walking e = cc e
      go (entering.Changing t found) e = under_begin (entry.reads_name m.job m.walk) found t (same_under found m.job m.walk t at ∙ e)
      go (entering.Removes y) e = removal_begins_at y.stage y change e
      go (entering.Ending said) e = cc e

  making_begin : (y : Paths) (done : Bool) (found : Found) (t : TransactionProgress) → (if done then transaction.next_at Locking at (turned y t) else next_under found at (reads_new y) t) ≡ next.Begin change → BeginsUnder found t.stage
  making_begin y true found t e = absurd (cc e)
  making_begin y false found t e = under_begin (reads_new y) found t e

  removing_begin : (y : Paths) (over : Bool) (found : Found) (t : TransactionProgress) → (if over then next.End (half_reply (outcome_of t.change t.register)) else next_under found at (reads_old y) t) ≡ next.Begin change → BeginsUnder found t.stage
  removing_begin y true found t e = absurd (cc e)
  removing_begin y false found t e = under_begin (reads_old y) found t e

  rename_begin : (m : Renaming) → rename.next_of at m ≡ next.Begin change → BeginsRename m.stage
  rename_begin m is = go m.stage is
    where
      go : (stage : RenameStage) → rename.next_at at stage m.paths ≡ next.Begin change → BeginsRename stage
      go renaming.Finding e = cc e
      go renaming.Walking e = cc e
      go (renaming.Making t found) e = making_begin m.paths (rename.is_done t) found t e
      go (renaming.Removing t found) e = removing_begin m.paths (transaction.is_over t.stage t) found t e
      go (renaming.Ending said) e = cc e

pub work_begins : RenameBeginsNearer → WorkBeginsNearer
work_begins begins Idle at change is chosen x = absurd (cc is)
work_begins begins (Lookup m) at change is chosen x = absurd (read_begin at change chosen m is)
work_begins begins (Write m) at change is chosen x = write_begin at change chosen m is
work_begins begins (Entry m) at change is chosen x = entry_begins m (entry_begin at change chosen m is) chosen at
work_begins begins (Rename m) at change is chosen x = begins m (rename_begin at change chosen m is) chosen at

-- ---- the end, and the beginning
pub work_end : RenameKeepsEnd → WorkKeepsEnd
work_end keeps Idle k = absurd k
work_end keeps (Lookup m) k = read_end m
work_end keeps (Write m) k = write_end m
work_end keeps (Entry m) k = entry_end m
work_end keeps (Rename m) k = keeps m

-- a walk over a path and the most that may follow
path_cost : (path : List NameId) (n l : ℕ) → l ≤ length path * (n + 1) + (9 * n + 4) → l ≤ (length path + 1) * (n + 1) + 10 * n + 6
path_cost path n l h = (let more : (length path + 1) * (n + 1) ≡ length path * (n + 1) + (n + 1) = one (length path) in rw more (omega (arith, h)))
  where
    one : (k : ℕ) → (k + 1) * (n + 1) ≡ k * (n + 1) + (n + 1)
    one k = (let e : k + 1 ≡ suc k = omega arith in rw e (suc-mul k (n + 1)))

-- the path to the directory is no longer
front_cost : (path : List NameId) (n l : ℕ) → l ≤ length (front path) * (n + 1) + whole_entry n → l ≤ (length path + 1) * (n + 1) + 10 * n + 6
front_cost path n l h = (let k : length (front path) * (n + 1) ≤ length path * (n + 1) = mul-le-mul_right (n + 1) (take_less (length path - 1) path) in path_cost path n l (omega (arith, h, k)))
  where
    take_less : (k : ℕ) (xs : List NameId) → length (take k xs) ≤ length xs
    take_less k xs = (let e = length-take k xs in omega (arith, e))

write_cost : (path : List NameId) (n l : ℕ) → l ≤ length path * (n + 1) + whole_change n → l ≤ (length path + 1) * (n + 1) + 10 * n + 6
write_cost path n l h = path_cost path n l (omega (arith, h))

read_cost : (path : List NameId) (n l : ℕ) → l ≤ length path * (n + 1) + n + 2 → l ≤ (length path + 1) * (n + 1) + 10 * n + 6
read_cost path n l h = path_cost path n l (omega (arith, h))

pub work_starts : RenameStartsWithin → WorkStartsWithin
work_starts within shape (command.Write path at bytes) = write_cost path shape.n (work_left (work_from shape (command.Write path at bytes))) (write_starts shape path (write_job.Write at bytes))
work_starts within shape (command.Cut path len) = write_cost path shape.n (work_left (work_from shape (command.Cut path len))) (write_starts shape path (write_job.Cut len))
work_starts within shape (command.SetAttr path key value) = write_cost path shape.n (work_left (work_from shape (command.SetAttr path key value))) (write_starts shape path (write_job.SetAttr key value))
work_starts within shape (command.Read path at len) = read_cost path shape.n (work_left (work_from shape (command.Read path at len))) (read_starts shape path (read_job.Read at len))
work_starts within shape (command.GetAttr path key) = read_cost path shape.n (work_left (work_from shape (command.GetAttr path key))) (read_starts shape path (read_job.GetAttr key))
work_starts within shape (command.Ls path) = read_cost path shape.n (work_left (work_from shape (command.Ls path))) (read_starts shape path read_job.Ls)
work_starts within shape (command.Stat path) = read_cost path shape.n (work_left (work_from shape (command.Stat path))) (read_starts shape path read_job.Stat)
work_starts within shape (command.Create path) = front_cost path shape.n (work_left (work_from shape (command.Create path))) (entry_starts shape (front path) (name.Create (last path)))
work_starts within shape (command.Mkdir path) = front_cost path shape.n (work_left (work_from shape (command.Mkdir path))) (entry_starts shape (front path) (name.Mkdir (last path)))
work_starts within shape (command.Unlink path) = front_cost path shape.n (work_left (work_from shape (command.Unlink path))) (entry_starts shape (front path) (name.Unlink (last path)))
work_starts within shape (command.Rmdir path) = front_cost path shape.n (work_left (work_from shape (command.Rmdir path))) (entry_starts shape (front path) (name.Rmdir (last path)))
work_starts within shape (command.Rename from to) = within shape from to
