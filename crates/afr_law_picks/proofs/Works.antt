-- What a client's work reads next was picked for what its lines say, whichever machine carries out its command.
use Rattle.std.proofs.Common.{◌≡◌, ℕ, Bool, true, false, List, [], ◌∷◌, Option, refl, sym, subst, if◌then◌else◌, true≢false}
use Rattle.afr_base.specs.declared.ids.ActorId.{ActorId}
use Rattle.afr_base.specs.declared.ids.BrickId.{BrickId}
use Rattle.afr_base.specs.declared.ids.Gfid.{Gfid}
use Rattle.afr_base.specs.declared.ids.NameId.{NameId}
use Rattle.afr_client_entry.specs.Entry as entry
use Rattle.afr_client_entry.specs.declared.job.EntryJob.{EntryJob}
use Rattle.afr_client_entry.specs.declared.stage.EntryStage.{EntryStage}
use Rattle.afr_client_entry.specs.declared.stage.EntryStage.TheVariants as entering
use Rattle.afr_client_entry.specs.declared.stage.Found.{Found}
use Rattle.afr_client_entry.specs.declared.stage.Found.TheVariants.{Fits, Refused, Unread}
use Rattle.afr_law_client.specs.Entry.EntryTelling.{EntryTells, command_of}
use Rattle.afr_client_read.specs.Job.{request_of}
use Rattle.afr_client_read.specs.Lookup as lookup
use Rattle.afr_client_read.specs.declared.job.LookupJob.{LookupJob}
use Rattle.afr_client_read.specs.declared.job.Wanted.{Wanted}
use Rattle.afr_client_read.specs.declared.job.Wanted.TheVariants as content
use Rattle.afr_client_read.specs.declared.stage.LookupStage.{LookupStage}
use Rattle.afr_client_read.specs.declared.stage.LookupStage.TheVariants as reading
use Rattle.afr_law_client.specs.Read.ReadTelling as reads
use Rattle.afr_client_write.specs.Write as write
use Rattle.afr_client_write.specs.declared.stage.WriteStage.{WriteStage}
use Rattle.afr_client_write.specs.declared.stage.WriteStage.TheVariants as writing
use Rattle.afr_lines.specs.Told.{told_by}
use Rattle.afr_lines.specs.Work.{Work as Lines, work}
use Rattle.afr_lines.specs.declared.answer.Answer.{Answer}
use Rattle.afr_lines.specs.declared.answer.Told.{Told}
use Rattle.afr_lines.specs.declared.answer.Told.TheVariants.{Done}
use Rattle.afr_lines.specs.declared.line.Heard.TheVariants as heard_of
use Rattle.afr_lines.specs.declared.line.Line.{Line}
use Rattle.afr_lines.specs.declared.line.Line.TheVariants.{Ask, Begin, End}
use Rattle.afr_lines.specs.declared.line.Next.TheVariants as next
use Rattle.afr_lines.specs.declared.reply.Good.TheVariants as good
use Rattle.afr_lines.specs.declared.reply.Reply.{Reply}
use Rattle.afr_lines.specs.declared.reply.Reply.TheVariants as reply
use Rattle.afr_lines.specs.declared.request.Request.{Request}
use Rattle.afr_lines.specs.declared.request.Request.TheVariants as request
use Rattle.afr_model.specs.Answered.{IsAbout}
use Rattle.afr_model.specs.Chosen.{Picks, ReadsPicked}
use Rattle.afr_model.specs.Parts.{the_make, the_removal}
use Rattle.afr_model.specs.Replied.{IsOf}
use Rattle.afr_object.specs.declared.change.Change.{Change}
use Rattle.afr_plan.specs.declared.command.Command.{Command}
use Rattle.afr_plan.specs.declared.plan.Plan.{Plan}
use Rattle.afr_law_picks.proofs.Asked.{AsksAs, AsksOf, HasOnePath, asks_one}
use Rattle.afr_law_picks.proofs.AskedEntry.{entry_asks}
use Rattle.afr_law_picks.proofs.AskedFiles.{read_asks, write_asks}
use Rattle.afr_law_picks.proofs.AskedRename.{rename_asks}
use Rattle.afr_law_picks.proofs.Asks.{ask_same, end_same}
use Rattle.afr_law_picks.proofs.Entry.{entry_begins, entry_begun, entry_ends, entry_picked, entry_reads}
use Rattle.afr_law_picks.proofs.Read.{end_reads, read_begins, read_begun, read_picked, read_reads}
use Rattle.afr_law_picks.proofs.Rename.{rename_begins, rename_begun, rename_picked}
use Rattle.afr_law_picks.proofs.RenameReads.{rename_ends, rename_reads}
use Rattle.afr_law_picks.proofs.Rule.{Picked}
use Rattle.afr_law_picks.proofs.Write.{write_begins, write_begun, write_ends, write_picked, write_reads}
use Rattle.afr_law_picks.specs.Picked.{PickedAt, PickedEnd, PickedIn, PickedRename, PickedStep, PickedUnder, PickedWalk}
use Rattle.afr_client_entry.specs.Removals.Removal as removal
use Rattle.afr_client_entry.specs.Removals.Removal.{Removing}
use Rattle.afr_client_entry.specs.declared.removing.stage.RemovalStage.{RemovalStage}
use Rattle.afr_client_entry.specs.declared.removing.stage.RemovalStage.TheVariants as removing
use Rattle.afr_client_transaction.specs.Outcome.{outcome_of}
use Rattle.afr_client_transaction.specs.Progress as transaction
use Rattle.afr_client_transaction.specs.Progress.{TransactionProgress}
use Rattle.afr_client_transaction.specs.declared.stage.Stage.TheVariants.{Locking}
use Rattle.afr_client_walk.specs.Choosing.{reader_of}
use Rattle.afr_client_walk.specs.Walk.{is_walking, next_in, next_at}
use Rattle.afr_client_walk.specs.declared.walk.Walk.{Walk}
use Rattle.afr_client_walk.specs.declared.walk.WalkStep.{WalkStep}
use Rattle.afr_client_walk.specs.declared.walk.WalkStep.TheVariants.{Arrived, Looking, Naming, Stopped}
use Rattle.afr_client_entry.specs.Renames.Against.{half_reply}
use Rattle.afr_client_entry.specs.Renames.Paths.{front, last, reads_new, reads_old}
use Rattle.afr_client_entry.specs.Renames.Rename as rename
use Rattle.afr_client_entry.specs.Renames.Under as renaming
use Rattle.afr_client_entry.specs.declared.renaming.stage.RenameStage.{RenameStage}
use Rattle.afr_client_entry.specs.declared.renaming.stage.RenameStage.TheVariants as naming
use Rattle.afr_client.specs.Begin.{work_from}
use Rattle.afr_client.specs.Work.{IsWork, choices_of, heard_by, next_of}
use Rattle.afr_client.specs.declared.work.WorkMachine.{WorkMachine}
use Rattle.afr_client.specs.declared.work.WorkMachine.TheVariants.{Entry, Idle, Lookup, Rename, Write}
use Rattle.afr_law_heard.specs.Works.WorkTelling.{WorkTells}
use Rattle.afr_plan.specs.declared.command.Command.TheVariants as command
use Rattle.afr_client_entry.specs.declared.job.EntryJob.TheVariants as name
use Rattle.afr_client_read.specs.declared.job.LookupJob.TheVariants.{GetAttr, Ls, Read, Stat}
use Rattle.afr_client_write.specs.declared.job.WriteJob.TheVariants as job

-- ---- a read's next request
pub read_asking : (m : lookup.Lookup) (b : BrickId) (asked : Request) → lookup.next_of m ≡ next.Ask b asked → (lookup.is_asking m.stage ≡ true) × (next.Ask (lookup.asked_at m.stage m.walk).0 (lookup.asked_at m.stage m.walk).1 ≡ next.Ask b asked)
read_asking m b asked e = by m.stage e
  where
    by : (stage : LookupStage) → lookup.next_at stage m.walk ≡ next.Ask b asked → (lookup.is_asking stage ≡ true) × (next.Ask (lookup.asked_at stage m.walk).0 (lookup.asked_at stage m.walk).1 ≡ next.Ask b asked)
    by reading.Walking e = (refl, e)
    by (reading.Looking s) e = (refl, e)
    by (reading.Reading b of) e = (refl, e)
    by (reading.Ending said) e = absurd (cc e)

module _ (picks : Picks) (p : Plan) where
  -- ---- no lines, and a work that begins
  pub work_begins : (c : Command) → PickedIn picks p (work_from p.shape c) []
  work_begins (command.Write path at bytes) = write_begins picks p path (job.Write at bytes)
  work_begins (command.Cut path len) = write_begins picks p path (job.Cut len)
  work_begins (command.SetAttr path key value) = write_begins picks p path (job.SetAttr key value)
  work_begins (command.Read path at len) = read_begins picks p path (Read at len)
  work_begins (command.GetAttr path key) = read_begins picks p path (GetAttr key)
  work_begins (command.Ls path) = read_begins picks p path Ls
  work_begins (command.Stat path) = read_begins picks p path Stat
  work_begins (command.Create path) = entry_begins picks p (front path) (name.Create (last path))
  work_begins (command.Mkdir path) = entry_begins picks p (front path) (name.Mkdir (last path))
  work_begins (command.Unlink path) = entry_begins picks p (front path) (name.Unlink (last path))
  work_begins (command.Rmdir path) = entry_begins picks p (front path) (name.Rmdir (last path))
  work_begins (command.Rename from to) = rename_begins picks p from to

  -- ---- a line
  pub work_picked : (c : Command) (w : WorkMachine) (lines : Lines) (a : ActorId) (b : BrickId) (asked : Request) (picked : Option BrickId) (heard : Answer) (took : Bool) (log : List Line) (at : ℕ) → IsWork w → WorkTells p c w lines
      → next_of at w ≡ next.Ask b asked → WorkTells p c (heard_by (reader_of picked) (heard_of.Answer heard at) w) ((Ask a b asked (told_by heard) took, log) ∷ lines) → IsWork (heard_by (reader_of picked) (heard_of.Answer heard at) w)
      → Picked picks (choices_of heard at w) picked → PickedIn picks p w lines → PickedIn picks p (heard_by (reader_of picked) (heard_of.Answer heard at) w) ((Ask a b asked (told_by heard) took, log) ∷ lines)
  work_picked c Idle lines a b asked picked heard took log at sound k e tells after answers was = absurd (cc e)
  work_picked c (Lookup m) lines a b asked picked heard took log at sound k e tells after answers was =
      ask_same (λ y r. PickedIn picks p (heard_by (reader_of picked) (heard_of.Answer heard at) (Lookup m)) ((Ask a y r (told_by heard) took, log) ∷ lines)) (lookup.asked_at m.stage m.walk).0 b (lookup.asked_at m.stage m.walk).1 asked (read_asking m b asked e).1
      (read_picked picks p m lines a picked heard took log at sound (read_asking m b asked e).0 k.1 answers was)
  work_picked c (Write m) lines a b asked picked heard took log at sound k e tells after answers was = write_picked picks p c m lines a b asked picked heard took log at sound k.1 e answers was
  work_picked c (Entry m) lines a b asked picked heard took log at sound k e tells after answers was = entry_picked picks p c m lines a b asked picked heard took log at sound k e tells after answers was
  work_picked c (Rename m) lines a b asked picked heard took log at sound k e tells after answers was = rename_picked picks p c m lines a b asked picked heard took log at sound k e tells after answers was

  pub work_begun : (w : WorkMachine) (lines : Lines) (a : ActorId) (change : Change) (log : List Line) (chosen : BrickId) (at : ℕ) → PickedIn picks p w lines → PickedIn picks p (heard_by chosen (heard_of.Begun at) w) ((Begin a change, log) ∷ lines)
  work_begun Idle lines a change log chosen at was = tt
  work_begun (Lookup m) lines a change log chosen at was = read_begun picks p m lines a change log was
  work_begun (Write m) lines a change log chosen at was = write_begun picks p m lines a change log at was
  work_begun (Entry m) lines a change log chosen at was = entry_begun picks p m lines a change log at was
  work_begun (Rename m) lines a change log chosen at was = rename_begun picks p m lines a change log at was

  -- ---- whom it asks, and what it ends with
  pub work_reads : (c : Command) (w : WorkMachine) (a : ActorId) (b : BrickId) (asked : Request) (told : Told) (took : Bool) (log : List Line) (at : ℕ) → IsWork w → WorkTells p c w (work a.0 log) → next_of at w ≡ next.Ask b asked
      → PickedIn picks p w (work a.0 log) → ReadsPicked picks p (Ask a b asked told took) log
  work_reads c Idle a b asked told took log at sound k e was = absurd (cc e)
  work_reads c (Lookup m) a b asked told took log at sound k e was =
      ask_same (λ y r. ReadsPicked picks p (Ask a y r told took) log) (lookup.asked_at m.stage m.walk).0 b (lookup.asked_at m.stage m.walk).1 asked (read_asking m b asked e).1
      (read_reads picks p m a told took log sound (read_asking m b asked e).0 k.1 was)
  work_reads c (Write m) a b asked told took log at sound k e was = write_reads picks p m a b asked told took log at sound e was
  work_reads c (Entry m) a b asked told took log at sound k e was = entry_reads picks p m a b asked told took log at sound e was
  work_reads c (Rename m) a b asked told took log at sound k e was = rename_reads picks p m a log b asked told took c at sound k e was

  read_ends : (m : lookup.Lookup) (lines : Lines) (said : Reply) → lookup.next_of m ≡ next.End said → PickedIn picks p (Lookup m) lines → PickedEnd picks p said lines
  read_ends m lines said e was = by m.stage e was
    where
      by : (stage : LookupStage) → lookup.next_at stage m.walk ≡ next.End said → PickedIn picks p (Lookup (record m { stage = stage })) lines → PickedEnd picks p said lines
      by reading.Walking e was = absurd (cc e)
      by (reading.Looking s) e was = absurd (cc e)
      by (reading.Reading b of) e was = absurd (cc e)
      by (reading.Ending saying) e was = end_same (λ y. PickedEnd picks p y lines) saying said e was

  pub work_ends : (c : Command) (w : WorkMachine) (a : ActorId) (said : Reply) (log : List Line) (at : ℕ) → WorkTells p c w (work a.0 log) → next_of at w ≡ next.End said → PickedIn picks p w (work a.0 log) → ReadsPicked picks p (End a said) log
  work_ends c Idle a said log at k e was = absurd k
  work_ends c (Lookup m) a said log at k e was = end_reads picks p a said log (read_ends m (work a.0 log) said e was)
  work_ends c (Write m) a said log at k e was = end_reads picks p a said log (write_ends picks p m (work a.0 log) said at e was)
  work_ends c (Entry m) a said log at k e was = end_reads picks p a said log (entry_ends picks p m (work a.0 log) said at e was)
  work_ends c (Rename m) a said log at k e was = end_reads picks p a said log (rename_ends picks p m (work a.0 log) said at e was)

-- ---- what a look asks for
-- every machine but a rename's carries out a command with one path
one_read : (job : LookupJob) (path : List NameId) → HasOnePath (reads.command_of job path)
one_read (Read at len) path = tt
one_read (GetAttr key) path = tt
one_read Ls path = tt
one_read Stat path = tt

one_write : (p : Plan) (c : Command) (m : write.Write) (lines : Lines) → WorkTells p c (Write m) lines → HasOnePath c
one_write p (command.Rename from to) m lines k = absurd (true≢false (sym k.0))
one_write p c m lines k = tt

one_entry : (job : EntryJob) (path : List NameId) → HasOnePath (command_of job path)
one_entry (name.Create last) path = tt
one_entry (name.Mkdir last) path = tt
one_entry (name.Unlink last) path = tt
one_entry (name.Rmdir last) path = tt

-- of such a command a line is about what its path names
one_about : (p : Plan) (c : Command) (line : Line) (w : Lines) → HasOnePath c → IsOf p c line w → IsAbout p c line w
one_about p (command.Rename from to) line w one k = absurd one
one_about p c line w one k = k

module _ (picks : Picks) (p : Plan) (c : Command) (lines : Lines) (a : ActorId) (b : BrickId) (asked : Request) (chosen : BrickId) (heard : Answer) (took : Bool) (log : List Line) (at later : ℕ) where
  abbrev more : Lines
  more = (Ask a b asked (told_by heard) took, log) ∷ lines

  abbrev now : WorkMachine → WorkMachine
  now w = heard_by chosen (heard_of.Answer heard at) w

  -- the next request of a work is of its command
  abbrev pub IsOfNext : WorkMachine → Lines → Type 0
  IsOfNext w lines = (y : BrickId) (r : Request) → next_of later w ≡ next.Ask y r → IsOf p c (Ask a y r Done true) lines

  lookup_asks : (m : lookup.Lookup) → IsWork (Lookup m) → WorkTells p c (Lookup m) lines → next_of at (Lookup m) ≡ next.Ask b asked → PickedIn picks p (Lookup m) lines → AsksOf p c asked more (lookup.choices_of heard m)
  lookup_asks m sound k e was =
      asks_one p c asked a b (told_by heard) took log lines (lookup.choices_of heard m) (subst HasOnePath (sym k.0) (one_read m.job m.walk.path))
      (ask_same (λ y r. AsksAs p c r ((Ask a y r (told_by heard) took, log) ∷ lines) (lookup.choices_of heard m)) (lookup.asked_at m.stage m.walk).0 b (lookup.asked_at m.stage m.walk).1 asked (read_asking m b asked e).1
      (subst (λ (c : Command). AsksAs p c (lookup.asked_at m.stage m.walk).1 ((Ask a (lookup.asked_at m.stage m.walk).0 (lookup.asked_at m.stage m.walk).1 (told_by heard) took, log) ∷ lines) (lookup.choices_of heard m)) (sym k.0)
      (read_asks picks p m lines a heard took log sound (read_asking m b asked e).0 k.1 was)))

  name_asks : (m : entry.Entering) → IsWork (Entry m) → WorkTells p c (Entry m) lines → next_of at (Entry m) ≡ next.Ask b asked → WorkTells p c (now (Entry m)) more → IsWork (now (Entry m)) → IsOfNext (now (Entry m)) more → PickedIn picks p (Entry m) lines
      → AsksOf p c asked more (choices_of heard at (Entry m))
  name_asks m sound k e tells after about was =
      asks_one p c asked a b (told_by heard) took log lines (choices_of heard at (Entry m)) one
      (subst (λ (c : Command). AsksAs p c asked more (choices_of heard at (Entry m))) (sym k.named)
      (entry_asks picks p m lines a b asked chosen heard took log at later sound (subst (λ (c : Command). EntryTells p c m lines) k.named k) e
      (subst (λ (c : Command). EntryTells p c (entry.answered chosen heard at m) more) k.named tells) after
      (λ y r is. subst (λ (c : Command). IsAbout p c (Ask a y r Done true) more) k.named (one_about p c (Ask a y r Done true) more one (about y r is))) was))
    where
      one : HasOnePath c
      one = subst HasOnePath (sym k.named) (one_entry m.job m.walk.path)

  pub work_asks : (w : WorkMachine) → IsWork w → WorkTells p c w lines → next_of at w ≡ next.Ask b asked → WorkTells p c (now w) more → IsWork (now w) → IsOfNext (now w) more → PickedIn picks p w lines → AsksOf p c asked more (choices_of heard at w)
  work_asks Idle sound k e tells after about was = absurd (cc e)
  work_asks (Lookup m) sound k e tells after about was = lookup_asks m sound k e was
  work_asks (Write m) sound k e tells after about was =
      asks_one p c asked a b (told_by heard) took log lines (choices_of heard at (Write m)) (one_write p c m lines k) (write_asks picks p c m lines a b asked heard took log at sound k.1 e was)
  work_asks (Entry m) sound k e tells after about was = name_asks m sound k e tells after about was
  work_asks (Rename m) sound k e tells after about was = rename_asks picks p m lines a b asked chosen heard took log at c sound k e tells after was

-- ---- what was picked before a look doesn't matter after it
module _ (picks other : Picks) (p : Plan) (lines : Lines) (b : BrickId) (g : Gfid) where
  forget_walk : (w : Walk) → is_walking w.step ≡ true → next.Ask (next_in w).0 (next_in w).1 ≡ next.Ask b (request.Look g) → PickedWalk picks p w lines → PickedWalk other p w lines
  forget_walk w walks e was = by w.step walks e was
    where
      by : (step : WalkStep) → is_walking step ≡ true → next.Ask (next_at step w).0 (next_at step w).1 ≡ next.Ask b (request.Look g) → PickedStep picks p step w.object.gfid lines → PickedStep other p step w.object.gfid lines
      by (Looking s) h e was = was
      by (Naming copy) h e was = absurd (cc e)
      by Arrived h e was = absurd (cc h)
      by (Stopped why) h e was = absurd (cc h)

  no_look : (h : Gfid) (copy : BrickId) (of : Wanted) → next.Ask copy (request_of h of) ≡ next.Ask b (request.Look g) → ⊥
  no_look h copy (content.Bytes at len) e = cc e
  no_look h copy (content.Value key) e = cc e
  no_look h copy content.Names e = cc e

  forget_read : (m : lookup.Lookup) → lookup.IsLookup m.walk m.stage → lookup.next_of m ≡ next.Ask b (request.Look g) → PickedIn picks p (Lookup m) lines → PickedIn other p (Lookup m) lines
  forget_read m sound e was = by m.stage sound.ready e was
    where
      by : (stage : LookupStage) → lookup.IsStage m.walk.shape.n m.walk.step stage → lookup.next_at stage m.walk ≡ next.Ask b (request.Look g) → PickedIn picks p (Lookup (record m { stage = stage })) lines → PickedIn other p (Lookup (record m { stage = stage })) lines
      by reading.Walking i e was = forget_walk m.walk i e was
      by (reading.Looking s) i e was = was
      by (reading.Reading copy of) i e was = absurd (no_look m.walk.object.gfid copy of e)
      by (reading.Ending said) i e was = absurd (cc e)

  forget_write : (m : write.Write) (at : ℕ) → write.IsWrite m.walk m.stage → write.next_of at m ≡ next.Ask b (request.Look g) → PickedIn picks p (Write m) lines → PickedIn other p (Write m) lines
  forget_write m at sound e was = by m.stage sound.ready e was
    where
      by : (stage : WriteStage) → write.IsStage m.walk stage → write.next_at at stage m.walk ≡ next.Ask b (request.Look g) → PickedIn picks p (Write (record m { stage = stage })) lines → PickedIn other p (Write (record m { stage = stage })) lines
      by (writing.Walking job) i e was = forget_walk m.walk i.0 e was
      by (writing.Changing t) i e was = tt
      by (writing.Ending said) i e was = absurd (cc e)

  forget_list : (stage : RemovalStage) (r : Removing) → removal.next_at stage r ≡ next.Ask b (request.Look g) → PickedAt picks p stage r lines → PickedAt other p stage r lines
  forget_list removing.Listing r e was = absurd (cc e)
  forget_list removing.Locking r e was = tt
  forget_list removing.Looking r e was = tt
  forget_list removing.Beginning r e was = tt
  forget_list removing.Preparing r e was = tt
  forget_list removing.Applying r e was = tt
  forget_list removing.Posting r e was = tt
  forget_list (removing.Closing why) r e was = tt

  forget_entry : (m : entry.Entering) (at : ℕ) → entry.IsEntry m.walk m.job m.stage → entry.next_of at m ≡ next.Ask b (request.Look g) → PickedIn picks p (Entry m) lines → PickedIn other p (Entry m) lines
  forget_entry m at sound e was = by m.stage sound.ready e was
    where
      under : (t : TransactionProgress) (found : Found) → entry.next_under found at m.job m.walk t ≡ next.Ask b (request.Look g) → PickedUnder picks p m.walk.object.gfid t found lines → PickedUnder other p m.walk.object.gfid t found lines
      under t (Unread copy) e was = λ h. absurd (named (subst (λ (x : Bool). (if x then next.Ask copy (entry.reads_name m.job m.walk) else transaction.next_at t.stage at t) ≡ next.Ask b (request.Look g)) h e))
        where
          named : next.Ask copy (entry.reads_name m.job m.walk) ≡ next.Ask b (request.Look g) → ⊥
          named e = cc e
      under t Fits e was = tt
      under t (Refused why) e was = tt

      by : (stage : EntryStage) → entry.IsStage m.walk m.job stage → entry.next_at at stage m.job m.walk ≡ next.Ask b (request.Look g) → PickedIn picks p (Entry (record m { stage = stage })) lines → PickedIn other p (Entry (record m { stage = stage })) lines
      by entering.Walking i e was = forget_walk m.walk i e was
      by (entering.Changing t found) i e was = under t found e was
      by (entering.Removes r) i e was = forget_list r.stage r e was
      by (entering.Ending said) i e was = absurd (cc e)

-- of a rename
module _ (picks other : Picks) (p : Plan) (lines : Lines) (b : BrickId) (g : Gfid) where
  forget_under : (found : Found) (h : Gfid) (name : NameId) (t : TransactionProgress) (at : ℕ) (v : Lines) → renaming.next_under found at (request.ReadName h name) t ≡ next.Ask b (request.Look g) → PickedUnder picks p h t found v → PickedUnder other p h t found v
  forget_under Fits h name t at v e was = tt
  forget_under (Refused why) h name t at v e was = tt
  forget_under (Unread copy) h name t at v e was = λ f. absurd (named (subst (λ (x : Bool). (if x then next.Ask copy (request.ReadName h name) else transaction.next_at t.stage at t) ≡ next.Ask b (request.Look g)) f e))
    where
      named : next.Ask copy (request.ReadName h name) ≡ next.Ask b (request.Look g) → ⊥
      named e = cc e

  forget_rename : (m : rename.Renaming) (at : ℕ) → rename.IsRename m.paths m.stage → rename.next_of at m ≡ next.Ask b (request.Look g) → PickedIn picks p (Rename m) lines → PickedIn other p (Rename m) lines
  forget_rename m at sound e was = by m.stage sound.sound e was
    where
      makes : (t : TransactionProgress) (found : Found) (done : Bool) → (if done then transaction.next_at Locking at (rename.turned m.paths t) else renaming.next_under found at (reads_new m.paths) t) ≡ next.Ask b (request.Look g)
          → PickedUnder picks p m.paths.second.object.gfid t found (the_make m.paths.first.path lines) → PickedUnder other p m.paths.second.object.gfid t found (the_make m.paths.first.path lines)
      makes t found true e was = absurd (cc e)
      makes t found false e was = forget_under found m.paths.second.object.gfid m.paths.new_name t at (the_make m.paths.first.path lines) e was

      removes : (t : TransactionProgress) (found : Found) (over : Bool) → (if over then next.End (half_reply (outcome_of t.change t.register)) else renaming.next_under found at (reads_old m.paths) t) ≡ next.Ask b (request.Look g)
          → PickedUnder picks p m.paths.dir t found (the_removal m.paths.first.path lines) → PickedUnder other p m.paths.dir t found (the_removal m.paths.first.path lines)
      removes t found true e was = absurd (cc e)
      removes t found false e was = forget_under found m.paths.dir m.paths.old_name t at (the_removal m.paths.first.path lines) e was

      by : (stage : RenameStage) → rename.IsSound m.paths stage → rename.next_at at stage m.paths ≡ next.Ask b (request.Look g) → PickedRename picks p stage m.paths lines → PickedRename other p stage m.paths lines
      by naming.Finding i e was = forget_walk picks other p lines b g m.paths.first i e was
      by naming.Walking i e was = forget_walk picks other p (the_make m.paths.first.path lines) b g m.paths.second i.0 e was
      by (naming.Making t found) i e was = makes t found (rename.is_done t) e was
      by (naming.Removing t found) i e was = removes t found (transaction.is_over t.stage t) e was
      by (naming.Ending said) i e was = absurd (cc e)

module _ (picks other : Picks) (p : Plan) (lines : Lines) (b : BrickId) (g : Gfid) where
  pub forget : (w : WorkMachine) (at : ℕ) → IsWork w → next_of at w ≡ next.Ask b (request.Look g) → PickedIn picks p w lines → PickedIn other p w lines
  forget Idle at sound e was = tt
  forget (Lookup m) at sound e was = forget_read picks other p lines b g m sound e was
  forget (Write m) at sound e was = forget_write picks other p lines b g m at sound e was
  forget (Entry m) at sound e was = forget_entry picks other p lines b g m at sound e was
  forget (Rename m) at sound e was = forget_rename picks other p lines b g m at sound e was

-- ---- a rule that picked at least as much
module _ (picks other : Picks) (p : Plan) (lines : Lines) (weaker : (from : List (ℕ × ℕ)) (b : ℕ) → picks from b → other from b) where
  also_walk : (step : WalkStep) (g : Gfid) → PickedStep picks p step g lines → PickedStep other p step g lines
  also_walk (Looking s) g was = was
  also_walk (Naming copy) g was = weaker _ _ was
  also_walk Arrived g was = was
  also_walk (Stopped why) g was = tt

  also_end : (said : Reply) → PickedEnd picks p said lines → PickedEnd other p said lines
  also_end (reply.Ok (good.Stat entry len)) was = (was.0, weaker _ _ was.1, was.2)
  also_end said was = tt

  also_read : (m : lookup.Lookup) → PickedIn picks p (Lookup m) lines → PickedIn other p (Lookup m) lines
  also_read m was = by m.stage was
    where
      by : (stage : LookupStage) → PickedIn picks p (Lookup (record m { stage = stage })) lines → PickedIn other p (Lookup (record m { stage = stage })) lines
      by reading.Walking was = also_walk m.walk.step m.walk.object.gfid was
      by (reading.Looking s) was = was
      by (reading.Reading copy of) was = weaker _ _ was
      by (reading.Ending said) was = also_end said was

  also_write : (m : write.Write) → PickedIn picks p (Write m) lines → PickedIn other p (Write m) lines
  also_write m was = by m.stage was
    where
      by : (stage : WriteStage) → PickedIn picks p (Write (record m { stage = stage })) lines → PickedIn other p (Write (record m { stage = stage })) lines
      by (writing.Walking job) was = also_walk m.walk.step m.walk.object.gfid was
      by (writing.Changing t) was = tt
      by (writing.Ending said) was = also_end said was

  also_list : (stage : RemovalStage) (r : Removing) → PickedAt picks p stage r lines → PickedAt other p stage r lines
  also_list removing.Listing r was = weaker _ _ was
  also_list stage r was = tt

  also_entry : (m : entry.Entering) → PickedIn picks p (Entry m) lines → PickedIn other p (Entry m) lines
  also_entry m was = by m.stage was
    where
      under : (t : TransactionProgress) (found : Found) → PickedUnder picks p m.walk.object.gfid t found lines → PickedUnder other p m.walk.object.gfid t found lines
      under t (Unread copy) was = λ h. weaker _ _ (was h)
      under t Fits was = tt
      under t (Refused why) was = tt

      by : (stage : EntryStage) → PickedIn picks p (Entry (record m { stage = stage })) lines → PickedIn other p (Entry (record m { stage = stage })) lines
      by entering.Walking was = also_walk m.walk.step m.walk.object.gfid was
      by (entering.Changing t found) was = under t found was
      by (entering.Removes r) was = also_list r.stage r was
      by (entering.Ending said) was = also_end said was

-- of a rename
module _ (picks other : Picks) (p : Plan) (lines : Lines) (weaker : (from : List (ℕ × ℕ)) (b : ℕ) → picks from b → other from b) where
  also_under : (g : Gfid) (t : TransactionProgress) (found : Found) (v : Lines) → PickedUnder picks p g t found v → PickedUnder other p g t found v
  also_under g t (Unread copy) v was = λ h. weaker _ _ (was h)
  also_under g t Fits v was = tt
  also_under g t (Refused why) v was = tt

  also_rename : (m : rename.Renaming) → PickedIn picks p (Rename m) lines → PickedIn other p (Rename m) lines
  also_rename m was = by m.stage was
    where
      by : (stage : RenameStage) → PickedRename picks p stage m.paths lines → PickedRename other p stage m.paths lines
      by naming.Finding was = also_walk picks other p lines weaker m.paths.first.step m.paths.first.object.gfid was
      by naming.Walking was = also_walk picks other p (the_make m.paths.first.path lines) weaker m.paths.second.step m.paths.second.object.gfid was
      by (naming.Making t found) was = also_under m.paths.second.object.gfid t found (the_make m.paths.first.path lines) was
      by (naming.Removing t found) was = also_under m.paths.dir t found (the_removal m.paths.first.path lines) was
      by (naming.Ending said) was = also_end picks other p lines weaker said was

module _ (picks other : Picks) (p : Plan) (lines : Lines) (weaker : (from : List (ℕ × ℕ)) (b : ℕ) → picks from b → other from b) where
  pub also : (w : WorkMachine) → PickedIn picks p w lines → PickedIn other p w lines
  also Idle was = tt
  also (Lookup m) was = also_read picks other p lines weaker m was
  also (Write m) was = also_write picks other p lines weaker m was
  also (Entry m) was = also_entry picks other p lines weaker m was
  also (Rename m) was = also_rename picks other p lines weaker m was
