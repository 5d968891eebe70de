-- A work has somebody left to ask, the discipline allows what it asks, and its register notes it.
use Rattle.std.proofs.Common.{◌≡◌, ℕ, ◌<◌, ◌≤◌, ◌==◌, nat_lt, not, Bool, true, false, List, length, refl, ap, subst, arith, inl, inr, if◌then◌else◌}
use Rattle.std.specs.Borrow.{Bor}
use Rattle.std.proofs.lemmas.Bool.{ltb-true}
use Rattle.afr_base.specs.declared.ids.BrickId.{BrickId}
use Rattle.afr_base.specs.declared.ids.NameId.{NameId}
use Rattle.afr_base.specs.declared.ids.Shape.{Shape}
use Rattle.afr_object.specs.declared.change.Change.{Change}
use Rattle.afr_lines.specs.Told.{told_by}
use Rattle.afr_lines.specs.declared.answer.Answer.{Answer}
use Rattle.afr_lines.specs.declared.line.Heard.TheVariants as heard
use Rattle.afr_lines.specs.declared.line.Next.{Next}
use Rattle.afr_lines.specs.declared.line.Next.TheVariants as next
use Rattle.afr_lines.specs.declared.reply.Reply.TheVariants as reply
use Rattle.afr_lines.specs.declared.request.Request.{Request}
use Rattle.afr_plan.specs.declared.command.Command.TheVariants as command
use Rattle.afr_model_moves.specs.Keeps.{keeps_in}
use Rattle.afr_discipline.specs.Notes.{noted_ask}
use Rattle.afr_discipline.specs.Stands.{no_lines, seen_as}
use Rattle.afr_discipline.specs.Inside.{may_move_inside}
use Rattle.afr_discipline.specs.Tests.{may_ask_outside, may_move_outside}
use Rattle.afr_discipline.specs.declared.register.Move.TheVariants as move
use Rattle.afr_discipline.specs.declared.register.Register.{Register}
use Rattle.afr_rule.specs.Choosing.{Calls}
use Rattle.afr_discipline.specs.Free.{Allows, IsFree, is_ask}
use Rattle.afr_client_walk.specs.Looks.{no_look}
use Rattle.afr_client_walk.specs.Walk.{IsWalk, walk_from}
use Rattle.afr_object.specs.Tables.{root_entry}
use Rattle.afr_client_walk.specs.declared.walk.Walk.{Walk}
use Rattle.afr_client_walk.specs.declared.walk.WalkStep.TheVariants as walking
use Rattle.afr_client_walk.specs.Choosing.{reader_of}
use Rattle.afr_client_walk.proofs.ChoosingLemmas.{answers_among}
use Rattle.afr_discipline.proofs.FreeLemmas.{allows_end, shape_is}
use Rattle.afr_client_transaction.proofs.Kept.{asks_or_begins}
use Rattle.afr_client_transaction.proofs.Parts.{both}
use Rattle.afr_client_entry.specs.Entry as entry
use Rattle.afr_client_entry.specs.Entry.{IsEntry}
use Rattle.afr_client_entry.specs.declared.job.EntryJob.{EntryJob}
use Rattle.afr_client_entry.specs.declared.job.EntryJob.TheVariants as name
use Rattle.afr_client_entry.specs.declared.stage.EntryStage.{EntryStage}
use Rattle.afr_client_entry.specs.declared.stage.EntryStage.TheVariants as entering
use Rattle.afr_client_entry.proofs.EntryLemmas as entry_lemmas
use Rattle.afr_client_entry.proofs.NextLemmas as next_lemmas
pub use Rattle.afr_client_entry.proofs.NextLemmas.{same_under}
use Rattle.afr_client_read.specs.Lookup as lookup
use Rattle.afr_client_read.specs.Lookup.{Lookup as LookupValue, asked_at}
use Rattle.afr_client_read.specs.declared.stage.LookupStage.{LookupStage}
use Rattle.afr_client_read.specs.declared.stage.LookupStage.TheVariants as reading
use Rattle.afr_client_read.proofs.LookupLemmas as read
use Rattle.afr_client_write.specs.Job.{is_too_large}
use Rattle.afr_client_write.specs.Write as write
use Rattle.afr_client_write.specs.Write.{IsWrite, after_step, after_walk, register_at}
use Rattle.afr_client_write.specs.declared.job.WriteJob.{WriteJob}
use Rattle.afr_client_write.specs.declared.job.WriteJob.TheVariants as job
use Rattle.afr_client_write.specs.declared.stage.WriteStage.{WriteStage}
use Rattle.afr_client_write.specs.declared.stage.WriteStage.TheVariants as writing
use Rattle.afr_client_write.proofs.WriteLemmas as write_lemmas
use Rattle.afr_client.specs.Laws.{AllowedNext, AsksLow, AsksMore, BeginsFresh, BeginsMore, FedIsAnswered, HasFew, NotesBegin, NotesEach, StaysOutside, StaysSound}
use Rattle.afr_client_entry.specs.Renames.Paths.{front, last}
use Rattle.afr_client_entry.specs.Renames.Rename as rename
use Rattle.afr_client_entry.specs.Renames.Rename.{IsRename}
use Rattle.afr_client_entry.specs.declared.renaming.paths.Paths.{Paths}
use Rattle.afr_client_entry.specs.declared.renaming.stage.RenameStage.{RenameStage}
use Rattle.afr_client_entry.specs.declared.renaming.stage.RenameStage.TheVariants as renaming
use Rattle.afr_client_entry.proofs.Renames.RenameLemmas as rename_lemmas
use Rattle.afr_client.specs.Work.{choices_heard, idle_register, is_over, next_of, register_of}
use Rattle.afr_client.specs.declared.work.WorkMachine.{WorkMachine}
use Rattle.afr_client.specs.declared.work.WorkMachine.TheVariants.{Idle, Lookup, Write, Entry, Rename}

-- ---- the first register
after_first : (b : Bool) (j : WriteJob) (w : Walk) → register_at (after_step (if b then walking.Arrived else walking.Looking no_look) j (record w { object = root_entry })) w ≡ w.register
after_first true (job.Write at bytes) w = refl
after_first true (job.Cut len) w = refl
after_first true (job.SetAttr key value) w = refl
after_first false j w = refl

first_register : (shape : Shape) (path : List NameId) (j : WriteJob) → write.register_of (write.write_from shape path j) ≡ no_lines shape
first_register shape path j = go (is_too_large j)
  where
    w : Walk
    w = walk_from shape path

    go : (large : Bool) → register_at (if large then writing.Ending reply.TooLarge else after_walk j w) w ≡ no_lines shape
    go true = refl
    go false = after_first (0 == length path) j w

first_entry : (b : Bool) (j : EntryJob) (w : Walk) → entry.register_at (entry.after_step (if b then walking.Arrived else walking.Looking no_look) j (record w { object = root_entry })) w ≡ w.register
first_entry true j w = refl
first_entry false j w = refl

entry_register : (shape : Shape) (path : List NameId) (j : EntryJob) → entry.register_of (entry.entry_from shape path j) ≡ no_lines shape
entry_register shape path j = first_entry (0 == length path) j (walk_from shape path)

-- a work that begins has the register of no lines
pub begins_fresh : BeginsFresh
begins_fresh shape (command.Write path at bytes) h = first_register shape path (job.Write at bytes)
begins_fresh shape (command.Cut path len) h = first_register shape path (job.Cut len)
begins_fresh shape (command.SetAttr path key value) h = first_register shape path (job.SetAttr key value)
begins_fresh shape (command.Read path at len) h = refl
begins_fresh shape (command.GetAttr path key) h = refl
begins_fresh shape (command.Ls path) h = refl
begins_fresh shape (command.Stat path) h = refl
begins_fresh shape (command.Create path) h = entry_register shape (front path) (name.Create (last path))
begins_fresh shape (command.Mkdir path) h = entry_register shape (front path) (name.Mkdir (last path))
begins_fresh shape (command.Unlink path) h = entry_register shape (front path) (name.Unlink (last path))
begins_fresh shape (command.Rmdir path) h = entry_register shape (front path) (name.Rmdir (last path))
begins_fresh shape (command.Rename from to) h = refl

-- ---- what is asked
-- whatever the bricks have answered so far, the next line is allowed
pub allowed_next : AllowedNext
allowed_next Idle k at = allows_end (record { n = 1; arbiter = false }) idle_register reply.Failed (inl refl)
allowed_next (Lookup m) k at = read.allowed_next m k
allowed_next (Write m) k at = write_lemmas.allowed_next m k at
allowed_next (Entry m) k at = entry_lemmas.allowed_next m k at
allowed_next (Rename m) k at = rename_lemmas.allowed_next m k at

-- what holds of one request holds of the same request
pub ask_same : (P : BrickId → Request → Type 0) (b c : BrickId) (r q : Request) → next.Ask b r ≡ next.Ask c q → P b r → P c q
ask_same P b c r q e h = subst (λ (x : Request). P c x) (ap request_in e) (subst (λ (x : BrickId). P x r) (ap brick_in e) h)
  where
    brick_in : Next → BrickId
    brick_in (next.Ask d s) = d
    brick_in other = b

    request_in : Next → Request
    request_in (next.Ask d s) = s
    request_in other = r

-- a read begins nothing
pub never_begins : (stage : LookupStage) (w : Walk) (change : Change) → lookup.next_at stage w ≡ next.Begin change → ⊥
never_begins reading.Walking w change e = cc e
never_begins (reading.Looking s) w change e = cc e
never_begins (reading.Reading x of) w change e = cc e
never_begins (reading.Ending said) w change e = cc e

-- ---- more is left
read_more : (stage : LookupStage) (w : Walk) → asks_or_begins (lookup.next_at stage w) ≡ true → not (lookup.is_asking stage) ≡ false
read_more (reading.Ending said) w e = absurd (cc e)
read_more reading.Walking w e = refl
read_more (reading.Looking s) w e = refl
read_more (reading.Reading x of) w e = refl

-- and a read that asks nobody is over
pub read_over : (stage : LookupStage) (w : Walk) → is_ask (lookup.next_at stage w) ≡ false → not (lookup.is_asking stage) ≡ true
read_over (reading.Ending said) w none = refl
read_over reading.Walking w none = absurd (cc none)
read_over (reading.Looking s) w none = absurd (cc none)
read_over (reading.Reading x of) w none = absurd (cc none)

-- where the next line is a request or a Begin line, more is left than the end
more_left : (w : WorkMachine) (at : ℕ) → asks_or_begins (next_of at w) ≡ true → is_over w ≡ false
more_left Idle at e = absurd (cc e)
more_left (Lookup m) at e = read_more m.stage m.walk e
more_left (Write m) at e = write_lemmas.more_left m.stage m.walk at e
more_left (Entry m) at e = next_lemmas.more_left m.stage m.job m.walk at e
more_left (Rename m) at e = next_lemmas.rename_more m.stage m.paths at e

pub asks_more : AsksMore
asks_more w at b request e = more_left w at (ap asks_or_begins e)

pub begins_more : BeginsMore
begins_more w at change e = more_left w at (ap asks_or_begins e)

-- ---- what is heard
asking : (b : Bool) → not b ≡ false → b ≡ true
asking true h = refl
asking false h = absurd (cc h)

-- whatever is heard of the next line, and whichever good copy is read then, a work stays sound
pub stays_sound : StaysSound
stays_sound Idle k more chosen of among = tt
stays_sound (Lookup m) k more chosen (heard.Answer a at) among = read.stays_sound m k (asking (lookup.is_asking m.stage) more) chosen a at among
stays_sound (Lookup m) k more chosen (heard.Begun at) among = k
stays_sound (Write m) k more chosen of among = write_lemmas.stays_sound m k more chosen of among
stays_sound (Entry m) k more chosen of among = entry_lemmas.stays_sound m k more chosen of among
stays_sound (Rename m) k more chosen of among = rename_lemmas.stays_sound m k more chosen of among

-- what a work has heard by some rule, it has heard by any rule
pub fed_is_answered : {F : Type 0} (calls : Calls F) (choose : F) → FedIsAnswered calls choose
fed_is_answered calls choose of old new k = record { chosen = reader_of k.picked; among = answers_among calls choose (choices_heard of old) k.picked k.answers; value = k.value }

-- ---- the register
read_notes : (m : LookupValue) (at : ℕ) (b : BrickId) (request : Request) → lookup.next_of m ≡ next.Ask b request → (chosen : BrickId) (a : Answer)
    → (lookup.answered chosen a at m).walk.register ≡ noted_ask m.walk.register at b.0 request (told_by a)
read_notes m at b request e chosen a =
    let asks_it = read.asking_at m.stage m.walk b request e in
    ask_same (λ (x : BrickId) (q : Request). (lookup.answered chosen a at m).walk.register ≡ noted_ask m.walk.register at x.0 q (told_by a)) (asked_at m.stage m.walk).0 b (asked_at m.stage m.walk).1 request asks_it.1
    (read.notes_each m asks_it.0 chosen a at)

-- the register notes each request, and what was told
pub notes_each : NotesEach
notes_each Idle at b request e chosen a = absurd (cc e)
notes_each (Lookup m) at b request e chosen a = read_notes m at b request e chosen a
notes_each (Write m) at b request e chosen a = write_lemmas.notes_each m at b request e chosen a
notes_each (Entry m) at b request e chosen a = entry_lemmas.notes_each m at b request e chosen a
notes_each (Rename m) at b request e chosen a = rename_lemmas.notes_each m at b request e chosen a

-- and the number of each attempt
pub notes_begin : NotesBegin
notes_begin Idle at change e chosen = absurd (cc e)
notes_begin (Lookup m) at change e chosen = absurd (never_begins m.stage m.walk change e)
notes_begin (Write m) at change e chosen = write_lemmas.notes_begin m at change e chosen
notes_begin (Entry m) at change e chosen = entry_lemmas.notes_begin m at change e chosen
notes_begin (Rename m) at change e chosen = rename_lemmas.notes_begin m at change e chosen

-- ---- few bricks, and no heal
walk_few : (w : Walk) → IsWalk w → w.register.shape.n ≤ 5
walk_few w k = rw (shape_is w.shape w.register k.free) k.few

write_few : (stage : WriteStage) (w : Walk) → IsWrite w stage → (register_at stage w).shape.n ≤ 5
write_few (writing.Walking j) w k = walk_few w k.sound
write_few (writing.Changing t) w k = k.ready.0.base.few
write_few (writing.Ending said) w k = walk_few w k.sound

entry_few : (stage : EntryStage) (j : EntryJob) (w : Walk) → IsEntry w j stage → (entry.register_at stage w).shape.n ≤ 5
entry_few entering.Walking j w k = walk_few w k.sound
entry_few (entering.Changing t of) j w k = k.ready.sound.base.few
entry_few (entering.Removes m) j w k = k.ready.sound.base.few
entry_few (entering.Ending said) j w k = walk_few w k.sound

rename_few : (stage : RenameStage) (x : Paths) → IsRename x stage → (rename.register_at stage x).shape.n ≤ 5
rename_few renaming.Finding x k = walk_few x.first k.paths.first
rename_few renaming.Walking x k = walk_few x.second k.paths.second
rename_few (renaming.Making t of) x k = k.sound.under.sound.base.few
rename_few (renaming.Removing t of) x k = k.sound.under.sound.base.few
rename_few (renaming.Ending said) x k = walk_few x.second k.paths.second

-- the volume has five bricks at most
pub has_few : HasFew
has_few Idle k = omega arith
has_few (Lookup m) k = walk_few m.walk k.sound
has_few (Write m) k = write_few m.stage m.walk k
has_few (Entry m) k = entry_few m.stage m.job m.walk k
has_few (Rename m) k = rename_few m.stage m.paths k

free_outside : (shape : Shape) (r : Register) → IsFree shape r → r.inside ≡ false
free_outside shape r (inl e) = ap (λ (x : Register). x.inside) e
free_outside shape r (inr e) = ap (λ (x : Register). x.inside) e

write_outside : (stage : WriteStage) (w : Walk) → IsWrite w stage → (register_at stage w).inside ≡ false
write_outside (writing.Walking j) w k = free_outside w.shape w.register k.sound.free
write_outside (writing.Changing t) w k = k.ready.0.base.outside
write_outside (writing.Ending said) w k = free_outside w.shape w.register k.sound.free

entry_outside : (stage : EntryStage) (j : EntryJob) (w : Walk) → IsEntry w j stage → (entry.register_at stage w).inside ≡ false
entry_outside entering.Walking j w k = free_outside w.shape w.register k.sound.free
entry_outside (entering.Changing t of) j w k = k.ready.sound.base.outside
entry_outside (entering.Removes m) j w k = k.ready.sound.base.outside
entry_outside (entering.Ending said) j w k = free_outside w.shape w.register k.sound.free

rename_outside : (stage : RenameStage) (x : Paths) → IsRename x stage → (rename.register_at stage x).inside ≡ false
rename_outside renaming.Finding x k = free_outside x.first.shape x.first.register k.paths.first.free
rename_outside renaming.Walking x k = free_outside x.second.shape x.second.register k.paths.second.free
rename_outside (renaming.Making t of) x k = k.sound.under.sound.base.outside
rename_outside (renaming.Removing t of) x k = k.sound.under.sound.base.outside
rename_outside (renaming.Ending said) x k = free_outside x.second.shape x.second.register k.paths.second.free

-- a client's work is no heal
pub stays_outside : StaysOutside
stays_outside Idle k = refl
stays_outside (Lookup m) k = free_outside m.walk.shape m.walk.register k.sound.free
stays_outside (Write m) k = write_outside m.stage m.walk k
stays_outside (Entry m) k = entry_outside m.stage m.job m.walk k
stays_outside (Rename m) k = rename_outside m.stage m.paths k

-- ---- who is asked
below_five : (b n : ℕ) → b < n → n ≤ 5 → b < 5
below_five b n l few = omega (arith, l, few)

-- what the discipline lets ask outside a heal is asked of a brick of the volume
allows_low : (r : Register) → r.inside ≡ false → r.shape.n ≤ 5 → (b : BrickId) (request : Request) → Allows r (next.Ask b request) → b.0 < 5
allows_low r outside few b request allows = below_five b.0 r.shape.n (ltb-true b.0 r.shape.n low.0) few
  where
    of : Bor Request
    of = record { ref_ptr = (0, 0); now = request }

    goes_out : (inside p q : Bool) → inside ≡ false → (if inside then p else q) ≡ true → q ≡ true
    goes_out true p q e h = absurd (cc e)
    goes_out false p q e h = h

    low : (nat_lt b.0 r.shape.n ≡ true) × (may_ask_outside r.shape.n (keeps_in r.shape) (seen_as r) b.0 request ≡ true)
    low =
        both (nat_lt b.0 r.shape.n) (may_ask_outside r.shape.n (keeps_in r.shape) (seen_as r) b.0 request)
        (goes_out r.inside (may_move_inside r.shape.n (keeps_in r.shape) (seen_as r) (move.Ask b of)) (may_move_outside r.shape.n (keeps_in r.shape) (seen_as r) (move.Ask b of)) outside (allows (move.Ask b of) (refl, refl)))

-- a request goes to one of the five bricks
pub asks_low : AsksLow
asks_low w k at b request e = allows_low (register_of w) (stays_outside w k) (has_few w k) b request (subst (λ (line : Next). Allows (register_of w) line) e (allowed_next w k at))
