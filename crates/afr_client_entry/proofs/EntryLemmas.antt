-- A command on a name stays sound, whatever is heard, and its register notes each line.
use Rattle.std.proofs.Common.{◌≡◌, ℕ, Bool, true, false, [], Option, Some, None, refl, sym, ap, subst, ◌∙◌, if◌then◌else◌}
use Rattle.afr_base.specs.Bricks.{lowest, is_nothing}
use Rattle.afr_base.specs.Majority.{is_majority}
use Rattle.afr_base.specs.declared.ids.BrickId.{BrickId}
use Rattle.afr_base.specs.declared.ids.Gfid.{Gfid}
use Rattle.afr_base.specs.declared.ids.Kind.{Kind}
use Rattle.afr_base.specs.declared.ids.Kind.TheVariants.{Names}
use Rattle.afr_base.specs.declared.ids.NameId.{NameId}
use Rattle.afr_object.specs.Tables.{is_dir}
use Rattle.afr_object.specs.declared.change.Change.{Change}
use Rattle.afr_choice.specs.Verdict.{good_copies}
use Rattle.afr_lines.specs.Areas.{kind_for}
use Rattle.afr_lines.specs.Told.{told_by}
use Rattle.afr_lines.specs.declared.answer.Answer.{Answer}
use Rattle.afr_lines.specs.declared.answer.Answer.TheVariants as answer
use Rattle.afr_lines.specs.declared.answer.Told.{Told}
use Rattle.afr_lines.specs.declared.answer.Told.TheVariants as as_told
use Rattle.afr_lines.specs.declared.line.Heard.TheVariants as heard
use Rattle.afr_lines.specs.declared.line.Next.TheVariants as next
use Rattle.afr_lines.specs.declared.reply.Reply.TheVariants as reply
use Rattle.afr_lines.specs.declared.request.Request.{Request}
use Rattle.afr_discipline.specs.Notes.{noted_ask, noted_begin}
use Rattle.afr_rule.specs.Choosing.{Calls}
use Rattle.afr_client_walk.specs.Choosing.{IsAmong, candidates_of, reader_of}
use Rattle.afr_client_walk.specs.Walk.{next_in, noted, walked}
use Rattle.afr_client_walk.specs.declared.walk.Walk.{Walk}
use Rattle.afr_client_walk.specs.declared.walk.WalkStep.{WalkStep}
use Rattle.afr_client_walk.specs.declared.walk.WalkStep.TheVariants as walking
use Rattle.afr_client_walk.proofs.ChoosingLemmas.{among_good, answers_among}
use Rattle.afr_client_walk.proofs.WalkLemmas.{is_walked, walked_notes}
use Rattle.afr_client_transaction.specs.Progress as progress
use Rattle.afr_client_transaction.specs.Progress.{TransactionProgress, after, answered_by, begun, enough, fed, is_beginning, left, may_start, starting, told_to}
use Rattle.afr_client_transaction.specs.Sound as progress_sound
use Rattle.afr_client_transaction.specs.declared.stage.Stage.{Stage}
use Rattle.afr_client_transaction.specs.declared.stage.Stage.TheVariants.{Locking, Looking, Beginning, Preparing, Applying, Posting, Closing}
use Rattle.afr_client_transaction.proofs.Kept.{kept_begin, stays_sound as transaction_stays}
use Rattle.afr_client_transaction.proofs.NoteLemmas.{asks_elsewhere, begins_there, fed_change, fed_notes, noted_as}
use Rattle.afr_client_transaction.proofs.ReadLemmas.{begins_at, kept_given_up, kept_read, some_good}
use Rattle.afr_client_entry.specs.Removals.Removal as removal
use Rattle.afr_client_entry.specs.Removals.Removal.{Removing, removing}
use Rattle.afr_client_entry.specs.Removals.Sound as removal_sound
use Rattle.afr_client_entry.proofs.Removals.FirstLemmas.{base_of, named_of, unbegun_of}
use Rattle.afr_client_entry.proofs.Removals.KeptLemmas.{begins_sound, sound_first as removal_first, stays_sound as removal_stays}
use Rattle.afr_client_entry.proofs.Removals.NoteLemmas.{answered_notes, asks_elsewhere as removal_asks, begins_there as removal_begins}
use Rattle.afr_client_entry.specs.Entry.{HasReader, IsChanging, IsEntry, IsRemoving, IsStage, IsToRemove, after_step, child_after, choices_at, choices_heard, choices_removing, choices_under, fits_job, fits_stage, found_after, found_by, is_over, name_noted, next_at, next_under, offered, or_removes, progress_after, progress_begun, reads_name, register_at, removal_after, removal_begun, settled, stage_after, stage_begun, walk_after}
use Rattle.afr_client_entry.specs.Job.{change_of, child_by, reply_to, ruled_out}
use Rattle.afr_client_entry.specs.Laws.{FedIsAnswered, NotesBegin, NotesEach, StaysSound}
use Rattle.afr_client_entry.specs.declared.job.EntryJob.{EntryJob}
use Rattle.afr_client_entry.specs.declared.job.EntryJob.TheVariants as job
use Rattle.afr_client_entry.specs.declared.refusal.Refusal.{Refusal}
use Rattle.afr_client_entry.specs.declared.refusal.Refusal.TheVariants as refusal
use Rattle.afr_client_entry.specs.declared.stage.EntryStage.{EntryStage}
use Rattle.afr_client_entry.specs.declared.stage.EntryStage.TheVariants.{Walking, Changing, Removes, Ending}
use Rattle.afr_client_entry.specs.declared.stage.Found.{Found}
use Rattle.afr_client_entry.specs.declared.stage.Found.TheVariants.{Unread, Fits, Refused}
pub use Rattle.afr_client_entry.proofs.AskedLemmas.{allowed_next}
use Rattle.afr_client_entry.proofs.AskedLemmas.{is_after_walk, kind_is}

-- ---- what is heard
-- the order of the name and the phases
next_fits : (found : Found) (stage : Stage) (x : TransactionProgress) → fits_stage found stage ≡ true → is_beginning stage ≡ false → fits_stage found (after stage x) ≡ true
next_fits (Unread b) Locking x h e = go (is_nothing (left Locking x)) (is_majority x.register.shape.n x.asked.locked_on)
  where
    go : (over f : Bool) → fits_stage (Unread b) (if over then (if f then Looking else Closing) else Locking) ≡ true
    go true true = refl
    go true false = refl
    go false f = refl
next_fits (Unread b) Looking x h e = go (is_nothing (left Looking x)) (may_start x.register x.change)
  where
    go : (over f : Bool) → fits_stage (Unread b) (if over then (if f then Beginning else Closing) else Looking) ≡ true
    go true true = refl
    go true false = refl
    go false f = refl
next_fits Fits Preparing x h e = go (is_nothing (left Preparing x)) (enough x.register (kind_for x.change) x.register.pre)
  where
    go : (over f : Bool) → fits_stage Fits (if over then (if f then Applying else Closing) else Preparing) ≡ true
    go true true = refl
    go true false = refl
    go false f = refl
next_fits Fits Applying x h e = go (is_nothing (left Applying x)) (enough x.register (kind_for x.change) x.register.done)
  where
    go : (over f : Bool) → fits_stage Fits (if over then (if f then Posting else Closing) else Applying) ≡ true
    go true true = refl
    go true false = refl
    go false f = refl
next_fits Fits Posting x h e = go (is_nothing (left Posting x))
  where
    go : (over : Bool) → fits_stage Fits (if over then Closing else Posting) ≡ true
    go true = refl
    go false = refl
next_fits (Unread b) Closing x h e = go (is_nothing (left Closing x))
  where
    go : (over : Bool) → fits_stage (Unread b) (if over then Closing else Closing) ≡ true
    go true = refl
    go false = refl
next_fits Fits Closing x h e = go (is_nothing (left Closing x))
  where
    go : (over : Bool) → fits_stage Fits (if over then Closing else Closing) ≡ true
    go true = refl
    go false = refl
next_fits (Refused why) Closing x h e = go (is_nothing (left Closing x))
  where
    go : (over : Bool) → fits_stage (Refused why) (if over then Closing else Closing) ≡ true
    go true = refl
    go false = refl
next_fits (Unread b) Beginning x h e = absurd (cc e)
next_fits (Unread b) Preparing x h e = absurd (cc h)
next_fits (Unread b) Applying x h e = absurd (cc h)
next_fits (Unread b) Posting x h e = absurd (cc h)
next_fits Fits Locking x h e = absurd (cc h)
next_fits Fits Looking x h e = absurd (cc h)
next_fits Fits Beginning x h e = absurd (cc e)
next_fits (Refused why) Locking x h e = absurd (cc h)
next_fits (Refused why) Looking x h e = absurd (cc h)
next_fits (Refused why) Beginning x h e = absurd (cc h)
next_fits (Refused why) Preparing x h e = absurd (cc h)
next_fits (Refused why) Applying x h e = absurd (cc h)
next_fits (Refused why) Posting x h e = absurd (cc h)

pub fed_fits : (found : Found) (stage : Stage) (told : Told) (at : ℕ) (t : TransactionProgress) → fits_stage found stage ≡ true → is_beginning stage ≡ false → fits_stage found (fed stage told at t).stage ≡ true
fed_fits found Locking told at t h e = next_fits found Locking (answered_by Locking (lowest (left Locking t)) told at t) h e
fed_fits found Looking told at t h e = next_fits found Looking (answered_by Looking (lowest (left Looking t)) told at t) h e
fed_fits found Beginning told at t h e = absurd (cc e)
fed_fits found Preparing told at t h e = next_fits found Preparing (answered_by Preparing (lowest (left Preparing t)) told at t) h e
fed_fits found Applying told at t h e = next_fits found Applying (answered_by Applying (lowest (left Applying t)) told at t) h e
fed_fits found Posting told at t h e = next_fits found Posting (answered_by Posting (lowest (left Posting t)) told at t) h e
fed_fits found Closing told at t h e = next_fits found Closing (answered_by Closing (lowest (left Closing t)) told at t) h e

fed_kept : (w : Walk) (j : EntryJob) (t : TransactionProgress) (found : Found) (told : Told) (at : ℕ) → IsChanging w j t found → HasReader (fed t.stage told at t) found → progress.is_over t.stage t ≡ false → is_beginning t.stage ≡ false
    → IsChanging w j (fed t.stage told at t) found
fed_kept w j t found told at k reads more e = record {
  sound = transaction_stays t k.sound more told at;
  of_job = fed_change t.stage told at t ∙ k.of_job;
  in_turn = fed_fits found t.stage told at t k.in_turn e;
  fits = k.fits;
  reads = reads;
}

-- once the name is read, nobody is asked for it
told_kept : (w : Walk) (j : EntryJob) (t : TransactionProgress) (found : Found) (told : Told) (at : ℕ) → ((x : TransactionProgress) → HasReader x found) → IsChanging w j t found → progress.is_over t.stage t ≡ false → IsChanging w j (told_to told at t) found
told_kept w j t found told at free k more = go (is_beginning t.stage) refl
  where
    go : (e : Bool) → is_beginning t.stage ≡ e → IsChanging w j (if e then t else fed t.stage told at t) found
    go true e = k
    go false e = fed_kept w j t found told at k (free (fed t.stage told at t)) more e

-- the copy to ask may be another, as long as the looks aren't over
other_reader : (w : Walk) (j : EntryJob) (t : TransactionProgress) (b chosen : BrickId) → is_beginning t.stage ≡ false → IsChanging w j t (Unread b) → IsChanging w j t (Unread chosen)
other_reader w j t b chosen e k = record { sound = k.sound; of_job = k.of_job; in_turn = same t.stage k.in_turn; fits = refl; reads = λ h. absurd (cc (e, h)) }
  where
    same : (stage : Stage) → fits_stage (Unread b) stage ≡ true → fits_stage (Unread chosen) stage ≡ true
    same Locking h = refl
    same Looking h = refl
    same Beginning h = refl
    same Closing h = refl
    same Preparing h = absurd (cc h)
    same Applying h = absurd (cc h)
    same Posting h = absurd (cc h)

-- of the good copies one was chosen, where the looks under the locks are over
pub reader_chosen : (t : TransactionProgress) → kind_for t.change ≡ Names → progress_sound.Sound t → (chosen : BrickId) → IsAmong (offered t) chosen → HasReader t (Unread chosen)
reader_chosen t kind sound chosen among = λ h.
    among_good t.register.shape t.register.looked Names chosen (subst (λ (k : Kind). is_nothing (good_copies t.register.shape t.register.looked k) ≡ false) kind (some_good t sound h))
    (subst (λ (e : Bool). IsAmong (if e then candidates_of t.register.shape t.register.looked Names else []) chosen) h among)

-- the name was told
name_kept : (w : Walk) (j : EntryJob) (t : TransactionProgress) (told : Told) (at : ℕ) (why : Option Refusal) (b : BrickId) → fits_job (found_by why) j ≡ true → IsChanging w j t (Unread b) → is_beginning t.stage ≡ true
    → IsChanging w j (settled why (name_noted b j w told at t)) (found_by why)
name_kept w j t told at None b fits k e = record {
  sound = kept_read t k.sound e b.0 (reads_name j w) refl told at;
  of_job = k.of_job;
  in_turn = subst (λ (stage : Stage). fits_stage Fits stage ≡ true) (sym (begins_at t.stage e)) refl;
  fits = fits;
  reads = tt;
}
name_kept w j t told at (Some why) b fits k e = record {
  sound = kept_given_up (name_noted b j w told at t) (kept_read t k.sound e b.0 (reads_name j w) refl told at) e;
  of_job = k.of_job;
  in_turn = refl;
  fits = refl;
  reads = tt;
}

-- what is to be removed goes on as a removal
pub first_removal : (w : Walk) (j : EntryJob) (t : TransactionProgress) (g : Gfid) → IsToRemove w j t → removal_sound.Sound (removing t.change t.register g)
first_removal w j t g k = removal_first t.change t.register g k.removes (base_of t k.sound) (named_of t k.sound k.beginning) k.sound.base.no_second k.sound.base.none_second (unbegun_of t k.sound k.beginning)

to_remove : (w : Walk) (name : NameId) (t : TransactionProgress) (b : BrickId) (told : Told) (at : ℕ) → IsChanging w (job.Rmdir name) t (Unread b) → is_beginning t.stage ≡ true → IsToRemove w (job.Rmdir name) (name_noted b (job.Rmdir name) w told at t)
to_remove w name t b told at k e = record {
  sound = kept_read t k.sound e b.0 (reads_name (job.Rmdir name) w) refl told at;
  of_job = k.of_job;
  beginning = e;
  removes = subst (λ (c : Change). removal_sound.IsRemoval c) (sym k.of_job) tt;
}

name_stage : (w : Walk) (j : EntryJob) (t : TransactionProgress) (b : BrickId) (a : Answer) (at : ℕ) → IsChanging w j t (Unread b) → is_beginning t.stage ≡ true
    → IsStage w j (or_removes (child_by j a) (settled (ruled_out j a) (name_noted b j w (told_by a) at t)) (found_by (ruled_out j a)))
name_stage w (job.Create name) t b a at k e = name_kept w (job.Create name) t (told_by a) at (ruled_out (job.Create name) a) b (fits (ruled_out (job.Create name) a)) k e
  where
    fits : (why : Option Refusal) → fits_job (found_by why) (job.Create name) ≡ true
    fits None = refl
    fits (Some why) = refl
name_stage w (job.Mkdir name) t b a at k e = name_kept w (job.Mkdir name) t (told_by a) at (ruled_out (job.Mkdir name) a) b (fits (ruled_out (job.Mkdir name) a)) k e
  where
    fits : (why : Option Refusal) → fits_job (found_by why) (job.Mkdir name) ≡ true
    fits None = refl
    fits (Some why) = refl
name_stage w (job.Unlink name) t b a at k e = name_kept w (job.Unlink name) t (told_by a) at (ruled_out (job.Unlink name) a) b (fits (ruled_out (job.Unlink name) a)) k e
  where
    fits : (why : Option Refusal) → fits_job (found_by why) (job.Unlink name) ≡ true
    fits None = refl
    fits (Some why) = refl
name_stage w (job.Rmdir name) t b (answer.Entry None) at k e = name_kept w (job.Rmdir name) t as_told.Given at (Some refusal.NoEntry) b refl k e
name_stage w (job.Rmdir name) t b (answer.Entry (Some entry)) at k e = go (is_dir entry.what)
  where
    go : (d : Bool)
        → IsStage w (job.Rmdir name)
        (or_removes (if d then Some entry.gfid else None) (settled (if d then None else Some refusal.NotDir) (name_noted b (job.Rmdir name) w as_told.Given at t)) (found_by (if d then None else Some refusal.NotDir)))
    go true = record { sound = first_removal w (job.Rmdir name) (name_noted b (job.Rmdir name) w as_told.Given at t) entry.gfid (to_remove w name t b as_told.Given at k e); of_job = k.of_job }
    go false = name_kept w (job.Rmdir name) t as_told.Given at (Some refusal.NotDir) b refl k e
name_stage w (job.Rmdir name) t b a at k e = name_kept w (job.Rmdir name) t (told_by a) at (Some refusal.Failed) b refl k e

named_to_remove : (w : Walk) (j : EntryJob) (t : TransactionProgress) (b : BrickId) (a : Answer) (at : ℕ) (g : Gfid) → IsChanging w j t (Unread b) → is_beginning t.stage ≡ true → child_by j a ≡ Some g
    → IsToRemove w j (settled (ruled_out j a) (name_noted b j w (told_by a) at t))
named_to_remove w (job.Create name) t b a at g k e f = absurd (cc f)
named_to_remove w (job.Mkdir name) t b a at g k e f = absurd (cc f)
named_to_remove w (job.Unlink name) t b a at g k e f = absurd (cc f)
named_to_remove w (job.Rmdir name) t b (answer.Entry (Some entry)) at g k e f = go (is_dir entry.what) f
  where
    go : (d : Bool) → (if d then Some entry.gfid else None) ≡ Some g → IsToRemove w (job.Rmdir name) (settled (if d then None else Some refusal.NotDir) (name_noted b (job.Rmdir name) w as_told.Given at t))
    go true f = to_remove w name t b as_told.Given at k e
    go false f = absurd (cc f)
named_to_remove w (job.Rmdir name) t b (answer.Entry None) at g k e f = absurd (cc f)
named_to_remove w (job.Rmdir name) t b a at g k e f = absurd (cc f)

pub found_to_remove : (found : Found) (a : Answer) (at : ℕ) (w : Walk) (j : EntryJob) (t : TransactionProgress) (g : Gfid) → IsChanging w j t found → child_after found a j t.stage ≡ Some g → IsToRemove w j (progress_after found a at j w t)
found_to_remove (Unread b) a at w j t g k f = go (is_beginning t.stage) refl f
  where
    go : (e : Bool) → is_beginning t.stage ≡ e → (if e then child_by j a else None) ≡ Some g → IsToRemove w j (if e then settled (ruled_out j a) (name_noted b j w (told_by a) at t) else fed t.stage (told_by a) at t)
    go true e f = named_to_remove w j t b a at g k e f
    go false e f = absurd (cc f)
found_to_remove Fits a at w j t g k f = absurd (cc f)
found_to_remove (Refused why) a at w j t g k f = absurd (cc f)

pub progress_kept : (chosen : BrickId) (found : Found) (a : Answer) (at : ℕ) (w : Walk) (j : EntryJob) (t : TransactionProgress) → IsChanging w j t found → progress.is_over t.stage t ≡ false → IsAmong (choices_under found a at t) chosen
    → IsStage w j (or_removes (child_after found a j t.stage) (progress_after found a at j w t) (found_after chosen found a j t.stage))
progress_kept chosen (Unread b) a at w j t k more among = go (is_beginning t.stage) refl among
  where
    go : (e : Bool) → is_beginning t.stage ≡ e → IsAmong (if e then [] else offered (fed t.stage (told_by a) at t)) chosen
        → IsStage w j (or_removes (if e then child_by j a else None) (if e then settled (ruled_out j a) (name_noted b j w (told_by a) at t) else fed t.stage (told_by a) at t) (if e then found_by (ruled_out j a) else Unread chosen))
    go true e h = name_stage w j t b a at k e
    go false e h =
        fed_kept w j t (Unread chosen) (told_by a) at (other_reader w j t b chosen e k)
        (reader_chosen (fed t.stage (told_by a) at t) (ap kind_for (fed_change t.stage (told_by a) at t) ∙ kind_is w j t (Unread b) k) (transaction_stays t k.sound more (told_by a) at) chosen h) more e
progress_kept chosen Fits a at w j t k more among = told_kept w j t Fits (told_by a) at (λ x. tt) k more
progress_kept chosen (Refused why) a at w j t k more among = told_kept w j t (Refused why) (told_by a) at (λ x. tt) k more

-- a removal was told something, or has begun
removal_kept : (chosen : BrickId) (a : Answer) (at : ℕ) (w : Walk) (j : EntryJob) (m : Removing) → IsRemoving w j m → removal.is_over m.stage m ≡ false → IsAmong (choices_removing a at m) chosen → IsRemoving w j (removal_after chosen a at m)
removal_kept chosen a at w j m k more among = go (removal.is_beginning m.stage) refl among
  where
    go : (e : Bool) → removal.is_beginning m.stage ≡ e → IsAmong (if e then [] else removal.choices_at m.stage a at m) chosen → IsRemoving w j (if e then m else removal.answered chosen m.stage a at m)
    go true e h = k
    go false e h = record { sound = removal_stays m k.sound more e chosen a at h; of_job = k.of_job }

removal_begun_kept : (at : ℕ) (w : Walk) (j : EntryJob) (m : Removing) → IsRemoving w j m → IsRemoving w j (removal_begun at m)
removal_begun_kept at w j m k = go (removal.is_beginning m.stage) refl
  where
    go : (e : Bool) → removal.is_beginning m.stage ≡ e → IsRemoving w j (if e then removal.begun at m else m)
    go true e = record { sound = begins_sound m k.sound e at; of_job = k.of_job }
    go false e = k

begun_kept : (w : Walk) (j : EntryJob) (t : TransactionProgress) (found : Found) (at : ℕ) → fits_stage found Beginning ≡ true → fits_stage found Preparing ≡ true → ((x : TransactionProgress) → HasReader x found) → IsChanging w j t found
    → IsChanging w j (if is_beginning t.stage then begun at t else t) found
begun_kept w j t found at one two free k = go (is_beginning t.stage) refl
  where
    go : (e : Bool) → is_beginning t.stage ≡ e → IsChanging w j (if e then begun at t else t) found
    go true e = record { sound = kept_begin t k.sound (begins_at t.stage e) at; of_job = k.of_job; in_turn = two; fits = k.fits; reads = free (begun at t) }
    go false e = k

-- a change that was ruled out never begins
refused_kept : (w : Walk) (j : EntryJob) (t : TransactionProgress) (why : Refusal) (at : ℕ) → IsChanging w j t (Refused why) → IsChanging w j (if is_beginning t.stage then begun at t else t) (Refused why)
refused_kept w j t why at k = go (is_beginning t.stage) refl
  where
    closed : (stage : Stage) → fits_stage (Refused why) stage ≡ true → is_beginning stage ≡ false
    closed Closing h = refl
    closed Locking h = absurd (cc h)
    closed Looking h = absurd (cc h)
    closed Beginning h = absurd (cc h)
    closed Preparing h = absurd (cc h)
    closed Applying h = absurd (cc h)
    closed Posting h = absurd (cc h)

    go : (e : Bool) → is_beginning t.stage ≡ e → IsChanging w j (if e then begun at t else t) (Refused why)
    go true e = let f = closed t.stage k.in_turn in absurd (cc (e, f))
    go false e = k

progress_begun_kept : (found : Found) (at : ℕ) (w : Walk) (j : EntryJob) (t : TransactionProgress) → IsChanging w j t found → IsChanging w j (progress_begun found at t) found
progress_begun_kept (Unread b) at w j t k = k
progress_begun_kept Fits at w j t k = begun_kept w j t Fits at refl refl (λ x. tt) k
progress_begun_kept (Refused why) at w j t k = refused_kept w j t why at k

pub kept_answer : (chosen : BrickId) (stage : EntryStage) (a : Answer) (at : ℕ) (w : Walk) (j : EntryJob) → IsEntry w j stage → is_over stage ≡ false → IsAmong (choices_at stage a at w) chosen
    → IsEntry (walk_after chosen stage a at w) j (stage_after chosen stage a at j (walk_after chosen stage a at w))
kept_answer chosen Walking a at w j k more among = is_after_walk j (walked chosen a at w) (is_walked chosen a at w k.sound k.ready among)
kept_answer chosen (Changing t found) a at w j k more among = record { sound = k.sound; ready = progress_kept chosen found a at w j t k.ready more among }
kept_answer chosen (Removes m) a at w j k more among = record { sound = k.sound; ready = removal_kept chosen a at w j m k.ready more among }
kept_answer chosen (Ending said) a at w j k more among = absurd (cc more)

pub kept_begun : (stage : EntryStage) (at : ℕ) (w : Walk) (j : EntryJob) → IsEntry w j stage → IsEntry w j (stage_begun stage at)
kept_begun Walking at w j k = k
kept_begun (Changing t found) at w j k = record { sound = k.sound; ready = progress_begun_kept found at w j t k.ready }
kept_begun (Removes m) at w j k = record { sound = k.sound; ready = removal_begun_kept at w j m k.ready }
kept_begun (Ending said) at w j k = k

-- whatever is heard of the next line, such a command stays sound
pub stays_sound : StaysSound
stays_sound m k more chosen (heard.Answer a at) among = kept_answer chosen m.stage a at m.walk m.job k more among
stays_sound m k more chosen (heard.Begun at) among = kept_begun m.stage at m.walk m.job k

-- what such a command has heard by some rule, it has heard by any rule
pub fed_is_answered : {F : Type 0} (calls : Calls F) (choose : F) → FedIsAnswered calls choose
fed_is_answered calls choose of old new k = record { chosen = reader_of k.picked; among = answers_among calls choose (choices_heard of old) k.picked k.answers; value = k.value }

-- ---- the register
left_register : (step : WalkStep) (j : EntryJob) (w : Walk) → register_at (after_step step j w) w ≡ w.register
left_register (walking.Looking s) j w = refl
left_register (walking.Naming b) j w = refl
left_register walking.Arrived j w = go (is_dir w.object.what)
  where
    go : (d : Bool) → register_at (if d then Changing (starting (change_of w.object.gfid j) w.register) (Unread (record { 0 = 0 })) else Ending reply.NotDir) w ≡ w.register
    go true = refl
    go false = refl
left_register (walking.Stopped why) j w = refl

pub settled_register : (why : Option Refusal) (t : TransactionProgress) → (settled why t).register ≡ t.register
settled_register None t = refl
settled_register (Some why) t = refl

-- a transaction that asks notes its request
pub told_notes : (t : TransactionProgress) (at : ℕ) (brick : BrickId) (request : Request) (told : Told) → progress.next_at t.stage at t ≡ next.Ask brick request
    → (told_to told at t).register ≡ noted_ask t.register at brick.0 request told
told_notes t at brick request told e = go (is_beginning t.stage) (asks_elsewhere t.stage t at brick request e)
  where
    go : (b : Bool) → b ≡ false → (if b then t else fed t.stage told at t).register ≡ noted_ask t.register at brick.0 request told
    go true f = absurd (cc f)
    go false f = fed_notes t.stage t at brick request told e

under_notes : (found : Found) (w : Walk) (j : EntryJob) (t : TransactionProgress) (at : ℕ) (brick : BrickId) (request : Request) → next_under found at j w t ≡ next.Ask brick request → (a : Answer)
    → (progress_after found a at j w t).register ≡ noted_ask t.register at brick.0 request (told_by a)
under_notes (Unread b) w j t at brick request e a = go (is_beginning t.stage) e
  where
    go : (e : Bool) → (if e then next.Ask b (reads_name j w) else progress.next_at t.stage at t) ≡ next.Ask brick request
        → (if e then settled (ruled_out j a) (name_noted b j w (told_by a) at t) else fed t.stage (told_by a) at t).register ≡ noted_ask t.register at brick.0 request (told_by a)
    go true e = settled_register (ruled_out j a) (name_noted b j w (told_by a) at t) ∙ noted_as t.register at b brick (reads_name j w) request (told_by a) e
    go false e = fed_notes t.stage t at brick request (told_by a) e
under_notes Fits w j t at brick request e a = told_notes t at brick request (told_by a) e
under_notes (Refused why) w j t at brick request e a = go (progress.is_over t.stage t) e
  where
    go : (b : Bool) → (if b then next.End (reply_to why) else progress.next_at t.stage at t) ≡ next.Ask brick request → (told_to (told_by a) at t).register ≡ noted_ask t.register at brick.0 request (told_by a)
    go true e = absurd (cc e)
    go false e = told_notes t at brick request (told_by a) e

removes_register : (child : Option Gfid) (t : TransactionProgress) (found : Found) (w : Walk) → register_at (or_removes child t found) w ≡ t.register
removes_register None t found w = refl
removes_register (Some child) t found w = refl

notes_at : (stage : EntryStage) (w : Walk) (j : EntryJob) (at : ℕ) (brick : BrickId) (request : Request) → next_at at stage j w ≡ next.Ask brick request → (chosen : BrickId) (a : Answer)
    → register_at (stage_after chosen stage a at j (walk_after chosen stage a at w)) (walk_after chosen stage a at w) ≡ noted_ask (register_at stage w) at brick.0 request (told_by a)
notes_at Walking w j at brick request e chosen a =
    left_register (walked chosen a at w).step j (walked chosen a at w) ∙ walked_notes chosen w.step a (noted (next_in w) (told_by a) at w) ∙ noted_as w.register at (next_in w).0 brick (next_in w).1 request (told_by a) e
notes_at (Changing t found) w j at brick request e chosen a = removes_register (child_after found a j t.stage) (progress_after found a at j w t) (found_after chosen found a j t.stage) w ∙ under_notes found w j t at brick request e a
notes_at (Removes m) w j at brick request e chosen a = go (removal.is_beginning m.stage) (removal_asks m.stage m brick request e)
  where
    go : (b : Bool) → b ≡ false → (if b then m else removal.answered chosen m.stage a at m).register ≡ noted_ask m.register at brick.0 request (told_by a)
    go true f = absurd (cc f)
    go false f = answered_notes chosen m.stage m at brick request a e
notes_at (Ending said) w j at brick request e chosen a = absurd (cc e)

-- the register notes each request, and what was told
pub notes_each : NotesEach
notes_each m at brick request e chosen a = notes_at m.stage m.walk m.job at brick request e chosen a

pub begun_notes : (t : TransactionProgress) (at : ℕ) (change : Change) → progress.next_at t.stage at t ≡ next.Begin change → (if is_beginning t.stage then begun at t else t).register ≡ noted_begin t.register at
begun_notes t at change e = go (is_beginning t.stage) (begins_there t.stage t at change e)
  where
    go : (b : Bool) → b ≡ true → (if b then begun at t else t).register ≡ noted_begin t.register at
    go true f = refl
    go false f = absurd (cc f)

under_begins : (found : Found) (w : Walk) (j : EntryJob) (t : TransactionProgress) (at : ℕ) (change : Change) → next_under found at j w t ≡ next.Begin change → (progress_begun found at t).register ≡ noted_begin t.register at
under_begins (Unread b) w j t at change e = go (is_beginning t.stage) refl e
  where
    go : (x : Bool) → is_beginning t.stage ≡ x → (if x then next.Ask b (reads_name j w) else progress.next_at t.stage at t) ≡ next.Begin change → t.register ≡ noted_begin t.register at
    go true f e = absurd (cc e)
    go false f e = let g = begins_there t.stage t at change e in absurd (cc (f, g))
under_begins Fits w j t at change e = begun_notes t at change e
under_begins (Refused why) w j t at change e = go (progress.is_over t.stage t) e
  where
    go : (b : Bool) → (if b then next.End (reply_to why) else progress.next_at t.stage at t) ≡ next.Begin change → (if is_beginning t.stage then begun at t else t).register ≡ noted_begin t.register at
    go true e = absurd (cc e)
    go false e = begun_notes t at change e

begins_notes : (stage : EntryStage) (w : Walk) (j : EntryJob) (at : ℕ) (change : Change) → next_at at stage j w ≡ next.Begin change → register_at (stage_begun stage at) w ≡ noted_begin (register_at stage w) at
begins_notes Walking w j at change e = absurd (cc e)
begins_notes (Changing t found) w j at change e = under_begins found w j t at change e
begins_notes (Removes m) w j at change e = go (removal.is_beginning m.stage) (removal_begins m.stage m change e)
  where
    go : (b : Bool) → b ≡ true → (if b then removal.begun at m else m).register ≡ noted_begin m.register at
    go true f = refl
    go false f = absurd (cc f)
begins_notes (Ending said) w j at change e = absurd (cc e)

-- and the number of each attempt
pub notes_begin : NotesBegin
notes_begin m at change e chosen = begins_notes m.stage m.walk m.job at change e
