-- One of a rename's transactions stays sound, whatever is heard, its register notes each line, and the discipline allows what it asks.
use Rattle.std.proofs.Common.{◌≡◌, ℕ, ◌<◌, Bool, true, false, [], Option, Some, None, refl, sym, ap, subst, ◌∙◌, if◌then◌else◌}
use Rattle.afr_base.specs.declared.ids.BrickId.{BrickId}
use Rattle.afr_base.specs.declared.ids.Kind.TheVariants.{Names}
use Rattle.afr_object.specs.declared.change.Change.{Change}
use Rattle.afr_choice.specs.VerdictLemmas.{good_are_holders, holders_are_reached}
use Rattle.afr_lines.specs.Areas.{kind_for}
use Rattle.afr_lines.specs.declared.answer.Told.{Told}
use Rattle.afr_lines.specs.declared.line.Next.TheVariants as next
use Rattle.afr_lines.specs.declared.request.Request.{Request}
use Rattle.afr_discipline.specs.Notes.{noted_ask, noted_begin}
use Rattle.afr_client_walk.specs.Choosing.{IsAmong}
use Rattle.afr_discipline.specs.Free.{Allows}
use Rattle.afr_client_transaction.specs.Between.{is_read, noted_read}
use Rattle.afr_client_transaction.specs.Progress as progress
use Rattle.afr_client_transaction.specs.Progress.{TransactionProgress, begun, fed, is_beginning, told_to}
use Rattle.afr_client_transaction.specs.declared.stage.Stage.{Stage}
use Rattle.afr_client_transaction.specs.declared.stage.Stage.TheVariants.{Locking, Looking, Beginning, Preparing, Applying, Posting, Closing}
use Rattle.afr_client_transaction.proofs.Allowed.{allowed_moves}
use Rattle.afr_client_transaction.proofs.Kept.{kept_begin, stays_sound as transaction_stays}
use Rattle.afr_client_transaction.proofs.NoteLemmas.{begins_there, fed_change, fed_notes, noted_as}
use Rattle.afr_client_transaction.proofs.ReadLemmas.{begins_at, kept_given_up, kept_read, read_allowed, refusal_moves}
use Rattle.afr_client_transaction.specs.Again.Again.{IsPlain, PlainBegun, PlainKept, PlainRead}
use Rattle.afr_client_entry.specs.Entry.{HasReader, fits_stage, found_by, offered, progress_begun, settled}
use Rattle.afr_client_entry.specs.Job.{reply_to}
use Rattle.afr_client_entry.specs.declared.refusal.Refusal.{Refusal}
use Rattle.afr_client_entry.specs.declared.stage.Found.{Found}
use Rattle.afr_client_entry.specs.declared.stage.Found.TheVariants.{Unread, Fits, Refused}
use Rattle.afr_client_entry.proofs.AskedLemmas.{moves, not_ok}
use Rattle.afr_client_entry.proofs.EntryLemmas.{begun_notes, fed_fits, reader_chosen, settled_register, told_notes}
use Rattle.afr_client_entry.specs.Renames.Under.{IsUnder, choices_under, found_after, next_under, progress_after}

-- ---- what is heard
fed_kept : (c : Change) (t : TransactionProgress) (found : Found) (told : Told) (at : ℕ) → IsUnder c t found → HasReader (fed t.stage told at t) found → progress.is_over t.stage t ≡ false → is_beginning t.stage ≡ false → IsUnder c (fed t.stage told at t) found
fed_kept c t found told at k reads more e = record {
  sound = transaction_stays t k.sound more told at;
  of = fed_change t.stage told at t ∙ k.of;
  in_turn = fed_fits found t.stage told at t k.in_turn e;
  reads = reads;
}

-- once the name is read, nobody is asked for it
told_kept : (c : Change) (t : TransactionProgress) (found : Found) (told : Told) (at : ℕ) → ((x : TransactionProgress) → HasReader x found) → IsUnder c t found → progress.is_over t.stage t ≡ false → IsUnder c (told_to told at t) found
told_kept c t found told at free k more = go (is_beginning t.stage) refl
  where
    go : (e : Bool) → is_beginning t.stage ≡ e → IsUnder c (if e then t else fed t.stage told at t) found
    go true e = k
    go false e = fed_kept c t found told at k (free (fed t.stage told at t)) more e

-- the copy to ask may be another, as long as the looks aren't over
other_reader : (c : Change) (t : TransactionProgress) (b chosen : BrickId) → is_beginning t.stage ≡ false → IsUnder c t (Unread b) → IsUnder c t (Unread chosen)
other_reader c t b chosen e k = record { sound = k.sound; of = k.of; in_turn = same t.stage k.in_turn; reads = λ h. absurd (cc (e, h)) }
  where
    same : (stage : Stage) → fits_stage (Unread b) stage ≡ true → fits_stage (Unread chosen) stage ≡ true
    same Locking h = refl
    same Looking h = refl
    same Beginning h = refl
    same Closing h = refl
    same Preparing h = absurd (cc h)
    same Applying h = absurd (cc h)
    same Posting h = absurd (cc h)

-- the name was told
name_kept : (c : Change) (t : TransactionProgress) (told : Told) (at : ℕ) (why : Option Refusal) (asked : Request) (b : BrickId) → is_read asked ≡ true → IsUnder c t (Unread b) → is_beginning t.stage ≡ true
    → IsUnder c (settled why (noted_read b.0 asked told at t)) (found_by why)
name_kept c t told at None asked b reads k e = record {
  sound = kept_read t k.sound e b.0 asked reads told at;
  of = k.of;
  in_turn = subst (λ (stage : Stage). fits_stage Fits stage ≡ true) (sym (begins_at t.stage e)) refl;
  reads = tt;
}
name_kept c t told at (Some why) asked b reads k e = record {
  sound = kept_given_up (noted_read b.0 asked told at t) (kept_read t k.sound e b.0 asked reads told at) e;
  of = k.of;
  in_turn = refl;
  reads = tt;
}

-- whatever is told, and whichever good copy is read then
pub progress_kept : (chosen : BrickId) (found : Found) (why : Option Refusal) (asked : Request) (told : Told) (at : ℕ) (c : Change) (t : TransactionProgress) → kind_for c ≡ Names → is_read asked ≡ true → IsUnder c t found → progress.is_over t.stage t ≡ false
    → IsAmong (choices_under found told at t) chosen → IsUnder c (progress_after found why asked told at t) (found_after chosen found why t.stage)
progress_kept chosen (Unread b) why asked told at c t names reads k more among = go (is_beginning t.stage) refl among
  where
    go : (e : Bool) → is_beginning t.stage ≡ e → IsAmong (if e then [] else offered (fed t.stage told at t)) chosen
        → IsUnder c (if e then settled why (noted_read b.0 asked told at t) else fed t.stage told at t) (if e then found_by why else Unread chosen)
    go true e h = name_kept c t told at why asked b reads k e
    go false e h =
        fed_kept c t (Unread chosen) told at (other_reader c t b chosen e k)
        (reader_chosen (fed t.stage told at t) (ap kind_for (fed_change t.stage told at t ∙ k.of) ∙ names) (transaction_stays t k.sound more told at) chosen h) more e
progress_kept chosen Fits why asked told at c t names reads k more among = told_kept c t Fits told at (λ x. tt) k more
progress_kept chosen (Refused r) why asked told at c t names reads k more among = told_kept c t (Refused r) told at (λ x. tt) k more

-- and after a Begin line
pub begun_kept : (found : Found) (at : ℕ) (c : Change) (t : TransactionProgress) → IsUnder c t found → IsUnder c (progress_begun found at t) found
begun_kept (Unread b) at c t k = k
begun_kept Fits at c t k = go (is_beginning t.stage) refl
  where
    go : (e : Bool) → is_beginning t.stage ≡ e → IsUnder c (if e then begun at t else t) Fits
    go true e = record { sound = kept_begin t k.sound (begins_at t.stage e) at; of = k.of; in_turn = refl; reads = tt }
    go false e = k
begun_kept (Refused why) at c t k = go (is_beginning t.stage) refl
  where
    closed : (stage : Stage) → fits_stage (Refused why) stage ≡ true → is_beginning stage ≡ false
    closed Closing h = refl
    closed Locking h = absurd (cc h)
    closed Looking h = absurd (cc h)
    closed Beginning h = absurd (cc h)
    closed Preparing h = absurd (cc h)
    closed Applying h = absurd (cc h)
    closed Posting h = absurd (cc h)

    go : (e : Bool) → is_beginning t.stage ≡ e → IsUnder c (if e then begun at t else t) (Refused why)
    go true e = let f = closed t.stage k.in_turn in absurd (cc (e, f))
    go false e = k

-- ---- nothing is noted of a heal
not_beginning : (stage : Stage) → is_beginning stage ≡ false → stage ≡ Beginning → ⊥
not_beginning stage e is = cc (e, ap is_beginning is)

-- whatever is told
pub plain_after : PlainKept → PlainRead → (found : Found) (why : Option Refusal) (asked : Request) (told : Told) (at : ℕ) (c : Change) (t : TransactionProgress) → is_read asked ≡ true → IsUnder c t found → IsPlain t.register
    → IsPlain (progress_after found why asked told at t).register
plain_after kept read (Unread b) why asked told at c t reads k plain = go (is_beginning t.stage) refl
  where
    go : (e : Bool) → is_beginning t.stage ≡ e → IsPlain (if e then settled why (noted_read b.0 asked told at t) else fed t.stage told at t).register
    go true e = subst IsPlain (sym (settled_register why (noted_read b.0 asked told at t))) (read t.register at b.0 asked told reads plain)
    go false e = kept t k.sound plain (not_beginning t.stage e) told at
plain_after kept read Fits why asked told at c t reads k plain = go (is_beginning t.stage) refl
  where
    go : (e : Bool) → is_beginning t.stage ≡ e → IsPlain (if e then t else fed t.stage told at t).register
    go true e = plain
    go false e = kept t k.sound plain (not_beginning t.stage e) told at
plain_after kept read (Refused r) why asked told at c t reads k plain = go (is_beginning t.stage) refl
  where
    go : (e : Bool) → is_beginning t.stage ≡ e → IsPlain (if e then t else fed t.stage told at t).register
    go true e = plain
    go false e = kept t k.sound plain (not_beginning t.stage e) told at

-- and after a Begin line
pub plain_begun_after : PlainBegun → (found : Found) (at : ℕ) (t : TransactionProgress) → IsPlain t.register → IsPlain (progress_begun found at t).register
plain_begun_after begins (Unread b) at t plain = plain
plain_begun_after begins Fits at t plain = go (is_beginning t.stage)
  where
    go : (e : Bool) → IsPlain (if e then begun at t else t).register
    go true = begins t plain at
    go false = plain
plain_begun_after begins (Refused why) at t plain = go (is_beginning t.stage)
  where
    go : (e : Bool) → IsPlain (if e then begun at t else t).register
    go true = begins t plain at
    go false = plain

-- ---- the register
pub under_notes : (found : Found) (why : Option Refusal) (asked : Request) (t : TransactionProgress) (at : ℕ) (brick : BrickId) (request : Request) → next_under found at asked t ≡ next.Ask brick request → (told : Told)
    → (progress_after found why asked told at t).register ≡ noted_ask t.register at brick.0 request told
under_notes (Unread b) why asked t at brick request e told = go (is_beginning t.stage) e
  where
    go : (e : Bool) → (if e then next.Ask b asked else progress.next_at t.stage at t) ≡ next.Ask brick request
        → (if e then settled why (noted_read b.0 asked told at t) else fed t.stage told at t).register ≡ noted_ask t.register at brick.0 request told
    go true e = settled_register why (noted_read b.0 asked told at t) ∙ noted_as t.register at b brick asked request told e
    go false e = fed_notes t.stage t at brick request told e
under_notes Fits why asked t at brick request e told = told_notes t at brick request told e
under_notes (Refused r) why asked t at brick request e told = go (progress.is_over t.stage t) e
  where
    go : (b : Bool) → (if b then next.End (reply_to r) else progress.next_at t.stage at t) ≡ next.Ask brick request → (told_to told at t).register ≡ noted_ask t.register at brick.0 request told
    go true e = absurd (cc e)
    go false e = told_notes t at brick request told e

pub under_begins : (found : Found) (asked : Request) (t : TransactionProgress) (at : ℕ) (change : Change) → next_under found at asked t ≡ next.Begin change → (progress_begun found at t).register ≡ noted_begin t.register at
under_begins (Unread b) asked t at change e = go (is_beginning t.stage) refl e
  where
    go : (x : Bool) → is_beginning t.stage ≡ x → (if x then next.Ask b asked else progress.next_at t.stage at t) ≡ next.Begin change → t.register ≡ noted_begin t.register at
    go true f e = absurd (cc e)
    go false f e = let g = begins_there t.stage t at change e in absurd (cc (f, g))
under_begins Fits asked t at change e = begun_notes t at change e
under_begins (Refused r) asked t at change e = go (progress.is_over t.stage t) e
  where
    go : (b : Bool) → (if b then next.End (reply_to r) else progress.next_at t.stage at t) ≡ next.Begin change → (if is_beginning t.stage then begun at t else t).register ≡ noted_begin t.register at
    go true e = absurd (cc e)
    go false e = begun_notes t at change e

-- ---- what it asks
reader_inside : (c : Change) (t : TransactionProgress) (b : BrickId) → IsUnder c t (Unread b) → is_beginning t.stage ≡ true → b.0 < t.register.shape.n
reader_inside c t b k e = k.sound.base.shown.reached b.0 (holders_are_reached t.register.looked b.0 (good_are_holders t.register.shape t.register.looked Names b.0 (k.reads e)))

-- the discipline allows the next line
pub allowed_under : (found : Found) (asked : Request) (c : Change) (t : TransactionProgress) → is_read asked ≡ true → IsUnder c t found → (at : ℕ) → Allows t.register (next_under found at asked t)
allowed_under (Unread b) asked c t reads k at = go (is_beginning t.stage) refl
  where
    go : (e : Bool) → is_beginning t.stage ≡ e → Allows t.register (if e then next.Ask b asked else progress.next_at t.stage at t)
    go true e = λ of is. read_allowed t k.sound b asked (reader_inside c t b k e) reads of (moves (next.Ask b asked) of is)
    go false e = λ of is. allowed_moves t k.sound at of (moves (progress.next_at t.stage at t) of is)
allowed_under Fits asked c t reads k at = λ of is. allowed_moves t k.sound at of (moves (progress.next_at t.stage at t) of is)
allowed_under (Refused why) asked c t reads k at = go (progress.is_over t.stage t) refl
  where
    go : (e : Bool) → progress.is_over t.stage t ≡ e → Allows t.register (if e then next.End (reply_to why) else progress.next_at t.stage at t)
    go true e = λ of is. refusal_moves t k.sound e (reply_to why) (not_ok why) of (moves (next.End (reply_to why)) of is)
    go false e = λ of is. allowed_moves t k.sound at of (moves (progress.next_at t.stage at t) of is)
