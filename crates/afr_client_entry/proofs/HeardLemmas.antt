-- What a command on a name hears is an answer to what its next line has asked.
use Rattle.std.proofs.Common.{◌≡◌, ◌⊎◌, ℕ, ◌<◌, Bool, true, false, [], inl, inr, refl, ap, subst, sym, ◌∙◌, if◌then◌else◌}
use Rattle.afr_base.specs.declared.ids.BrickId.{BrickId}
use Rattle.afr_base.specs.declared.ids.Kind.TheVariants.{Names}
use Rattle.afr_lines.specs.Told.{told_by}
use Rattle.afr_lines.specs.declared.answer.Answer.{Answer}
use Rattle.afr_lines.specs.declared.answer.Told.{Told}
use Rattle.afr_lines.specs.declared.line.Next.TheVariants as next
use Rattle.afr_lines.specs.declared.request.Request.{Request}
use Rattle.afr_lines.specs.Areas.{kind_for}
use Rattle.afr_client_walk.specs.declared.walk.Walk.{Walk}
use Rattle.afr_client_transaction.specs.Between.{is_read, noted_read}
use Rattle.afr_client_transaction.specs.Progress as progress
use Rattle.afr_client_transaction.specs.Progress.{TransactionProgress, answered, fed, is_beginning, told_to}
use Rattle.afr_client_transaction.specs.declared.stage.Stage.{Stage}
use Rattle.afr_client_transaction.specs.declared.stage.Stage.TheVariants.{Locking, Looking, Beginning, Preparing, Applying, Posting, Closing}
use Rattle.afr_client_transaction.proofs.NoteLemmas.{fed_change}
use Rattle.afr_client_entry.specs.Removals.Removal as removal
use Rattle.afr_client_entry.specs.Removals.Removal.{Removing}
use Rattle.afr_client_entry.specs.Entry.{IsChanging, choices_removing, choices_under, found_after, found_by, name_noted, next_under, offered, progress_after, reads_name, removal_after, settled}
use Rattle.afr_client_entry.specs.Job.{reply_to, ruled_out}
use Rattle.afr_client_entry.specs.declared.job.EntryJob.{EntryJob}
use Rattle.afr_client_entry.specs.declared.refusal.Refusal.{Refusal}
use Rattle.afr_client_entry.specs.declared.stage.Found.{Found}
use Rattle.afr_client_entry.specs.declared.stage.Found.TheVariants.{Unread, Fits, Refused}
use Rattle.afr_client_entry.proofs.AskedLemmas.{kind_is, reader_small}

-- where a transaction asks, its answer is what it is fed
pub fed_is : (stage : Stage) (t : TransactionProgress) (at : ℕ) (b : BrickId) (q : Request) (told : Told) → progress.next_at stage at t ≡ next.Ask b q → answered stage told at t ≡ fed stage told at t
fed_is Beginning t at b q told e = absurd (cc e)
fed_is Locking t at b q told e = refl
fed_is Looking t at b q told e = refl
fed_is Preparing t at b q told e = refl
fed_is Applying t at b q told e = refl
fed_is Posting t at b q told e = refl
fed_is Closing t at b q told e = refl

-- whether the name is still to be read
abbrev pub is_unread : Found → Bool
is_unread (Unread reader) = true
is_unread found = false

-- what was found, where the name was read
pub name_read : (found : Found) → (found ≡ Fits) ⊎ ((why : Refusal) × (found ≡ Refused why)) → is_unread found ≡ false
name_read found (inl e) = ap is_unread e
name_read found (inr e) = ap is_unread e.1

-- a transaction that has asked is told
told_fed : (t x : TransactionProgress) (at : ℕ) (a : Answer) (told : Told) → is_beginning t.stage ≡ false → told ≡ told_by a → x ≡ fed t.stage told at t → x ≡ told_to (told_by a) at t
told_fed t x at a told f et ex = go (is_beginning t.stage) f
  where
    go : (s : Bool) → s ≡ false → x ≡ (if s then t else fed t.stage (told_by a) at t)
    go true f = absurd (cc f)
    go false f = ex ∙ ap (λ (heard : Told). fed t.stage heard at t) et

-- while the name isn't asked for, the transaction asks
pub unread_asks : (w : Walk) (j : EntryJob) (t : TransactionProgress) (reader b : BrickId) (q : Request) (at : ℕ) → is_beginning t.stage ≡ false → next_under (Unread reader) at j w t ≡ next.Ask b q → progress.next_at t.stage at t ≡ next.Ask b q
unread_asks w j t reader b q at f e = go (is_beginning t.stage) f e
  where
    go : (x : Bool) → x ≡ false → (if x then next.Ask reader (reads_name j w) else progress.next_at t.stage at t) ≡ next.Ask b q → progress.next_at t.stage at t ≡ next.Ask b q
    go true f e = absurd (cc f)
    go false f e = e

pub refused_asks : (w : Walk) (j : EntryJob) (t : TransactionProgress) (why : Refusal) (b : BrickId) (q : Request) (at : ℕ) → next_under (Refused why) at j w t ≡ next.Ask b q → progress.next_at t.stage at t ≡ next.Ask b q
refused_asks w j t why b q at e = go (progress.is_over t.stage t) e
  where
    go : (x : Bool) → (if x then next.End (reply_to why) else progress.next_at t.stage at t) ≡ next.Ask b q → progress.next_at t.stage at t ≡ next.Ask b q
    go true e = absurd (cc e)
    go false e = e

-- where the name is asked for, it is asked for at the copy that was chosen
pub name_brick : (w : Walk) (j : EntryJob) (t : TransactionProgress) (reader b : BrickId) (q : Request) (at : ℕ) → is_beginning t.stage ≡ true → next_under (Unread reader) at j w t ≡ next.Ask b q → reader ≡ b
name_brick w j t reader b q at f e = go (is_beginning t.stage) f e
  where
    go : (x : Bool) → x ≡ true → (if x then next.Ask reader (reads_name j w) else progress.next_at t.stage at t) ≡ next.Ask b q → reader ≡ b
    go true f e = cc e
    go false f e = absurd (cc f)

pub name_request : (w : Walk) (j : EntryJob) (t : TransactionProgress) (reader b : BrickId) (q : Request) (at : ℕ) → is_beginning t.stage ≡ true → next_under (Unread reader) at j w t ≡ next.Ask b q → reads_name j w ≡ q
name_request w j t reader b q at f e = go (is_beginning t.stage) f e
  where
    go : (x : Bool) → x ≡ true → (if x then next.Ask reader (reads_name j w) else progress.next_at t.stage at t) ≡ next.Ask b q → reads_name j w ≡ q
    go true f e = cc e
    go false f e = absurd (cc f)

pub name_small : (w : Walk) (j : EntryJob) (t : TransactionProgress) (reader b : BrickId) (q : Request) (at : ℕ) → IsChanging w j t (Unread reader) → is_beginning t.stage ≡ true → next_under (Unread reader) at j w t ≡ next.Ask b q → b.0 < 5
name_small w j t reader b q at k f e = subst (λ (x : BrickId). x.0 < 5) (name_brick w j t reader b q at f e) (reader_small w j t reader k f)

pub name_reads : (w : Walk) (j : EntryJob) (t : TransactionProgress) (reader b : BrickId) (q : Request) (at : ℕ) → is_beginning t.stage ≡ true → next_under (Unread reader) at j w t ≡ next.Ask b q → is_read q ≡ true
name_reads w j t reader b q at f e = subst (λ (x : Request). is_read x ≡ true) (name_request w j t reader b q at f e) refl

-- what the code makes of the name is what the answer makes
pub name_heard : (w : Walk) (j : EntryJob) (t x y : TransactionProgress) (reader b : BrickId) (q : Request) (at : ℕ) (a : Answer) (told : Told) → is_beginning t.stage ≡ true → next_under (Unread reader) at j w t ≡ next.Ask b q
    → told ≡ told_by a → x ≡ noted_read b.0 q told at t → y ≡ settled (ruled_out j a) x → y ≡ progress_after (Unread reader) a at j w t
name_heard w j t x y reader b q at a told f e et ex ey = go (is_beginning t.stage) f
  where
    same : x ≡ name_noted reader j w (told_by a) at t
    same =
        ex ∙ ap (λ (c : BrickId). noted_read c.0 q told at t) (sym (name_brick w j t reader b q at f e)) ∙ ap (λ (r : Request). noted_read reader.0 r told at t) (sym (name_request w j t reader b q at f e))
        ∙ ap (λ (heard : Told). noted_read reader.0 (reads_name j w) heard at t) et

    go : (s : Bool) → s ≡ true → y ≡ (if s then settled (ruled_out j a) (name_noted reader j w (told_by a) at t) else fed t.stage (told_by a) at t)
    go true f = ey ∙ ap (λ (p : TransactionProgress). settled (ruled_out j a) p) same
    go false f = absurd (cc f)

-- while the name isn't asked for, the transaction has its answer
pub progress_fed : (w : Walk) (j : EntryJob) (t x : TransactionProgress) (reader : BrickId) (at : ℕ) (a : Answer) (told : Told) → is_beginning t.stage ≡ false → told ≡ told_by a → x ≡ fed t.stage told at t → x ≡ progress_after (Unread reader) a at j w t
progress_fed w j t x reader at a told f et ex = go (is_beginning t.stage) f
  where
    go : (s : Bool) → s ≡ false → x ≡ (if s then settled (ruled_out j a) (name_noted reader j w (told_by a) at t) else fed t.stage (told_by a) at t)
    go true f = absurd (cc f)
    go false f = ex ∙ ap (λ (heard : Told). fed t.stage heard at t) et

-- the rule is asked for what the answer has left
pub offered_fed : (t x : TransactionProgress) (reader : BrickId) (at : ℕ) (a : Answer) (told : Told) → is_beginning t.stage ≡ false → told ≡ told_by a → x ≡ fed t.stage told at t → offered x ≡ choices_under (Unread reader) a at t
offered_fed t x reader at a told f et ex = go (is_beginning t.stage) f
  where
    go : (s : Bool) → s ≡ false → offered x ≡ (if s then [] else offered (fed t.stage (told_by a) at t))
    go true f = absurd (cc f)
    go false f = ap offered (ex ∙ ap (λ (heard : Told). fed t.stage heard at t) et)

-- what the name says leaves nothing to choose from
pub nothing_offered : (t : TransactionProgress) (reader : BrickId) (at : ℕ) (a : Answer) → is_beginning t.stage ≡ true → [] ≡ choices_under (Unread reader) a at t
nothing_offered t reader at a f = go (is_beginning t.stage) f
  where
    go : (s : Bool) → s ≡ true → [] ≡ (if s then [] else offered (fed t.stage (told_by a) at t))
    go true f = refl
    go false f = absurd (cc f)

pub found_unread : (chosen x reader : BrickId) (a : Answer) (j : EntryJob) (stage : Stage) → is_beginning stage ≡ false → x ≡ chosen → Unread x ≡ found_after chosen (Unread reader) a j stage
found_unread chosen x reader a j stage f ex = go (is_beginning stage) f
  where
    go : (s : Bool) → s ≡ false → Unread x ≡ (if s then found_by (ruled_out j a) else Unread chosen)
    go true f = absurd (cc f)
    go false f = ap Unread ex

pub found_named : (chosen reader : BrickId) (found : Found) (a : Answer) (j : EntryJob) (stage : Stage) → is_beginning stage ≡ true → found ≡ found_by (ruled_out j a) → found ≡ found_after chosen (Unread reader) a j stage
found_named chosen reader found a j stage f e = go (is_beginning stage) f
  where
    go : (s : Bool) → s ≡ true → found ≡ (if s then found_by (ruled_out j a) else Unread chosen)
    go true f = e
    go false f = absurd (cc f)

-- the change stays that of a name
pub names_fed : (w : Walk) (j : EntryJob) (t x : TransactionProgress) (found : Found) (at : ℕ) (told : Told) → IsChanging w j t found → x ≡ fed t.stage told at t → kind_for x.change ≡ Names
names_fed w j t x found at told k ex = ap (λ (p : TransactionProgress). kind_for p.change) ex ∙ ap kind_for (fed_change t.stage told at t) ∙ kind_is w j t found k

-- once the name is read, the transaction asks
pub found_asks : (w : Walk) (j : EntryJob) (t : TransactionProgress) (found : Found) (b : BrickId) (q : Request) (at : ℕ) → is_unread found ≡ false → next_under found at j w t ≡ next.Ask b q → progress.next_at t.stage at t ≡ next.Ask b q
found_asks w j t (Unread reader) b q at u e = absurd (cc u)
found_asks w j t Fits b q at u e = e
found_asks w j t (Refused why) b q at u e = refused_asks w j t why b q at e

pub found_told : (w : Walk) (j : EntryJob) (t x : TransactionProgress) (found : Found) (at : ℕ) (a : Answer) (told : Told) → is_unread found ≡ false → is_beginning t.stage ≡ false → told ≡ told_by a → x ≡ fed t.stage told at t → x ≡ progress_after found a at j w t
found_told w j t x (Unread reader) at a told u f et ex = absurd (cc u)
found_told w j t x Fits at a told u f et ex = told_fed t x at a told f et ex
found_told w j t x (Refused why) at a told u f et ex = told_fed t x at a told f et ex

pub found_same : (chosen : BrickId) (found : Found) (a : Answer) (j : EntryJob) (stage : Stage) → is_unread found ≡ false → found ≡ found_after chosen found a j stage
found_same chosen (Unread reader) a j stage u = absurd (cc u)
found_same chosen Fits a j stage u = refl
found_same chosen (Refused why) a j stage u = refl

pub found_offers : (found : Found) (t : TransactionProgress) (at : ℕ) (a : Answer) → is_unread found ≡ false → [] ≡ choices_under found a at t
found_offers (Unread reader) t at a u = absurd (cc u)
found_offers Fits t at a u = refl
found_offers (Refused why) t at a u = refl

-- ---- a removal that has asked
pub removing_offers : (m : Removing) (a : Answer) (at : ℕ) → removal.is_beginning m.stage ≡ false → removal.choices_at m.stage a at m ≡ choices_removing a at m
removing_offers m a at f = go (removal.is_beginning m.stage) f
  where
    go : (s : Bool) → s ≡ false → removal.choices_at m.stage a at m ≡ (if s then [] else removal.choices_at m.stage a at m)
    go true f = absurd (cc f)
    go false f = refl

pub removing_told : (chosen : BrickId) (m : Removing) (a : Answer) (at : ℕ) → removal.is_beginning m.stage ≡ false → removal.answered chosen m.stage a at m ≡ removal_after chosen a at m
removing_told chosen m a at f = go (removal.is_beginning m.stage) f
  where
    go : (s : Bool) → s ≡ false → removal.answered chosen m.stage a at m ≡ (if s then m else removal.answered chosen m.stage a at m)
    go true f = absurd (cc f)
    go false f = refl
