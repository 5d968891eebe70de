-- Under the locks of a name: what the lines of a rename's transaction show after one more.
use Rattle.std.proofs.Common.{◌≡◌, ℕ, Bool, true, false, List, ◌∷◌, Option, Some, None, length, refl, sym, ap, subst, if◌then◌else◌}
use Rattle.afr_base.specs.declared.ids.ActorId.{ActorId}
use Rattle.afr_base.specs.declared.ids.BrickId.{BrickId}
use Rattle.afr_discipline.specs.Tests.{fits_view}
use Rattle.afr_lines.specs.Work.{Work}
use Rattle.afr_lines.specs.declared.answer.Told.{Told}
use Rattle.afr_lines.specs.declared.answer.Told.TheVariants as as_told
use Rattle.afr_lines.specs.declared.line.Line.{Line}
use Rattle.afr_lines.specs.declared.line.Line.TheVariants.{Ask, Begin}
use Rattle.afr_lines.specs.declared.line.Next.{Next}
use Rattle.afr_lines.specs.declared.line.Next.TheVariants as next
use Rattle.afr_lines.specs.declared.request.Request.{Request}
use Rattle.afr_object.specs.declared.change.Change.{Change}
use Rattle.afr_object.specs.declared.entry.Entry.{Entry}
use Rattle.afr_object.specs.declared.entry.View.{View}
use Rattle.afr_plan.specs.declared.plan.Plan.{Plan}
use Rattle.afr_model.specs.Parts.{unlocks_any}
use Rattle.afr_model.specs.Showing.{has}
use Rattle.afr_model.specs.Standing.{asks_name}
use Rattle.afr_client_transaction.specs.Between.{noted_read}
use Rattle.afr_client_transaction.specs.Progress.{TransactionProgress, fed, is_beginning, is_over, next_at as next_change, request_at}
use Rattle.afr_client_transaction.specs.Sound.{Sound}
use Rattle.afr_client_transaction.specs.declared.stage.Stage.{Stage}
use Rattle.afr_client_transaction.specs.declared.stage.Stage.TheVariants.{Locking, Looking, Beginning, Preparing, Applying, Posting, Closing}
use Rattle.afr_client_entry.specs.Entry.{fits_stage, found_by, progress_begun, settled}
use Rattle.afr_client_entry.specs.Job.{reply_to}
use Rattle.afr_client_entry.specs.declared.refusal.Refusal.{Refusal}
use Rattle.afr_client_entry.specs.declared.stage.Found.{Found}
use Rattle.afr_client_entry.specs.declared.stage.Found.TheVariants.{Unread, Fits, Refused}
use Rattle.afr_law_client.specs.Read.ChangeLaws.{is_of_change}
use Rattle.afr_law_client.specs.GivenUp.{GaveUp}
use Rattle.afr_law_client.specs.Laws.{IsNextLine}
use Rattle.afr_law_client.proofs.GivenUpLemmas.{given_up_kept, gives_up}
use Rattle.afr_law_client.specs.Write.WriteTelling.{CanTell}
use Rattle.afr_law_client.proofs.Write.Goes.{asked_stage, begun_fed, begun_stage, of_stage}
use Rattle.afr_law_client.specs.Entry.EntryTelling.{HoldsAt, OnChange, TransactionGoes}
use Rattle.afr_law_client.proofs.Entry.Held.{holds_more}
use Rattle.afr_law_client.proofs.Entry.Under.{asked_more, begun_more}
use Rattle.afr_client_entry.specs.Renames.Under.{found_after, next_under, progress_after}
use Rattle.afr_law_client.specs.Second.Held.{Holds}
use Rattle.afr_law_client.proofs.Second.HeldLemmas.{held_kept, held_unlocked}

-- ---- a request by its stage
pub unnamed : (stage : Stage) (t : TransactionProgress) (a : ActorId) (b : BrickId) (told : Told) (took : Bool) → asks_name (Ask a b (request_at stage t) told took) ≡ false
unnamed Locking t a b told took = refl
unnamed Looking t a b told took = refl
unnamed Beginning t a b told took = refl
unnamed Preparing t a b told took = refl
unnamed Applying t a b told took = refl
unnamed Posting t a b told took = refl
unnamed Closing t a b told took = refl

-- nothing was given back while the locks are asked
pub kept_locking : (found : Found) (p : Plan) (t : TransactionProgress) (w : Work) → fits_stage found t.stage ≡ true → OnChange found p t w → t.stage ≡ Locking → has unlocks_any w ≡ false
kept_locking (Unread copy) p t w turn k e = (subst (λ (stage : Stage). HoldsAt stage t.change t.register w) e k.1).kept
kept_locking Fits p t w turn k e = absurd (cc (subst (λ (stage : Stage). fits_stage Fits stage ≡ true) e turn))
kept_locking (Refused why) p t w turn k e = let closing = k.closing in absurd (cc (closing, e))

-- ---- whom it asks
-- the line is the transaction's own, where the name isn't asked
pub asks_own : (found : Found) (at : ℕ) (asked : Request) (t : TransactionProgress) (b : BrickId) (request : Request) → ((copy : BrickId) → found ≡ Unread copy → is_beginning t.stage ≡ false) → next_under found at asked t ≡ next.Ask b request
    → next_change t.stage at t ≡ next.Ask b request
asks_own (Unread copy) at asked t b request early e = go (is_beginning t.stage) (early copy refl) e
  where
    go : (x : Bool) → x ≡ false → (if x then next.Ask copy asked else next_change t.stage at t) ≡ next.Ask b request → next_change t.stage at t ≡ next.Ask b request
    go true f e = absurd (cc f)
    go false f e = e
asks_own Fits at asked t b request early e = e
asks_own (Refused why) at asked t b request early e = go (is_over t.stage t) e
  where
    go : (x : Bool) → (if x then next.End (reply_to why) else next_change t.stage at t) ≡ next.Ask b request → next_change t.stage at t ≡ next.Ask b request
    go true e = absurd (cc e)
    go false e = e

-- an attempt is begun where the name fits
pub begins_own : (found : Found) (p : Plan) (at : ℕ) (asked : Request) (t : TransactionProgress) (w : Work) (change : Change) → OnChange found p t w → next_under found at asked t ≡ next.Begin change → (found ≡ Fits) × (next_change t.stage at t ≡ next.Begin change)
begins_own (Unread copy) p at asked t w change k e = absurd (go (is_beginning t.stage) refl e)
  where
    go : (x : Bool) → is_beginning t.stage ≡ x → (if x then next.Ask copy asked else next_change t.stage at t) ≡ next.Begin change → ⊥
    go true f e = cc e
    go false f e = let g = ap is_beginning (begun_stage t.stage at t change e) in cc (f, g)
begins_own Fits p at asked t w change k e = (refl, e)
begins_own (Refused why) p at asked t w change k e = absurd (go (is_over t.stage t) e)
  where
    go : (x : Bool) → (if x then next.End (reply_to why) else next_change t.stage at t) ≡ next.Begin change → ⊥
    go true e = cc e
    go false e = let g = begun_stage t.stage at t change e in let h = k.closing in cc (g, h)

-- ---- one line more
module _ (p : Plan) (w : Work) (a : ActorId) (log : List Line) (t : TransactionProgress) (sound : Sound t) where
  -- after a request of the transaction
  module _ (dir : Entry) (suits : (view : View) → view.what ≡ dir.what → fits_view (Some view) t.change ≡ true) (b : BrickId) (request : Request) (told : Told) (took : Bool) (e : next_change t.stage (length log) t ≡ next.Ask b request) where
    abbrev line : Line
    line = Ask a b request told took

    is_next : IsNextLine a (next_change t.stage (length log) t) told line
    is_next = subst (λ (n : Next). IsNextLine a n told line) (sym e) (took, refl)

    not_begun : is_beginning t.stage ≡ false
    not_begun = (asked_stage t.stage (length log) t b request e).0

    pub of_change : is_of_change line ≡ true
    of_change = subst (λ (r : Request). is_of_change (Ask a b r told took) ≡ true) (asked_stage t.stage (length log) t b request e).1 (of_stage t.stage t a b told took)

    told_is : (x : Bool) → x ≡ false → (if x then t else fed t.stage told (length log) t) ≡ fed t.stage told (length log) t
    told_is true f = absurd (cc f)
    told_is false f = refl

    pub asked_on : (found : Found) (chosen : BrickId) (why : Option Refusal) (asked : Request) → fits_stage found t.stage ≡ true → OnChange found p t w → CanTell dir request told
        → OnChange (found_after chosen found why t.stage) p (progress_after found why asked told (length log) t) ((line, log) ∷ w)
    asked_on (Unread copy) chosen why asked turn k can = go (is_beginning t.stage) not_begun
      where
        go : (x : Bool) → x ≡ false → OnChange (if x then found_by why else Unread chosen) p (if x then settled why (noted_read copy.0 asked told (length log) t) else fed t.stage told (length log) t) ((line, log) ∷ w)
        go true f = absurd (cc f)
        go false f = ((asked_more p w a log t sound k.0 dir b request told took suits e can).0, holds_more w a log t sound told took copy t.stage b request turn k.1 e)
    asked_on Fits chosen why asked turn k can = subst (λ (x : TransactionProgress). TransactionGoes p x ((line, log) ∷ w)) (sym (told_is (is_beginning t.stage) not_begun)) (asked_more p w a log t sound k dir b request told took suits e can).0
    asked_on (Refused r) chosen why asked turn k can = subst (λ (x : TransactionProgress). GaveUp p ((line, log) ∷ w) x) (sym (told_is (is_beginning t.stage) not_begun)) (given_up_kept p w t a told line log sound k is_next)

    -- what it holds until its locks are released
    pub held_on : (found : Found) (why : Option Refusal) (asked : Request) → OnChange found p t w → Holds t w → Holds (progress_after found why asked told (length log) t) ((line, log) ∷ w)
    held_on (Unread copy) why asked k h = go (is_beginning t.stage) not_begun
      where
        go : (x : Bool) → x ≡ false → Holds (if x then settled why (noted_read copy.0 asked told (length log) t) else fed t.stage told (length log) t) ((line, log) ∷ w)
        go true f = absurd (cc f)
        go false f = held_kept p w t a told line log sound k.0.tells h is_next
    held_on Fits why asked k h = subst (λ (x : TransactionProgress). Holds x ((line, log) ∷ w)) (sym (told_is (is_beginning t.stage) not_begun)) (held_kept p w t a told line log sound k.tells h is_next)
    held_on (Refused r) why asked k h = subst (λ (x : TransactionProgress). Holds x ((line, log) ∷ w)) (sym (told_is (is_beginning t.stage) not_begun)) (held_unlocked w t a told line log k.closing is_next)

  -- once the name was told, the transaction goes on or is given up
  pub settled_on : (why : Option Refusal) → t.stage ≡ Beginning → TransactionGoes p t w → OnChange (found_by why) p (settled why t) w
  settled_on None e k = k
  settled_on (Some why) e k = (gives_up p w t e sound k.tells).1

  -- after the Begin line
  pub begun_on : (change : Change) → next_change t.stage (length log) t ≡ next.Begin change → TransactionGoes p t w → TransactionGoes p (progress_begun Fits (length log) t) ((Begin a change, log) ∷ w)
  begun_on change e k = begun_more p w a log t sound k change e

  pub begun_held : (change : Change) → next_change t.stage (length log) t ≡ next.Begin change → TransactionGoes p t w → Holds t w → Holds (progress_begun Fits (length log) t) ((Begin a change, log) ∷ w)
  begun_held change e k h =
      subst (λ (x : TransactionProgress). Holds x ((Begin a change, log) ∷ w)) (sym (begun_fed t.stage (length log) t (begun_stage t.stage (length log) t change e)))
      (held_kept p w t a as_told.Done (Begin a change) log sound k.tells h (subst (λ (n : Next). IsNextLine a n as_told.Done (Begin a change)) (sym e) refl))
