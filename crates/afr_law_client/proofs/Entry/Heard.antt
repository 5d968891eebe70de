-- While a name is locked, read and changed: what the lines show after one more.
use Rattle.std.proofs.Common.{◌≡◌, ℕ, Bool, true, false, List, ◌∷◌, Option, Some, None, length, refl, sym, ◌∙◌, subst, if◌then◌else◌}
use Rattle.afr_base.specs.declared.ids.ActorId.{ActorId}
use Rattle.afr_base.specs.declared.ids.BrickId.{BrickId}
use Rattle.afr_base.specs.declared.ids.Gfid.{Gfid}
use Rattle.afr_discipline.specs.Tests.{fits_view}
use Rattle.afr_discipline.specs.declared.register.Register.{Register}
use Rattle.afr_lines.specs.Told.{told_by}
use Rattle.afr_lines.specs.Work.{Work}
use Rattle.afr_lines.specs.declared.answer.Answer.{Answer}
use Rattle.afr_lines.specs.declared.answer.Told.{Told}
use Rattle.afr_lines.specs.declared.line.Line.{Line}
use Rattle.afr_lines.specs.declared.line.Line.TheVariants.{Ask}
use Rattle.afr_lines.specs.declared.line.Next.{Next}
use Rattle.afr_lines.specs.declared.line.Next.TheVariants as next
use Rattle.afr_lines.specs.declared.request.Request.{Request}
use Rattle.afr_object.specs.declared.change.Change.{Change}
use Rattle.afr_object.specs.declared.entry.Entry.{Entry}
use Rattle.afr_object.specs.declared.entry.View.{View}
use Rattle.afr_plan.specs.declared.command.Command.{Command}
use Rattle.afr_plan.specs.declared.plan.Plan.{Plan}
use Rattle.afr_client_transaction.specs.Progress.{TransactionProgress, fed, is_beginning, is_over, next_at as next_change, told_to}
use Rattle.afr_client_transaction.specs.declared.stage.Stage.{Stage}
use Rattle.afr_client_transaction.specs.declared.stage.Stage.TheVariants.{Locking, Looking, Beginning, Preparing, Applying, Posting, Closing}
use Rattle.afr_client_walk.specs.declared.walk.Walk.{Walk}
use Rattle.afr_client_entry.specs.Entry.{IsChanging, child_after, found_after, found_by, name_noted, next_under, or_removes, progress_after, reads_name, settled}
use Rattle.afr_client_entry.specs.Job.{change_of, child_by, name_of, reply_to, ruled_out}
use Rattle.afr_client_entry.specs.declared.job.EntryJob.{EntryJob}
use Rattle.afr_client_entry.specs.declared.refusal.Refusal.{Refusal}
use Rattle.afr_client_entry.specs.declared.stage.Found.{Found}
use Rattle.afr_client_entry.specs.declared.stage.Found.TheVariants.{Unread, Fits, Refused}
use Rattle.afr_law_client.specs.Read.ChangeLaws.{is_of_change}
use Rattle.afr_law_client.proofs.Read.ReadsMore.{asks_same}
use Rattle.afr_law_client.specs.GivenUp.{GaveUp}
use Rattle.afr_law_client.specs.Laws.{IsNextLine}
use Rattle.afr_law_client.proofs.GivenUpLemmas.{given_up_kept}
use Rattle.afr_law_client.specs.Write.WriteTelling.{CanTell}
use Rattle.afr_law_client.proofs.Write.Goes.{asked_stage, of_stage}
use Rattle.afr_law_client.specs.Entry.EntryTelling.{CanHearUnder, CanName, ChangesName, HoldsAt, HoldsName, TellsIn, TransactionGoes, command_of}
use Rattle.afr_law_client.proofs.Entry.Changing.{read_more}
use Rattle.afr_law_client.proofs.Entry.Held.{holds_more}
use Rattle.afr_law_client.proofs.Entry.Names.{name_told, quiet}
use Rattle.afr_law_client.proofs.Entry.Removing.{read_removes}
use Rattle.afr_law_client.proofs.Entry.Under.{asked_more, name_more, place_more}
use Rattle.afr_law_client.proofs.Entry.Words.{suits_view}

-- ---- what is heard
pub hears_name : (copy : BrickId) (stage : Stage) (p : Plan) (dir : Entry) (b : ℕ) (request : Request) (log : List Line) (heard : Answer) → is_beginning stage ≡ true → CanHearUnder (Unread copy) stage p dir b request log heard → CanName p dir b request log heard
hears_name copy Beginning p dir b request log heard e can = can
hears_name copy Locking p dir b request log heard e can = absurd (cc e)
hears_name copy Looking p dir b request log heard e can = absurd (cc e)
hears_name copy Preparing p dir b request log heard e can = absurd (cc e)
hears_name copy Applying p dir b request log heard e can = absurd (cc e)
hears_name copy Posting p dir b request log heard e can = absurd (cc e)
hears_name copy Closing p dir b request log heard e can = absurd (cc e)

pub hears_told : (copy : BrickId) (stage : Stage) (p : Plan) (dir : Entry) (b : ℕ) (request : Request) (log : List Line) (heard : Answer) → is_beginning stage ≡ false → CanHearUnder (Unread copy) stage p dir b request log heard → CanTell dir request (told_by heard)
hears_told copy Beginning p dir b request log heard e can = absurd (cc e)
hears_told copy Locking p dir b request log heard e can = can
hears_told copy Looking p dir b request log heard e can = can
hears_told copy Preparing p dir b request log heard e can = can
hears_told copy Applying p dir b request log heard e can = can
hears_told copy Posting p dir b request log heard e can = can
hears_told copy Closing p dir b request log heard e can = can

-- before the Begin line the locks are those of the lines
held_at : (stage : Stage) {change : Change} {r : Register} {w : Work} → is_beginning stage ≡ true → HoldsAt stage change r w → HoldsName change r w
held_at Beginning e k = k
held_at Locking e k = absurd (cc e)
held_at Looking e k = absurd (cc e)
held_at Preparing e k = absurd (cc e)
held_at Applying e k = absurd (cc e)
held_at Posting e k = absurd (cc e)
held_at Closing e k = absurd (cc e)

module _ (p : Plan) (job : EntryJob) (w : Walk) (lines : Work) (a : ActorId) (log : List Line) (t : TransactionProgress) where
  abbrev c : Command
  c = command_of job w.path

  abbrev dir : Entry
  dir = w.object

  suits : t.change ≡ change_of dir.gfid job → (found : Found) → ChangesName p c job dir t found lines → (view : View) → view.what ≡ dir.what → fits_view (Some view) t.change ≡ true
  suits of found k view e = subst (λ (x : Change). fits_view (Some view) x ≡ true) (sym of) (suits_view dir.gfid job dir view k.directory e)

  -- ---- after a line of the transaction
  abbrev line_of : BrickId → Request → Told → Bool → Line
  line_of b request told took = Ask a b request told took

  told_is : (x : Bool) (told : Told) → x ≡ false → (if x then t else fed t.stage told (length log) t) ≡ fed t.stage told (length log) t
  told_is true told e = absurd (cc e)
  told_is false told e = refl

  unread_more : (copy chosen : BrickId) → IsChanging w job t (Unread copy) → ChangesName p c job dir t (Unread copy) lines → (b : BrickId) (request : Request) (told : Told) (took : Bool) → next_change t.stage (length log) t ≡ next.Ask b request → CanTell dir request told
      → ChangesName p c job dir (fed t.stage told (length log) t) (Unread chosen) ((Ask a b request told took, log) ∷ lines)
  unread_more copy chosen sound k b request told took e can =
      let after = asked_more p lines a log t sound.sound k.on.0 dir b request told took (suits sound.of_job (Unread copy) k) e can in
      let q = quiet p (line_of b request told took) log lines after.1 in
      record {
        place = place_more p job w.path dir (line_of b request told took) log lines k.place;
        directory = k.directory;
        unread = q.reading ∙ k.unread;
        name = name_more (Unread chosen) p c job dir (line_of b request told took) log lines q (λ x none. refl) k.name;
        on = (after.0, holds_more lines a log t sound.sound told took copy t.stage b request sound.in_turn k.on.1 e);
      }

  fits_more : IsChanging w job t Fits → ChangesName p c job dir t Fits lines → (b : BrickId) (request : Request) (told : Told) (took : Bool) → next_change t.stage (length log) t ≡ next.Ask b request → CanTell dir request told
      → ChangesName p c job dir (told_to told (length log) t) Fits ((Ask a b request told took, log) ∷ lines)
  fits_more sound k b request told took e can =
      let after = asked_more p lines a log t sound.sound k.on dir b request told took (suits sound.of_job Fits k) e can in
      let q = quiet p (line_of b request told took) log lines after.1 in
      record {
        place = place_more p job w.path dir (line_of b request told took) log lines k.place;
        directory = k.directory;
        unread = q.reading ∙ k.unread;
        name = name_more Fits p c job dir (line_of b request told took) log lines q (λ x none. refl) k.name;
        on = subst (λ (x : TransactionProgress). TransactionGoes p x ((line_of b request told took, log) ∷ lines)) (sym (told_is (is_beginning t.stage) told after.2)) after.0;
      }

  -- an unlock of a change that was given up
  refused_asks : (why : Refusal) (b : BrickId) (request : Request) → next_under (Refused why) (length log) job w t ≡ next.Ask b request → next_change t.stage (length log) t ≡ next.Ask b request
  refused_asks why b request e = go (is_over t.stage t) e
    where
      go : (x : Bool) → (if x then next.End (reply_to why) else next_change t.stage (length log) t) ≡ next.Ask b request → next_change t.stage (length log) t ≡ next.Ask b request
      go true e = absurd (cc e)
      go false e = e

  refused_more : (why : Refusal) → IsChanging w job t (Refused why) → ChangesName p c job dir t (Refused why) lines → (b : BrickId) (request : Request) (told : Told) (took : Bool) → next_change t.stage (length log) t ≡ next.Ask b request
      → ChangesName p c job dir (told_to told (length log) t) (Refused why) ((Ask a b request told took, log) ∷ lines)
  refused_more why sound k b request told took e =
      let at_stage = asked_stage t.stage (length log) t b request e in
      let q = quiet p (line_of b request told took) log lines (subst (λ (r : Request). is_of_change (Ask a b r told took) ≡ true) at_stage.1 (of_stage t.stage t a b told took)) in
      record {
        place = place_more p job w.path dir (line_of b request told took) log lines k.place;
        directory = k.directory;
        unread = q.reading ∙ k.unread;
        name = name_more (Refused why) p c job dir (line_of b request told took) log lines q (λ x none. refl) k.name;
        on = subst (λ (x : TransactionProgress). GaveUp p ((line_of b request told took, log) ∷ lines) x) (sym (told_is (is_beginning t.stage) told at_stage.0))
            (given_up_kept p lines t a told (line_of b request told took) log sound.sound k.on (subst (λ (n : Next). IsNextLine a n told (line_of b request told took)) (sym e) (took, refl)));
      }

  -- ---- after any line that is told
  pub under_more : (found : Found) → IsChanging w job t found → ChangesName p c job dir t found lines → (b : BrickId) (request : Request) (chosen : BrickId) (heard : Answer) (took : Bool) → next_under found (length log) job w t ≡ next.Ask b request
      → CanHearUnder found t.stage p dir b.0 request log heard
      → TellsIn p c job (or_removes (child_after found heard job t.stage) (progress_after found heard (length log) job w t) (found_after chosen found heard job t.stage)) w ((Ask a b request (told_by heard) took, log) ∷ lines)
  under_more (Unread copy) sound k b request chosen heard took e can = go (is_beginning t.stage) refl e
    where
      named : is_beginning t.stage ≡ true → (child : Option Gfid) → child_by job heard ≡ child → CanName p dir copy.0 (reads_name job w) log heard
          → TellsIn p c job (or_removes child (settled (ruled_out job heard) (name_noted copy job w (told_by heard) (length log) t)) (found_by (ruled_out job heard))) w ((Ask a copy (reads_name job w) (told_by heard) took, log) ∷ lines)
      named f None none can = read_more p job w lines t k.place k.directory k.unread a log copy sound k.on.0 k.name f heard took (name_told p copy.0 dir.gfid (name_of job) log heard can.answers)
      named f (Some child) some can = read_removes p job w lines t k.place k.directory k.unread a log copy sound k.on.0 k.name f (held_at t.stage f k.on.1) heard took child some can

      go : (x : Bool) → is_beginning t.stage ≡ x → (if x then next.Ask copy (reads_name job w) else next_change t.stage (length log) t) ≡ next.Ask b request
          → TellsIn p c job (or_removes (if x then child_by job heard else None) (if x then settled (ruled_out job heard) (name_noted copy job w (told_by heard) (length log) t) else fed t.stage (told_by heard) (length log) t) (if x then found_by (ruled_out job heard) else Unread chosen)) w ((Ask a b request (told_by heard) took, log) ∷ lines)
      go true f e =
          asks_same (λ (d : BrickId) (r : Request). CanName p dir d.0 r log heard
          → TellsIn p c job (or_removes (child_by job heard) (settled (ruled_out job heard) (name_noted copy job w (told_by heard) (length log) t)) (found_by (ruled_out job heard))) w ((Ask a d r (told_by heard) took, log) ∷ lines))
          copy b (reads_name job w) request e (λ can. named f (child_by job heard) refl can) (hears_name copy t.stage p dir b.0 request log heard f can)
      go false f e = unread_more copy chosen sound k b request (told_by heard) took e (hears_told copy t.stage p dir b.0 request log heard f can)
  under_more Fits sound k b request chosen heard took e can = fits_more sound k b request (told_by heard) took e can
  under_more (Refused why) sound k b request chosen heard took e can = refused_more why sound k b request (told_by heard) took (refused_asks why b request e)
