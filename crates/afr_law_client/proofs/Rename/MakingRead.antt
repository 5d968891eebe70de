-- The read of the new name and the Begin line of its making: what the lines show after them.
use Rattle.std.proofs.Common.{◌≡◌, Bool, true, false, List, ◌∷◌, Option, Some, None, length, refl, ap, ◌∙◌, subst, if◌then◌else◌}
use Rattle.afr_base.specs.declared.ids.ActorId.{ActorId}
use Rattle.afr_base.specs.declared.ids.BrickId.{BrickId}
use Rattle.afr_base.specs.declared.ids.NameId.{NameId}
use Rattle.afr_lines.specs.Told.{told_by}
use Rattle.afr_lines.specs.Work.{Work}
use Rattle.afr_lines.specs.declared.answer.Answer.{Answer}
use Rattle.afr_lines.specs.declared.line.Line.{Line}
use Rattle.afr_lines.specs.declared.line.Line.TheVariants.{Ask, Begin}
use Rattle.afr_lines.specs.declared.line.Next.TheVariants as next
use Rattle.afr_lines.specs.declared.request.Request.{Request}
use Rattle.afr_model_moves.specs.Past.{is_gone}
use Rattle.afr_object.specs.declared.change.Change.{Change}
use Rattle.afr_object.specs.declared.entry.Entry.{Entry}
use Rattle.afr_plan.specs.declared.command.Command.{Command}
use Rattle.afr_plan.specs.declared.command.Command.TheVariants as command
use Rattle.afr_plan.specs.declared.plan.Plan.{Plan}
use Rattle.afr_model.specs.Parts.{the_make}
use Rattle.afr_client_transaction.specs.Between.{noted_read}
use Rattle.afr_client_transaction.specs.Progress.{TransactionProgress, is_beginning, next_at as next_change}
use Rattle.afr_client_transaction.proofs.ReadLemmas.{begins_at}
use Rattle.afr_client_entry.specs.Entry.{found_by, progress_begun, settled}
use Rattle.afr_client_entry.specs.declared.job.EntryJob.{EntryJob}
use Rattle.afr_client_entry.specs.declared.job.EntryJob.TheVariants.{Create}
use Rattle.afr_client_entry.specs.declared.refusal.Refusal.{Refusal}
use Rattle.afr_client_entry.specs.declared.stage.Found.{Found}
use Rattle.afr_client_entry.specs.declared.stage.Found.TheVariants.{Unread, Fits, Refused}
use Rattle.afr_law_client.proofs.Read.ReadsMore.{asks_same}
use Rattle.afr_law_client.specs.Entry.EntryTelling.{CanHearUnder, CanName, ChangesName}
use Rattle.afr_law_client.proofs.Entry.Changing.{name_goes, name_read}
use Rattle.afr_law_client.proofs.Entry.Heard.{hears_name, hears_told}
use Rattle.afr_law_client.proofs.Entry.Names.{name_told, quiet}
use Rattle.afr_law_client.proofs.Entry.Under.{name_more, place_more}
use Rattle.afr_client_entry.specs.Renames.Against.{against_new}
use Rattle.afr_client_entry.specs.Renames.Paths.{reads_new}
use Rattle.afr_client_entry.specs.Renames.Rename.{IsMaking}
use Rattle.afr_client_entry.specs.Renames.Under.{found_after, next_under, progress_after}
use Rattle.afr_client_entry.specs.declared.renaming.paths.Paths.{Paths}
use Rattle.afr_law_client.specs.Second.Held.{Holds}
use Rattle.afr_law_client.proofs.Second.HeldLemmas.{held_given_up, held_read}
use Rattle.afr_law_client.specs.Rename.RenameTelling.{LocksLeg, MakesNewName, to_of}
use Rattle.afr_law_client.proofs.Rename.MakingLocks.{asks_own, begins_own, begun_held, begun_on}
use Rattle.afr_law_client.proofs.Rename.MakingMore.{asked_makes, given_new, goes_to, last_now, legs_now, like, ruled_new}
use Rattle.afr_law_client.proofs.Rename.MakingWalked.{waits_unlocked}

module _ (p : Plan) (x : Paths) (t : TransactionProgress) (lines : Work) (a : ActorId) (log : List Line) where
  abbrev from : List NameId
  from = x.first.path

  abbrev make : Work
  make = the_make from lines

  abbrev dir : Entry
  dir = x.second.object

  abbrev job : EntryJob
  job = Create x.new_name

  abbrev c : Command
  c = command.Create (to_of x)

  -- ---- the read of the name
  module _ (copy : BrickId) (k : MakesNewName p x t (Unread copy) lines) (sound : IsMaking x t (Unread copy)) (at_begin : is_beginning t.stage ≡ true) (heard : Answer) (took : Bool) where
    abbrev reads : Line
    reads = Ask a copy (reads_new x) (told_by heard) took

    abbrev noted : TransactionProgress
    noted = noted_read copy.0 (reads_new x) (told_by heard) (length log) t

    abbrev Left : Option Refusal → Type 0
    Left why = ChangesName p c job dir (settled why noted) (found_by why) ((reads, log) ∷ make)

    told_name : CanName p dir copy.0 (reads_new x) log heard → Left (against_new heard)
    told_name can = subst Left (ruled_new x heard)
        (name_read p job x.second make t k.tells.place k.tells.directory k.tells.unread a log copy sound.under.sound (like p x t (Unread copy) lines a log k sound) sound.under.reads k.tells.on.0 k.tells.name at_begin heard took
        (name_told p copy.0 dir.gfid x.new_name log heard can.answers))

    held_name : (why : Option Refusal) → against_new heard ≡ why → Holds (settled why noted) ((reads, log) ∷ make)
    held_name None e = held_read make t a copy (reads_new x) (told_by heard) took log (begins_at t.stage at_begin) sound.under.sound refl (ap is_gone (given_new heard e)) k.holds
    held_name (Some why) e =
        held_given_up ((reads, log) ∷ make) noted (begins_at t.stage at_begin)
        (name_goes p job x.second make t k.tells.place k.tells.directory k.tells.unread a log copy sound.under.sound (like p x t (Unread copy) lines a log k sound) sound.under.reads k.tells.on.0 k.tells.name at_begin (told_by heard) took).1

    settled_leg : (why : Option Refusal) → LocksLeg (found_by why) dir.gfid ((reads, log) ∷ make) ((reads, log) ∷ lines)
    settled_leg None = tt
    settled_leg (Some why) = tt

    read_makes : CanName p dir copy.0 (reads_new x) log heard → MakesNewName p x (settled (against_new heard) noted) (found_by (against_new heard)) ((reads, log) ∷ lines)
    read_makes can =
        goes_to p x t (Unread copy) lines a log k sound reads (waits_unlocked p x lines k.on reads refl) (settled (against_new heard) noted) (found_by (against_new heard))
        (last_now p x t (Unread copy) lines a log k sound, legs_now p x t (Unread copy) lines a log k sound)
        (λ g seen. absurd (cc seen))
        (settled_leg (against_new heard))
        (told_name can)
        (held_name (against_new heard) refl)

  -- ---- any line that is told
  pub making_more : (found : Found) → MakesNewName p x t found lines → IsMaking x t found → (b : BrickId) (request : Request) (chosen : BrickId) (heard : Answer) (took : Bool) → next_under found (length log) (reads_new x) t ≡ next.Ask b request
      → CanHearUnder found t.stage p dir b.0 request log heard
      → MakesNewName p x (progress_after found (against_new heard) (reads_new x) (told_by heard) (length log) t) (found_after chosen found (against_new heard) t.stage) ((Ask a b request (told_by heard) took, log) ∷ lines)
  making_more (Unread copy) k sound b request chosen heard took e can = go (is_beginning t.stage) refl e
    where
      go : (y : Bool) → is_beginning t.stage ≡ y → (if y then next.Ask copy (reads_new x) else next_change t.stage (length log) t) ≡ next.Ask b request
          → MakesNewName p x (progress_after (Unread copy) (against_new heard) (reads_new x) (told_by heard) (length log) t) (found_after chosen (Unread copy) (against_new heard) t.stage) ((Ask a b request (told_by heard) took, log) ∷ lines)
      go true f e =
          asks_same (λ (d : BrickId) (r : Request). CanName p dir d.0 r log heard
          → MakesNewName p x (progress_after (Unread copy) (against_new heard) (reads_new x) (told_by heard) (length log) t) (found_after chosen (Unread copy) (against_new heard) t.stage) ((Ask a d r (told_by heard) took, log) ∷ lines))
          copy b (reads_new x) request e (λ can. rw f (read_makes copy k sound f heard took can)) (hears_name copy t.stage p dir b.0 request log heard f can)
      go false f e = asked_makes p x t (Unread copy) lines a log k sound b request (told_by heard) took e chosen (against_new heard) (hears_told copy t.stage p dir b.0 request log heard f can)
  making_more Fits k sound b request chosen heard took e can = asked_makes p x t Fits lines a log k sound b request (told_by heard) took (asks_own Fits (length log) (reads_new x) t b request (λ z is. absurd (cc is)) e) chosen (against_new heard) can
  making_more (Refused why) k sound b request chosen heard took e can =
      asked_makes p x t (Refused why) lines a log k sound b request (told_by heard) took (asks_own (Refused why) (length log) (reads_new x) t b request (λ z is. absurd (cc is)) e) chosen (against_new heard) can

  -- ---- the Begin line
  begun_fits : MakesNewName p x t Fits lines → IsMaking x t Fits → (change : Change) → next_change t.stage (length log) t ≡ next.Begin change → MakesNewName p x (progress_begun Fits (length log) t) Fits ((Begin a change, log) ∷ lines)
  begun_fits k sound change e =
      let q = quiet p (Begin a change) log make refl in
      goes_to p x t Fits lines a log k sound (Begin a change) (waits_unlocked p x lines k.on (Begin a change) refl) (progress_begun Fits (length log) t) Fits
      (tt, legs_now p x t Fits lines a log k sound)
      (λ g seen unlocked b l. last_now p x t Fits lines a log k sound g seen unlocked b l)
      tt
      (record {
        place = place_more p job x.second.path dir (Begin a change) log make k.tells.place;
        directory = k.tells.directory;
        unread = q.reading ∙ k.tells.unread;
        name = name_more Fits p c job dir (Begin a change) log make q (λ z is. absurd (cc is)) k.tells.name;
        on = begun_on p make a log t sound.under.sound change e k.tells.on;
      })
      (begun_held p make a log t sound.under.sound change e k.tells.on k.holds)

  pub making_begun : (found : Found) → MakesNewName p x t found lines → IsMaking x t found → (change : Change) → next_under found (length log) (reads_new x) t ≡ next.Begin change
      → MakesNewName p x (progress_begun found (length log) t) found ((Begin a change, log) ∷ lines)
  making_begun found k sound change e = let own = begins_own found p (length log) (reads_new x) t make change k.tells.on e in go found own.0 k sound
    where
      own_begin : next_change t.stage (length log) t ≡ next.Begin change
      own_begin = (begins_own found p (length log) (reads_new x) t make change k.tells.on e).1

      go : (y : Found) → y ≡ Fits → MakesNewName p x t y lines → IsMaking x t y → MakesNewName p x (progress_begun y (length log) t) y ((Begin a change, log) ∷ lines)
      go (Unread copy) is k sound = absurd (cc is)
      go Fits is k sound = begun_fits k sound change own_begin
      go (Refused why) is k sound = absurd (cc is)
