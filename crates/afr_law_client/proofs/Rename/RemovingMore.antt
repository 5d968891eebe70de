-- While the old name is locked, read and removed: what the lines show after one more.
use Rattle.std.proofs.Common.{◌≡◌, ◌-◌, ◌<◌, ◌==◌, Bool, true, false, List, ◌∷◌, Option, Some, None, length, refl, sym, ap, ◌∙◌, subst, if◌then◌else◌}
use Rattle.afr_base.specs.declared.ids.ActorId.{ActorId}
use Rattle.afr_base.specs.declared.ids.BrickId.{BrickId}
use Rattle.afr_base.specs.declared.ids.Gfid.{Gfid}
use Rattle.afr_base.specs.declared.ids.Kind.TheVariants.{Names}
use Rattle.afr_base.specs.declared.ids.What.{What}
use Rattle.afr_base.specs.declared.ids.What.TheVariants.{File, Dir}
use Rattle.afr_choice.specs.VerdictLemmas.{good_below}
use Rattle.afr_discipline.specs.Tests.{fits_view}
use Rattle.afr_lines.specs.Told.{told_by}
use Rattle.afr_lines.specs.Work.{Work}
use Rattle.afr_lines.specs.declared.answer.Answer.{Answer}
use Rattle.afr_lines.specs.declared.answer.Told.{Told}
use Rattle.afr_lines.specs.declared.answer.Told.TheVariants as as_told
use Rattle.afr_lines.specs.declared.line.Line.{Line}
use Rattle.afr_lines.specs.declared.line.Line.TheVariants.{Ask, Begin}
use Rattle.afr_lines.specs.declared.line.Next.TheVariants as next
use Rattle.afr_lines.specs.declared.request.Request.{Request}
use Rattle.afr_object.specs.Tables.{is_file}
use Rattle.afr_object.specs.declared.change.Change.{Change}
use Rattle.afr_object.specs.declared.entry.Entry.{Entry}
use Rattle.afr_object.specs.declared.entry.View.{View}
use Rattle.afr_plan.specs.declared.command.Command.{Command}
use Rattle.afr_plan.specs.declared.command.Command.TheVariants as command
use Rattle.afr_plan.specs.declared.plan.Plan.{Plan}
use Rattle.afr_model.specs.Kept.{entry_after, entry_by}
use Rattle.afr_model.specs.Parts.{the_removal}
use Rattle.afr_model.specs.Showing.{At, begins_attempt}
use Rattle.afr_model.specs.Standing.{place_by}
use Rattle.afr_model.specs.Tables.{entry_at, holds}
use Rattle.afr_client_transaction.specs.Between.{noted_read}
use Rattle.afr_client_transaction.specs.Progress.{TransactionProgress, is_beginning, next_at as next_change, request_at}
use Rattle.afr_client_transaction.specs.Sound.{Sound}
use Rattle.afr_client_transaction.specs.declared.stage.Stage.{Stage}
use Rattle.afr_client_transaction.specs.declared.stage.Stage.TheVariants.{Locking, Looking, Beginning, Preparing, Applying, Posting, Closing}
use Rattle.afr_client_transaction.proofs.ReadLemmas.{begins_at}
use Rattle.afr_law_client.proofs.ReadsLemmas.{reads_kept}
use Rattle.afr_law_client.proofs.Small.{same_gfid}
use Rattle.afr_client_entry.specs.Entry.{found_by, progress_begun, settled}
use Rattle.afr_client_entry.specs.declared.job.EntryJob.TheVariants.{Unlink}
use Rattle.afr_client_entry.specs.declared.refusal.Refusal.{Refusal}
use Rattle.afr_client_entry.specs.declared.refusal.Refusal.TheVariants as refusal_of
use Rattle.afr_client_entry.specs.declared.stage.Found.{Found}
use Rattle.afr_client_entry.specs.declared.stage.Found.TheVariants.{Unread, Fits, Refused}
use Rattle.afr_law_client.proofs.Read.ReadsMore.{asks_same}
use Rattle.afr_law_client.specs.Write.WriteTelling.{CanTell}
use Rattle.afr_law_client.proofs.Write.Goes.{asked_stage}
use Rattle.afr_law_client.specs.Entry.EntryTelling.{CanHearUnder, CanName, TransactionGoes, WasGiven}
use Rattle.afr_law_client.proofs.Entry.Heard.{hears_name, hears_told}
use Rattle.afr_law_client.proofs.Entry.Names as name_told
use Rattle.afr_law_client.proofs.Entry.Names.{NameTold, Quiet, quiet, upto_stays}
use Rattle.afr_law_client.proofs.Entry.Words.{suits_view}
use Rattle.afr_law_client.proofs.Entry.Under.{given_more}
use Rattle.afr_client_entry.specs.Renames.Against.{against_old, is_same}
use Rattle.afr_client_entry.specs.Renames.Paths.{reads_old}
use Rattle.afr_client_entry.specs.Renames.Rename.{IsRemoving}
use Rattle.afr_client_entry.specs.Renames.Under.{found_after, next_under, progress_after}
use Rattle.afr_client_entry.specs.declared.renaming.paths.Paths.{Paths}
use Rattle.afr_law_client.specs.Rename.RenameTelling.{ByFault, ByNothing, ByOther, DropsOldName, LastFits, OldTells, Removes, old_dir}
use Rattle.afr_law_client.proofs.Rename.MakingLocks.{asked_on, asks_own, begins_own, begun_on, of_change, settled_on}
use Rattle.afr_law_client.proofs.Rename.RemovingTurn.{has_made, removes_more}

-- ---- what a line of the transaction leaves of the old name
old_more : (found : Found) (p : Plan) (x : Paths) (line : Line) (log : List Line) (w : Work) → Quiet p line log w → ((copy : BrickId) → found ≡ Unread copy → begins_attempt line ≡ false) → OldTells found p x w → OldTells found p x ((line, log) ∷ w)
old_more (Unread copy) p x line log w q calm k = record { path = q.path ∙ k.path; unrefused = q.refused ∙ k.unrefused; unbegun = rw (calm copy refl, k.unbegun) refl }
old_more Fits p x line log w q calm k = given_more p (command.Unlink x.first.path) (old_dir x) (Some (record { gfid = x.first.object.gfid; what = File })) line log w q k
old_more (Refused why) p x line log w q calm (ByFault f lost) = ByFault (q.refused ∙ f) (q.path ∙ lost)
old_more (Refused why) p x line log w q calm (ByNothing k) = ByNothing (given_more p (command.Unlink x.first.path) (old_dir x) None line log w q k)
old_more (Refused why) p x line log w q calm (ByOther entry e k) = ByOther entry e (given_more p (command.Unlink x.first.path) (old_dir x) (Some entry) line log w q k)

-- the entry that was read last stays it
last_request : (p : Plan) (stage : Stage) (t : TransactionProgress) (a : ActorId) (b : BrickId) (told : Told) (took : Bool) (log : List Line) (was : Option Entry) → entry_after p (Ask a b (request_at stage t) told took) log was ≡ was
last_request p Locking t a b told took log was = refl
last_request p Looking t a b told took log was = refl
last_request p Beginning t a b told took log was = refl
last_request p Preparing t a b told took log was = refl
last_request p Applying t a b told took log was = refl
last_request p Posting t a b told took log was = refl
last_request p Closing t a b told took log was = refl

-- an entry that leads to the file
file_is : (what : What) → is_file what ≡ true → what ≡ File
file_is File e = refl
file_is Dir e = absurd (cc e)

pub same_entry : (file : Gfid) (entry : Entry) → is_same file entry ≡ true → entry ≡ record { gfid = file; what = File }
same_entry file entry e = go (is_file entry.what) refl e
  where
    go : (f : Bool) → is_file entry.what ≡ f → (if f then entry.gfid.0 == file.0 else false) ≡ true → entry ≡ record { gfid = file; what = File }
    go true f h = let g = same_gfid entry.gfid file h in let w = file_is entry.what f in rebuilt g w
      where
        rebuilt : entry.gfid ≡ file → entry.what ≡ File → entry ≡ record { gfid = file; what = File }
        rebuilt g w = ap (λ (y : What). let z : Entry = record { gfid = entry.gfid; what = y } in z) w ∙ ap (λ (y : Gfid). let z : Entry = record { gfid = y; what = File } in z) g
    go false f h = absurd (cc h)

module _ (p : Plan) (x : Paths) (t : TransactionProgress) (lines : Work) (a : ActorId) (log : List Line) where
  abbrev removal : Work
  removal = the_removal x.first.path lines

  abbrev c : Command
  c = command.Unlink x.first.path

  abbrev dir : Entry
  dir = old_dir x

  abbrev file : Gfid
  file = x.first.object.gfid

  place_stays : (line : Line) (found : Found) → DropsOldName p x t found removal → place_by p c ((line, log) ∷ removal) ≡ At (length x.first.path - 1) dir
  place_stays line found k = upto_stays (length x.first.path - 1) p removal line log dir k.place

  -- ---- a request of the transaction
  module _ (found : Found) (k : Removes p x t found lines) (sound : IsRemoving x t found) where
    suits : (view : View) → view.what ≡ dir.what → fits_view (Some view) t.change ≡ true
    suits view e = subst (λ (y : Change). fits_view (Some view) y ≡ true) (sym sound.under.of) (suits_view x.dir (Unlink x.old_name) dir view refl e)

    module _ (b : BrickId) (request : Request) (told : Told) (took : Bool) (e : next_change t.stage (length log) t ≡ next.Ask b request) where
      abbrev asks : Line
      asks = Ask a b request told took

      not_begun : is_beginning t.stage ≡ false
      not_begun = (asked_stage t.stage (length log) t b request e).0

      last_on : (why : Option Refusal) (chosen : BrickId) → LastFits (found_after chosen found why t.stage) p x ((asks, log) ∷ lines)
      last_on why chosen = go found k.last
        where
          still : entry_by p ((asks, log) ∷ lines) ≡ entry_by p lines
          still = subst (λ (r : Request). entry_after p (Ask a b r told took) log (entry_by p lines) ≡ entry_by p lines) (asked_stage t.stage (length log) t b request e).1 (last_request p t.stage t a b told took log (entry_by p lines))

          go : (y : Found) → LastFits y p x lines → LastFits (found_after chosen y why t.stage) p x ((asks, log) ∷ lines)
          go (Unread copy) h = let none = not_begun in rw none tt
          go Fits h = still ∙ h
          go (Refused r) h = tt

      pub asked_removes : (chosen : BrickId) (why : Option Refusal) → CanTell dir request told → Removes p x (progress_after found why (reads_old x) told (length log) t) (found_after chosen found why t.stage) ((asks, log) ∷ lines)
      asked_removes chosen why can =
          removes_more p x lines asks log (progress_after found why (reads_old x) told (length log) t) (found_after chosen found why t.stage) (k.again asks) (has_made p x t found lines k) (last_on why chosen)
          (record {
            place = place_stays asks found k.tells;
            unread = q.reading ∙ k.tells.unread;
            name = named found k.tells.name;
            on = asked_on p removal a log t sound.under.sound dir suits b request told took e found chosen why (reads_old x) sound.under.in_turn k.tells.on can;
          })
        where
          q : Quiet p asks log removal
          q = quiet p asks log removal (of_change p removal a log t sound.under.sound dir suits b request told took e)

          named : (y : Found) → OldTells y p x removal → OldTells (found_after chosen y why t.stage) p x ((asks, log) ∷ removal)
          named (Unread copy) n = let none = not_begun in rw none (old_more (Unread chosen) p x asks log removal q (λ z is. refl) n)
          named Fits n = old_more Fits p x asks log removal q (λ z is. refl) n
          named (Refused r) n = old_more (Refused r) p x asks log removal q (λ z is. refl) n

  -- ---- the read of the name
  module _ (copy : BrickId) (k : Removes p x t (Unread copy) lines) (sound : IsRemoving x t (Unread copy)) (at_begin : is_beginning t.stage ≡ true) (took : Bool) where
    abbrev reads : Told → Line
    reads told = Ask a copy (reads_old x) told took

    abbrev noted : Told → TransactionProgress
    noted told = noted_read copy.0 (reads_old x) told (length log) t

    small : copy.0 < 5
    small = good_below t.register.shape t.register.looked Names copy.0 (sound.under.reads at_begin)

    goes : (told : Told) → TransactionGoes p (noted told) ((reads told, log) ∷ removal) × Sound (noted told)
    goes told = let h = reads_kept p removal t a copy (reads_old x) told took log small tt (begins_at t.stage at_begin) sound.under.sound k.tells.on.0.tells in (
      record { tells = h.tells; excused = h.excused k.tells.on.0.excused; calm = h.calm k.tells.on.0.calm; fitting = k.tells.on.0.fitting },
      h.sound,
    )

    settles : (told : Told) (why : Option Refusal) → OldTells (found_by why) p x ((reads told, log) ∷ removal) → LastFits (found_by why) p x ((reads told, log) ∷ lines)
        → Removes p x (settled why (noted told)) (found_by why) ((reads told, log) ∷ lines)
    settles told why name last =
        removes_more p x lines (reads told) log (settled why (noted told)) (found_by why) (k.again (reads told)) (has_made p x t (Unread copy) lines k) last
        (record {
          place = place_stays (reads told) (Unread copy) k.tells;
          unread = k.tells.unread;
          name = name;
          on = settled_on p ((reads told, log) ∷ removal) a log (noted told) (goes told).1 why (begins_at t.stage at_begin) (goes told).0;
        })

    given : (entry : Option Entry) → entry_at x.dir x.old_name (holds p log copy.0) ≡ entry → WasGiven p c dir entry ((reads as_told.Given, log) ∷ removal)
    given entry e = record { path = rw (e, k.tells.name.path) refl; unrefused = k.tells.name.unrefused }

    by_same : (entry : Entry) → entry_at x.dir x.old_name (holds p log copy.0) ≡ Some entry → (same : Bool) → is_same file entry ≡ same
        → Removes p x (settled (if same then None else Some refusal_of.NoEntry) (noted as_told.Given)) (found_by (if same then None else Some refusal_of.NoEntry)) ((reads as_told.Given, log) ∷ lines)
    by_same entry e true f =
        settles as_told.Given None
        (subst (λ (y : Entry). WasGiven p c dir (Some y) ((reads as_told.Given, log) ∷ removal)) (same_entry file entry f) (given (Some entry) e))
        (e ∙ ap (λ (y : Entry). Some y) (same_entry file entry f))
    by_same entry e false f = settles as_told.Given (Some refusal_of.NoEntry) (ByOther entry f (given (Some entry) e)) tt

    abbrev Left : Answer → Type 0
    Left heard = Removes p x (settled (against_old file heard) (noted (told_by heard))) (found_by (against_old file heard)) ((reads (told_by heard), log) ∷ lines)

    read_removes : (heard : Answer) → NameTold p copy.0 x.dir x.old_name log heard → Left heard
    read_removes heard (name_told.Found None e f) = subst Left (sym e) (settles as_told.Given (Some refusal_of.NoEntry) (ByNothing (given None f)) tt)
    read_removes heard (name_told.Found (Some entry) e f) = subst Left (sym e) (by_same entry f (is_same file entry) refl)
    read_removes heard (name_told.Lost e) = subst Left (sym e) (settles as_told.NotConnected (Some refusal_of.Failed) (ByFault refl refl) tt)
    read_removes heard (name_told.Fails e) = subst Left (sym e) (settles as_told.Failed (Some refusal_of.Failed) (ByFault refl refl) tt)

  -- ---- any line that is told
  pub removing_more : (found : Found) → Removes p x t found lines → IsRemoving x t found → (b : BrickId) (request : Request) (chosen : BrickId) (heard : Answer) (took : Bool) → next_under found (length log) (reads_old x) t ≡ next.Ask b request
      → CanHearUnder found t.stage p dir b.0 request log heard
      → Removes p x (progress_after found (against_old file heard) (reads_old x) (told_by heard) (length log) t) (found_after chosen found (against_old file heard) t.stage) ((Ask a b request (told_by heard) took, log) ∷ lines)
  removing_more (Unread copy) k sound b request chosen heard took e can = go (is_beginning t.stage) refl e
    where
      go : (y : Bool) → is_beginning t.stage ≡ y → (if y then next.Ask copy (reads_old x) else next_change t.stage (length log) t) ≡ next.Ask b request
          → Removes p x (progress_after (Unread copy) (against_old file heard) (reads_old x) (told_by heard) (length log) t) (found_after chosen (Unread copy) (against_old file heard) t.stage) ((Ask a b request (told_by heard) took, log) ∷ lines)
      go true f e =
          asks_same (λ (d : BrickId) (r : Request). CanName p dir d.0 r log heard
          → Removes p x (progress_after (Unread copy) (against_old file heard) (reads_old x) (told_by heard) (length log) t) (found_after chosen (Unread copy) (against_old file heard) t.stage) ((Ask a d r (told_by heard) took, log) ∷ lines))
          copy b (reads_old x) request e (λ can. rw f (read_removes copy k sound f took heard (name_told.name_told p copy.0 x.dir x.old_name log heard can.answers))) (hears_name copy t.stage p dir b.0 request log heard f can)
      go false f e = asked_removes (Unread copy) k sound b request (told_by heard) took e chosen (against_old file heard) (hears_told copy t.stage p dir b.0 request log heard f can)
  removing_more Fits k sound b request chosen heard took e can = asked_removes Fits k sound b request (told_by heard) took (asks_own Fits (length log) (reads_old x) t b request (λ z is. absurd (cc is)) e) chosen (against_old file heard) can
  removing_more (Refused why) k sound b request chosen heard took e can =
      asked_removes (Refused why) k sound b request (told_by heard) took (asks_own (Refused why) (length log) (reads_old x) t b request (λ z is. absurd (cc is)) e) chosen (against_old file heard) can

  -- ---- the Begin line
  begun_fits : Removes p x t Fits lines → IsRemoving x t Fits → (change : Change) → next_change t.stage (length log) t ≡ next.Begin change → Removes p x (progress_begun Fits (length log) t) Fits ((Begin a change, log) ∷ lines)
  begun_fits k sound change e =
      let q = quiet p (Begin a change) log removal refl in
      removes_more p x lines (Begin a change) log (progress_begun Fits (length log) t) Fits (k.again (Begin a change)) (has_made p x t Fits lines k) k.last
      (record {
        place = place_stays (Begin a change) Fits k.tells;
        unread = q.reading ∙ k.tells.unread;
        name = old_more Fits p x (Begin a change) log removal q (λ z is. absurd (cc is)) k.tells.name;
        on = begun_on p removal a log t sound.under.sound change e k.tells.on;
      })

  pub removing_begun : (found : Found) → Removes p x t found lines → IsRemoving x t found → (change : Change) → next_under found (length log) (reads_old x) t ≡ next.Begin change
      → Removes p x (progress_begun found (length log) t) found ((Begin a change, log) ∷ lines)
  removing_begun found k sound change e = let own = begins_own found p (length log) (reads_old x) t removal change k.tells.on e in go found own.0 own.1 k sound
    where
      go : (y : Found) → y ≡ Fits → next_change t.stage (length log) t ≡ next.Begin change → Removes p x t y lines → IsRemoving x t y → Removes p x (progress_begun y (length log) t) y ((Begin a change, log) ∷ lines)
      go (Unread copy) is own k sound = absurd (cc is)
      go Fits is own k sound = begun_fits k sound change own
      go (Refused why) is own k sound = absurd (cc is)
